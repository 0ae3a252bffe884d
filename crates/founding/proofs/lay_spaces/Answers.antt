-- One body after another: its frames are linked behind those before them.
use Rattle.words.specs.Words.{words_in}
use Rattle.founding.proofs.Laying.{no_space_laid, space_laid}
use Rattle.founding.proofs.lay_spaces.Goals as goal

pub loop-i-init : goal.loop-i-init
loop-i-init c = no_space_laid (words_in c.args.bytes.now) c.args.link.now

pub loop-i-preserved : goal.loop-i-preserved
loop-i-preserved c =
    space_laid (words_in c.args.bytes.now) c.loop-i.i c.loop-i.invariant (rw (← c.body_at.ensures.part) c.lay_body-laid.ensures)
