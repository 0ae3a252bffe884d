-- The first k words are stored.
use Rattle.std.specs.Prelude.{◌+◌, take}
use Rattle.saving.specs.Storing.{Stored}
use Rattle.saving.proofs.put_words.Given as goal

abbrev pub invariant-loop-k : goal.invariant-loop-k
invariant-loop-k g l = Stored l.initial.file l.word (take l.k l.fn.words) l.file (l.word + l.k)
