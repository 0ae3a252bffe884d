-- `extent::size` meets its contract: the words are those of each layer.
use Rattle.extent.proofs.Sized.{few_words, all_words}
use Rattle.extent.proofs.size.Goals as goal

pub returns : goal.returns
returns c =
    let pre = c.requires in (
      all_words pre.0 pre.1 c.signum.ensures c.signum-2.ensures,
      few_words pre.0 pre.1 c.signum.ensures c.signum-2.ensures,
    )
