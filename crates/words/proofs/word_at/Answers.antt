use native.Mathlib.Omega.{arith}
use Rattle.words.specs.Laws.{word_is}
use Rattle.words.proofs.word_at.Goals as goal

pub returns : goal.returns
returns c =
    let third = c in
    let second = third in
    let first = second in
    let s = first in
    let word = word_is s.args.k s.args.bytes.now s.requires in
    omega (arith, word, c.wide-d.ensures, third.wide-c.ensures, second.wide-b.ensures, first.wide-a.ensures)
