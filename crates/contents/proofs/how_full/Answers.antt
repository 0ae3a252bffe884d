-- Contents, the number of spaces, the space; then its third word.
use mathlib.Core.Path.{◌≡◌, sym}
use mathlib.Core.Bool.{true}
use native.Mathlib.Omega.{arith}
use Rattle.sequence.specs.Tests.{failed, held}
use Rattle.machine.specs.MapRules.{contents_whole}
use Rattle.machine.proofs.Laws.Map.Fullness.{contents_long}
use Rattle.contents.proofs.Telling.{cut_short, too_few, too_many, no_space, told}
use Rattle.contents.proofs.how_full.Goals as goal
use Rattle.contents.proofs.how_full.Goals.{Else-not-is_whole}

whole : (c : Else-not-is_whole) → contents_whole c.args.bytes.now ≡ true
whole c = held c.is_whole.ensures c.if-not-is_whole.false-raw

pub returns-then-not-is_whole : goal.returns-then-not-is_whole
returns-then-not-is_whole c = sym (cut_short _ c.args.space (failed c.is_whole.ensures c.if-not-is_whole.true-raw))

pub index_at-spaces-requires : goal.index_at-spaces-requires
index_at-spaces-requires c = omega (arith, contents_long _ (whole (goal.at.index_at-spaces-requires c).Else-not-is_whole))

pub returns-then-spaces-lt1 : goal.returns-then-spaces-lt1
returns-then-spaces-lt1 c =
    sym (too_few _ c.args.space _ c.index_at-spaces.ensures.0 (whole (goal.at.returns-then-spaces-lt1 c).Else-not-is_whole) c.if-spaces-lt1.true)

pub returns-then-spaces-gt64 : goal.returns-then-spaces-gt64
returns-then-spaces-gt64 c =
    sym (too_many _ c.args.space _ c.index_at-spaces.ensures.0 (whole (goal.at.returns-then-spaces-gt64 c).Else-not-is_whole) c.if-spaces-lt1.false c.if-spaces-gt64.true)

pub returns-then-spaces-i : goal.returns-then-spaces-i
returns-then-spaces-i c =
    sym (no_space _ _ _ c.index_at-spaces.ensures.0 (whole (goal.at.returns-then-spaces-i c).Else-not-is_whole) c.if-spaces-lt1.false c.if-spaces-gt64.false c.if-spaces-i.true)

pub count_at-requires : goal.count_at-requires
count_at-requires c = omega (arith, contents_long _ (whole (goal.at.count_at-requires c).Else-not-is_whole), c.index_at-spaces.ensures.0, c.if-spaces-i.false)

pub returns : goal.returns
returns c =
    sym (told _ _ _ c.index_at-spaces.ensures.0 (whole (goal.at.returns c).Else-not-is_whole) c.if-spaces-lt1.false c.if-spaces-gt64.false c.if-spaces-i.false _ c.count_at.ensures.0)
