-- The four words, the page size, the limits, then the contents' length.
use mathlib.Core.Path.{sym, ◌∙◌}
use Rattle.judging.proofs.Sizing.{no_page_size, outside_limits, sizes_told}
use Rattle.judging.proofs.contents_of.Goals as goal

pub returns-in_default : goal.returns-in_default
returns-in_default c =
    no_page_size _ _ _ _ _ c.word_at-spaces.ensures c.word_at-pages.ensures c.word_at-frames.ensures
    c.word_at.ensures _ c.of.ensures _ c.in_default.is

pub returns-then-not-sizes_ok : goal.returns-then-not-sizes_ok
returns-then-not-sizes_ok c =
    outside_limits _ _ _ _ _ c.word_at-spaces.ensures c.word_at-pages.ensures c.word_at-frames.ensures
    c.word_at.ensures _ c.of.ensures _ c.in-Ok.is (sym c.sizes_ok.ensures ∙ c.if-not-sizes_ok.true)

pub returns : goal.returns
returns c =
    sizes_told _ _ _ _ _ c.word_at-spaces.ensures c.word_at-pages.ensures c.word_at-frames.ensures
    c.word_at.ensures _ c.of.ensures _ c.in-Ok.is (sym c.sizes_ok.ensures ∙ c.if-not-sizes_ok.false)
    (sym c.is_whole.ensures ∙ c.if-not-is_whole.false)
