-- On any memory: the bounds of what mapping a page changes.
use Rattle.std.specs.Prelude.{◌≡◌, refl, List, [], ◌∷◌, ℕ, zero, suc, ◌+◌, ◌<◌, length, get_or}
use Rattle.std.proofs.Common.{sym, ap, ◌∙◌, subst, add-zero, arith, length-set, drop-set-lt, get_or-set_same, get_or-set_other}
use Rattle.sequence.specs.Lists.{each_one}
use Rattle.machine.specs.Machine.{place_of, page_mapped}
use Rattle.memory.specs.Memory.{Memory, sizes_of}
use Rattle.memory.specs.declared.Head.{Head}
use Rattle.promise.specs.Did.{frames_left, Maps, FrameOf, Writes, NewPage}
use Rattle.promise.specs.Shown.{Shown}
use Rattle.promise.specs.Within.{Within}
use Rattle.pool.specs.Models.{taken_from, taken}
use Rattle.laws.specs.Refusals.{words_none, words_set}
use Rattle.planning.proofs.Planning.{Inside}
use Rattle.entries.specs.Models.{map_entry, map_page}

-- a frame taken changes no size
pub sizes_taken : (link : List ℕ) (h : Head) (n : ℕ) → sizes_of (taken_from link h n).head ≡ sizes_of h
sizes_taken link h zero = refl
sizes_taken link h (suc n) = refl

-- a frame that is taken is one frame less
one_less : (link : List ℕ) (h : Head) (n : ℕ) → h.many ≡ n → (taken_from link h n).frame < h.frames
    → frames_left h ≡ frames_left (taken_from link h n).head + 1
one_less link h zero e low = omega arith
one_less link h (suc n) e low = omega arith

-- what mapping may change: one word in each table, and the bytes of the frame
map_bounds : (k : Memory) (i b p a : ℕ) → p ≡ place_of (sizes_of k.head) i b → (Shown k i b → ⊥) → Inside k p a
    → Maps (sizes_of k.head) i b 1 k (map_page k a p)
map_bounds k i b p a is hidden g =
    record {
      mapped = 1;
      taken = one_less k.link k.head k.head.many refl g.frame;
      few = omega arith;
      none = λ e. absurd (omega arith);
      shown = λ all. absurd (hidden (subst (Shown k i) (add-zero b) (all 0 (omega arith))));
      sizes = sizes_taken k.link k.head k.head.many;
      index = refl;
      count = words_set _ k.count a _ g.start;
      table = words_set _ k.table p _ g.place;
      helper = words_set _ k.helper p _ g.place;
      stack = words_set _ k.stack _ p g.top;
      cache = words_set _ k.cache p a g.place;
      link = words_set _ k.link _ _ g.frame;
      others = λ q d. get_or-set_other k.table p q _ 0 (λ e. d 0 (omega arith) (ap (place_of (sizes_of k.head) i) (add-zero b) ∙ sym is ∙ sym e));
    }

-- past the sizes nothing changes
pub entry_within : (k : Memory) (p a : ℕ) → Inside k p a → Within (sizes_of k.head) k (map_entry k a p)
entry_within k p a g =
    record {
      long = simp length-set refl;
      index = refl;
      count = drop-set-lt _ k.count a _ g.start;
      table = drop-set-lt _ k.table p _ g.place;
      helper = drop-set-lt _ k.helper p _ g.place;
      stack = drop-set-lt _ k.stack _ p g.top;
      cache = drop-set-lt _ k.cache p a g.place;
      link = drop-set-lt _ k.link _ _ g.frame;
    }

-- the frame taken is the page's
map_put : (k : Memory) (p a : ℕ) → p < length k.table → get_or (map_page k a p).table p 0 ≡ (taken k.link k.head).frame
map_put k p a long = get_or-set_same k.table p _ 0 long

pub map_tells : (k : Memory) (i b p a : ℕ) → p ≡ place_of (sizes_of k.head) i b → p < length k.table → Inside k p a
    → NewPage (page_mapped i b) (taken k.link k.head).frame k (map_page k a p)
map_tells k i b p a is long g = (
  one_less k.link k.head k.head.many refl g.frame,
  ap (λ (q : ℕ). get_or (map_page k a p).table q 0) (sym is) ∙ map_put k p a long,
  refl,
)

pub map_writes : (k : Memory) (i b p a : ℕ) → p ≡ place_of (sizes_of k.head) i b → p < length k.table → (Shown k i b → ⊥) → Inside k p a
    → Writes (sizes_of k.head) i b 1 0 (λ q. ⊥) k (map_page k a p)
unfolding map_bounds
map_writes k i b p a is long hidden g =
    record {
      maps = map_bounds k i b p a is hidden g;
      fills =
          record {
            frames = (taken k.link k.head).frame ∷ [];
            one_each = refl;
            below = each_one 0 (λ f. f < k.head.frames) _ g.frame;
            own = each_one 0 (FrameOf (sizes_of k.head) i b 1 (map_page k a p).table) _ (0, omega arith, here);
            stored = words_none 0 _ _;
            others = λ q d. refl;
          };
    }
  where
    here : get_or (map_page k a p).table (place_of (sizes_of k.head) i (b + 0)) 0 ≡ (taken k.link k.head).frame
    here =
        ap (λ (q : ℕ). get_or (map_page k a p).table q 0) (ap (place_of (sizes_of k.head) i) (add-zero b) ∙ sym is)
        ∙ map_put k p a long
