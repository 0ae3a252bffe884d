-- What a call that kept its promise left as long as it was, on any memory, and the sizes of one that begins nothing.
use Rattle.std.specs.Prelude.{◌≡◌, refl, ℕ, zero, suc, length}
use Rattle.std.proofs.Common.{sym, ap, ◌∙◌, arith}
use Rattle.std.proofs.Math.Option.{none, none-ne-some}
use Rattle.machine.specs.Machine.{Lent, Call, start, page, free, translate, read, write, list, write_map, read_map, facts, Effect}
use Rattle.machine.specs.Machine.{unchanged, prepared, refilled, start_put, page_mapped, region_emptied, page_given_back, span_stored, asked, Answer, Sizes}
use Rattle.machine.proofs.Laws.Calls.{map_described}
use Rattle.machine.specs.declared.PageCall.TheVariants.{Mark, Drop, Touch, Look, Release, GiveBack}
use Rattle.memory.specs.Memory.{Memory, sizes_of, lengths}
use Rattle.promise.specs.Did.{Exactly, still, Tables, Writes, BoundsBy, Did}
use Rattle.promise.proofs.Refuses.{zeroed_all_long}
use Rattle.laws.specs.Refusals.{PreparesNothing, refusal_still}

-- words were changed, none added
tables_long_lem : {z : Sizes} {i c t e s a l : ℕ} {k k' : Memory} → Tables z i c t e s a l k k' → lengths k' ≡ lengths k
tables_long_lem w = λ j.
    record {
      index = w.index.few.size j;
      count = w.count.few.size j;
      table = w.table.few.size j;
      helper = w.helper.few.size j;
      stack = w.stack.few.size j;
      cache = w.cache.few.size j;
      link = w.link.few.size j;
      ram = length (w.ram j);
    }

writes_long : {z : Sizes} {i b c n : ℕ} {P : ℕ → Type 0} {k k' : Memory} → Writes z i b c n P k k' → lengths k' ≡ lengths k
writes_long {z} {k = k} {k' = k'} b =
    let w = b.maps in
    let r : length k'.ram ≡ length k.ram = b.fills.stored.few.size ∙ zeroed_all_long z b.fills.frames k.ram in λ j.
    record {
      index = length (w.index j);
      count = w.count.few.size j;
      table = w.table.few.size j;
      helper = w.helper.few.size j;
      stack = w.stack.few.size j;
      cache = w.cache.few.size j;
      link = w.link.few.size j;
      ram = r j;
    }

lengths_by : (e : Effect) (n : ℕ) (k k' : Memory) → BoundsBy e n k k' → lengths k' ≡ lengths k
lengths_by unchanged n k k' b = ap lengths b
lengths_by (prepared z) n k k' b = λ j.
    record {
      index = b.index_length j;
      count = b.count_length j;
      table = length (b.table j);
      helper = length (b.helper j);
      stack = length (b.stack j);
      cache = length (b.cache j);
      link = length (b.link j);
      ram = length (b.ram j);
    }
lengths_by (refilled z) n k k' b = λ j.
    record {
      index = b.index.few.size j;
      count = b.count.few.size j;
      table = b.table.few.size j;
      helper = b.helper.few.size j;
      stack = b.stack.few.size j;
      cache = b.cache.few.size j;
      link = b.link.few.size j;
      ram = length (b.ram j);
    }
lengths_by (start_put i p) n k k' b = tables_long_lem b.words
lengths_by (page_mapped i p) n k k' b = writes_long b
lengths_by (region_emptied i p) n k k' b = tables_long_lem b
lengths_by (page_given_back i p) n k k' b = tables_long_lem b.words
lengths_by (span_stored i x vs) n k k' b = writes_long b

pub lengths_stay : (c : Lent → Call) (k : Memory) (a : Answer) (k' : Memory) → Did c k a k' → lengths k' ≡ lengths k
lengths_stay c k a k' d = lengths_by (facts (c (lengths k))).change _ k k' d.bounds

-- ---- sizes

sizes_by_lem : (e : Effect) (n : ℕ) (k k' : Memory) → PreparesNothing e → BoundsBy e n k k' → sizes_of k'.head ≡ sizes_of k.head
sizes_by_lem unchanged n k k' p b = ap (λ (x : Memory). sizes_of x.head) b
sizes_by_lem (prepared z) n k k' p b = absurd p
sizes_by_lem (refilled z) n k k' p b = absurd p
sizes_by_lem (start_put i q) n k k' p b = b.words.sizes
sizes_by_lem (page_mapped i q) n k k' p b = b.maps.sizes
sizes_by_lem (region_emptied i q) n k k' p b = b.sizes
sizes_by_lem (page_given_back i q) n k k' p b = b.words.sizes
sizes_by_lem (span_stored i x vs) n k k' p b = b.maps.sizes

-- only what begins a state prepares one
prepares_nothing : (z : Sizes) (c : Call) → asked z c ≡ 0 → (facts c).begins ≡ none → PreparesNothing (facts c).change
prepares_nothing z (start y l) p e = absurd (let x : ◌≡◌ {A = ℕ} 0 1 = cc in omega arith)
prepares_nothing z (page Mark i b l) p e = tt
prepares_nothing z (page Drop i b l) p e = tt
prepares_nothing z (page Touch i b l) p e = tt
prepares_nothing z (page Look i b l) p e = tt
prepares_nothing z (page Release i b l) p e = tt
prepares_nothing z (page GiveBack i b l) p e = tt
prepares_nothing z free p e = tt
prepares_nothing z (translate i x l) p e = tt
prepares_nothing z (read i x n l) p e = tt
prepares_nothing z (write i x vs l) p e = tt
prepares_nothing z (list i room l) p e = tt
prepares_nothing z (write_map room l) p e = tt
prepares_nothing z (read_map file l) p e = absurd (none-ne-some _ (sym e ∙ map_described z file l p))

pub sizes_stay : (c : Lent → Call) (k : Memory) (a : Answer) (k' : Memory) → (facts (c (lengths k))).begins ≡ none → Did c k a k'
    → sizes_of k'.head ≡ sizes_of k.head
sizes_stay c k a k' e d = go (asked (sizes_of k.head) (c (lengths k))) refl d.asks
  where
    go : (n : ℕ) → asked (sizes_of k.head) (c (lengths k)) ≡ n → Exactly n (sizes_of k.head) (c (lengths k)) a → sizes_of k'.head ≡ sizes_of k.head
    go zero p x = sizes_by_lem (facts (c (lengths k))).change _ k k' (prepares_nothing (sizes_of k.head) (c (lengths k)) p e) d.bounds
    go (suc n) p x = ap (λ (y : Memory). sizes_of y.head) (d.stays (ap still x ∙ refusal_still (c (lengths k)) (suc n)))
