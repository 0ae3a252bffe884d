-- A frame cleared around a part: which bytes are 0, and which stay.
use Rattle.std.specs.Prelude.{◌≡◌, ◌≢◌, ◌⊎◌, List, ℕ, suc, ◌+◌, ◌-◌, ◌*◌, ◌/◌, ◌%◌, ◌≤◌, ◌<◌, length, get_or, replicate}
use Rattle.std.proofs.Common.{◌∙◌, inl, inr, ⊎_elim, arith}
use Rattle.std.proofs.lemmas.List.{length-replicate}
use Rattle.std.proofs.lemmas.List.Edits.{sets}
use Rattle.std.proofs.Math.Seq.{length-sets}
use Rattle.machine.specs.Machine.{Sizes}
use Rattle.machine.proofs.Laws.Zeroed.{sets_out, sets_zero, frame_apart}
use Rattle.clearing.specs.Clears.{zeroed_around}

module _ (z : Sizes) (f x n : ℕ) (ram : List ℕ) (fits : x % z.page + n ≤ z.page) where
  abbrev o : ℕ
  o = x % z.page

  abbrev front : List ℕ
  front = sets ram (f * z.page) (replicate o 0)

  pub around_long : length (zeroed_around z f x n ram) ≡ length ram
  around_long = length-sets front _ (replicate (z.page - (o + n)) 0) ∙ length-sets ram _ (replicate o 0)

  -- before and after the part
  pub around_zero : (q : ℕ) → q < z.page → (q < x % z.page) ⊎ (x % z.page + n ≤ q) → get_or (zeroed_around z f x n ram) (f * z.page + q) 0 ≡ 0
  around_zero q low (inl l) =
      sets_out (replicate (z.page - (o + n)) 0) front (f * z.page + o + n) (f * z.page + q) (inl (omega arith))
      ∙ sets_zero o ram (f * z.page) (f * z.page + q) (omega arith) (omega arith)
  around_zero q low (inr l) =
      sets_zero (z.page - (o + n)) front (f * z.page + o + n) (f * z.page + q) (omega arith) (omega arith)

  -- of other frames
  pub around_else : (p : ℕ) → 0 < z.page → p / z.page ≢ f → get_or (zeroed_around z f x n ram) p 0 ≡ get_or ram p 0
  around_else p pos d = ⊎_elim before past (frame_apart z.page p f pos d)
    where
      before : p < f * z.page → get_or (zeroed_around z f x n ram) p 0 ≡ get_or ram p 0
      before l =
          sets_out (replicate (z.page - (o + n)) 0) front (f * z.page + o + n) p (inl (omega arith))
          ∙ sets_out (replicate o 0) ram (f * z.page) p (inl l)

      past : suc f * z.page ≤ p → get_or (zeroed_around z f x n ram) p 0 ≡ get_or ram p 0
      past l =
          sets_out (replicate (z.page - (o + n)) 0) front (f * z.page + o + n) p (inr (omega (arith, length-replicate {A = ℕ} (z.page - (o + n)) 0)))
          ∙ sets_out (replicate o 0) ram (f * z.page) p (inr (omega (arith, length-replicate {A = ℕ} o 0)))
