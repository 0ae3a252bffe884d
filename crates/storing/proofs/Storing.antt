-- The parts of a span stored one after another.
use mathlib.Core.Path.{◌≡◌, refl, sym, ap, ap₂, ◌∙◌}
use mathlib.Core.List.{List, ◌++◌}
use Prim.Native.Nat.{ℕ, ◌+◌, ◌-◌, ◌≤◌}
use native.Mathlib.Nat.{add-zero, add_assoc, add-sub_cancel_left}
use native.Mathlib.Omega.{arith}
use lib.ListN.{length, take, drop, drop_of_length-le, take-append-drop}
use lib.Seq.{drop-drop}
use Rattle.machine.specs.Machine.{stored_at}
use Rattle.machine.proofs.Laws.Storing.{length_stored}
use Rattle.memory.specs.Memory.{place_by}
use Rattle.memory.specs.declared.Head.{Head}
use Rattle.storing.specs.Storing.{stored_append}
use Rattle.spans.specs.Parts.{Span}
use Rattle.spans.specs.PartLaws.{next_long}

module _ (h : Head) (i x : ℕ) (bytes table ram₁ : List ℕ) where
  -- the loop's state: the first `done` bytes are stored, and what is left to store is the rest
  pub record Storing (ram : List ℕ) (done : ℕ) : Type 0 where
    pub within : done ≤ length bytes
    pub long : length ram ≡ length ram₁
    pub rest : stored_at (place_by h i table) x bytes ram₁ ≡ stored_at (place_by h i table) (x + done) (drop done bytes) ram

  -- the RAM keeps its length
  pub storing_span : (ram : List ℕ) (done : ℕ) → Storing ram done → Span h i x (length bytes) ram₁ → Span h i x (length bytes) ram
  storing_span ram done c s = record { sizes_ok_lem = s.sizes_ok_lem; space = s.space; ends = s.ends; ram_long = omega (arith, s.ram_long, c.long) }

  pub storing_none : Storing ram₁ 0
  storing_none = record { within = omega arith; long = refl; rest = rw add-zero }

  pub storing_more : (ram ram' : List ℕ) (done s : ℕ) → Storing ram done → done + s ≤ length bytes
      → ram' ≡ stored_at (place_by h i table) (x + done) (take (done + s - done) (drop done bytes)) ram → Storing ram' (done + s)
  storing_more ram ram' done s c l part =
      let vs = take (done + s - done) (drop done bytes) in
      let place = place_by h i table in
      let long : length vs ≡ s = next_long bytes done (done + s) l ∙ add-sub_cancel_left done s in
      let split : drop done bytes ≡ vs ++ drop (done + s) bytes =
      sym (take-append-drop (done + s - done) (drop done bytes)) ∙ ap (λ (ws : List ℕ). vs ++ ws)
      (drop-drop (done + s - done) done bytes ∙ ap (λ (k : ℕ). drop (done + k) bytes) (add-sub_cancel_left done s)) in
      record {
        within = l;
        long = ap length part ∙ length_stored place (x + done) vs ram ∙ c.long;
        rest =
            c.rest
            ∙ ap (λ (ws : List ℕ). stored_at place (x + done) ws ram) split
            ∙ stored_append place (x + done) vs (drop (done + s) bytes) ram
            ∙ ap₂ (λ (y : ℕ) (r : List ℕ). stored_at place y (drop (done + s) bytes) r) (ap (λ (k : ℕ). x + done + k) long ∙ add_assoc x done s) (sym part);
      }

  pub storing_all : (ram : List ℕ) (done : ℕ) → Storing ram done → length bytes ≤ done → ram ≡ stored_at (place_by h i table) x bytes ram₁
  unfolding stored_at
  storing_all ram done c l =
      sym (c.rest ∙ ap (λ (ws : List ℕ). stored_at (place_by h i table) (x + done) ws ram) (drop_of_length-le bytes {i = done} l))
