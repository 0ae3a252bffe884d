-- The pager's own free, read and list, called next with all of the memory, where it stands for a machine and is long enough.
use Rattle.std.specs.Prelude.{◌≡◌, ℕ, ◌+◌, ◌≤◌, ◌<◌, length}
use Rattle.std.proofs.Math.Path.{ap}
use Rattle.std.proofs.Common.{◌∙◌, arith}
use borrow.Author.Tests.{le-leb, lt-ltb}
use Rattle.machine.specs.Machine.{space_bytes, State, free, read, list, asked, Answer, frames, regions, records_of, list_if, accepted}
use Rattle.machine.specs.Claims.{Address}
use Rattle.memory.specs.Memory.{Memory, lengths}
use Rattle.promise.specs.Holds.{Roomy, Holds}
use Rattle.promise.specs.Did.{Did}
use Rattle.laws.specs.Located.{first_passes, answers}

module _ (m : State) (k : Memory) (H : Holds m k) (r : Roomy m.sizes k) where
  -- ---- free

  pub free_next : (a : Answer) (k'' : Memory) → Did (λ _. free) k a k'' → a ≡ frames (length m.pool)
  unfolding accepted asked
  free_next a k'' d = (d.honest m H).answer_is ∙ answers m k H free (rw H.sound.sizes_ok_lem)

  -- ---- list

  pub list_next : (i room : ℕ) → i < m.sizes.spaces → length (records_of m i) ≤ room → (a : Answer) (k'' : Memory) → Did (list i room) k a k''
      → a ≡ regions (records_of m i)
  unfolding accepted asked
  list_next i room h l a k'' d =
      (d.honest m H).answer_is
      ∙ answers m k H (list i room (lengths k)) (rw (first_passes m k H r _, lt-ltb i _ h))
      ∙ ap (list_if (records_of m i)) (le-leb _ room l)

  -- ---- a read of one byte

  pub read_asks : (i x : ℕ) → Address m.sizes i x → asked m.sizes (read i x 1 (lengths k)) ≡ 0
  unfolding asked
  read_asks i x a = rw (first_passes m k H r _, lt-ltb i _ a.space, le-leb (x + 1) (space_bytes m.sizes) (omega (arith, a.inside)))
