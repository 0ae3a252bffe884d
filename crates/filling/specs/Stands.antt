-- Memory that stands for a state and is long enough for its sizes, and what filling it leaves.
use Rattle.std.specs.Prelude.{refl}
use Rattle.std.proofs.Common.{◌∙◌}
use Rattle.machine.specs.Machine.{Sizes, State, every_table}
use Rattle.memory.specs.Memory.{Memory, lengths}
use Rattle.promise.specs.Holds.{Holds}
use Rattle.promise.specs.Within.{Within}
use Rattle.laws.specs.Refusals.{Long}

pub record Stands (m : State) (k : Memory) : Type 0 where
  pub holds : Holds m k
  pub lent : Long every_table m.sizes (lengths k)

-- from memory k on, all of it can be done, and it leaves k', which stands for m
pub record Fills (z : Sizes) (Can : Type 0) (k k' : Memory) (m : State) : Type 0 where
  pub can : Can
  pub stands : Stands m k'
  pub within : Within z k k'

pub within_none : (z : Sizes) (k : Memory) → Within z k k
within_none z k =
    record { long = refl; index = refl; count = refl; table = refl; helper = refl; stack = refl; cache = refl; link = refl }

pub within_more : {z : Sizes} {k k₁ k₂ : Memory} → Within z k k₁ → Within z k₁ k₂ → Within z k k₂
within_more a b =
    record {
      long = b.long ∙ a.long;
      index = b.index ∙ a.index;
      count = b.count ∙ a.count;
      table = b.table ∙ a.table;
      helper = b.helper ∙ a.helper;
      stack = b.stack ∙ a.stack;
      cache = b.cache ∙ a.cache;
      link = b.link ∙ a.link;
    }

-- nothing to do, and one thing after another
pub fills_none : {z : Sizes} {k : Memory} {m : State} → Stands m k → Fills z (Unit {0}) k k m
fills_none {z} {k} s = record { can = tt; stands = s; within = within_none z k }

pub fills_more : {z : Sizes} {C D : Type 0} {k k₁ k₂ : Memory} {m n : State} → Fills z C k k₁ m → Fills z D k₁ k₂ n → Fills z (C × D) k k₂ n
fills_more a b = record { can = (a.can, b.can); stands = b.stands; within = within_more a.within b.within }
