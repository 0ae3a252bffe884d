-- A file that keeps the rules, in long memory just started with its sizes, is what `restore` asks for.
use Rattle.std.specs.Prelude.{◌≡◌, true, List, ℕ, length}
use Rattle.std.proofs.Common.{sym}
use Rattle.words.specs.Words.{words_in}
use Rattle.machine.specs.Machine.{begun, every_table}
use Rattle.machine.specs.Map.{sizes_in, state_in}
use Rattle.machine.specs.MapRules.{rules_ok}
use Rattle.machine.proofs.Laws.Map.Rules.{rules_of}
use Rattle.machine.proofs.Laws.Map.Exact.{read_write}
use Rattle.machine.proofs.Laws.Map.Sounds.{rules_sound}
use Rattle.memory.specs.Memory.{Memory, lengths}
use Rattle.promise.specs.Holds.{Holds}
use Rattle.laws.specs.Refusals.{Long}
use Rattle.walking.specs.Rows.{Bodied}
use Rattle.restoring.specs.Founded.{Founded}

pub rules_founded : (ram file : List ℕ) (k : Memory) → rules_ok (words_in file) ≡ true → Bodied (length file) (words_in file) (sizes_in (words_in file)).spaces
    → Holds (begun (sizes_in (words_in file)) ram) k → Long every_table (sizes_in (words_in file)) (lengths k) → Founded (state_in ram (words_in file)) file k
rules_founded ram file k h b H lent =
    let r = rules_of (words_in file) h in
    record {
      sound = rules_sound ram (words_in file) r;
      words_are = sym (read_write ram (words_in file) r);
      bodied = b;
      started = H;
      lent = lent;
    }
