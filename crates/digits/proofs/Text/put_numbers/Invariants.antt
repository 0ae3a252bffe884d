-- The numbers so far are written, each in at most 21 bytes.
use Rattle.std.proofs.Common.{◌+◌, ◌*◌, ◌≤◌, take}
use Rattle.digits.specs.Text.{numbers_text}
use Rattle.digits.specs.Writing.{Added}
use Rattle.digits.proofs.Text.put_numbers.Given as goal

abbrev pub invariant-loop-n : goal.invariant-loop-n
invariant-loop-n l = record {
  room : l.self.at ≤ l.initial.self.at + 21 * l.n-index;
  added : Added l.initial.self (numbers_text (take l.n-index l.numbers)) l.self;
}
