-- Whether those so far are.
use Rattle.std.proofs.Common.{◌≡◌, take}
use Rattle.hexing.specs.Hex.{all_hex}
use Rattle.hexing.proofs.all_hex.Given as goal

abbrev pub invariant-loop-c : goal.invariant-loop-c
invariant-loop-c l = l.all ≡ all_hex (take l.c-index l.digits)
