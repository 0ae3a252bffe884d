-- No more records are told of than the slice has, so as many as are told of are taken.
use Rattle.std.proofs.Common.{List, [], ℕ, ◌≡◌, ◌≤◌, length, take, arith}
use Rattle.std.proofs.lemmas.List.{length-take-le}
use Rattle.machine.specs.declared.Region.{Region}
use Rattle.promise.specs.Filled.{records_filled}
use Rattle.corwystal.proofs.corwystal_list.Goals as goal

length_taken : (xs : List Region) (n m : ℕ) → length xs ≡ m → n ≤ m → length (take n xs) ≡ n
length_taken xs n m same fits = length-take-le n xs (omega arith)

pub returns : goal.returns
returns c =
    let x = c.list.result in
    record {
      answer = x;
      numbers_are = c.encode_listed.ensures (take (records_filled x) c.list.new.records)
          (length_taken _ _ _ c.list.auto.records (c.list.ensures [] [] [] [] [] []).fits);
      promised = c.list.ensures;
    }
