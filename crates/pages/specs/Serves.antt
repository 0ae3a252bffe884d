-- One step over all the calls: what it promises.
use Rattle.std.specs.Prelude.{◌≡◌, List, ℕ}
use Rattle.memory.specs.Memory.{Memory}
use Rattle.promise.specs.Did.{Did}
use Rattle.requests.specs.Requests.{requested, replied, bytes_into, records_into}
use Rattle.requests.specs.declared.Request.{Request}
use Rattle.requests.specs.declared.Reply.{Reply}

pub record Serves (q : Request) (k : Memory) (buffer records : List ℕ) (r : Reply) (k' : Memory) (buffer' records' : List ℕ) : Type 0 where
  pub did : Did (requested q buffer records) k (replied r buffer' records') k'
  pub buffer_is : buffer' ≡ bytes_into (replied r buffer' records') buffer
  pub records_are : records' ≡ records_into (replied r buffer' records') records
