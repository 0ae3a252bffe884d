-- A call that was served is a code played.
use mathlib.Core.Path.{◌≡◌, ap}
use mathlib.Core.List.{List}
use Prim.Native.Nat.{ℕ}
use Rattle.memory.specs.Memory.{Memory}
use Rattle.requests.specs.Requests.{replied}
use Rattle.pages.specs.Serves.{Serves}
use Rattle.requests.specs.declared.Reply.{Reply}
use Rattle.decoding.specs.declared.Code.{Code}
use Rattle.requests.specs.Codes.{encoded}
use Rattle.plays.specs.Plays.{part, with_part, Calls}

pub call_played : (c : Code) (k : Memory) (bytes records : List ℕ) (k' : Memory) (r : Reply) (reply' buffer' records' : List ℕ)
    → Serves c.request k (part c.parts.from c.parts.to bytes) (part c.parts.first c.parts.last records) r k' buffer' records'
    → reply' ≡ encoded (replied r buffer' records')
    → Calls c k bytes records k' reply' (with_part c.parts.from c.parts.to bytes buffer') (with_part c.parts.first c.parts.last records records')
call_played c k bytes records k' r reply' buffer' records' s e =
    record {
      answer = replied r buffer' records';
      did = s.did;
      reply_is = e;
      bytes_are = ap (with_part c.parts.from c.parts.to bytes) s.buffer_is;
      records_are = ap (with_part c.parts.first c.parts.last records) s.records_are;
    }
