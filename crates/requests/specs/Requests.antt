-- What a request asks for, what a reply says, and what it leaves in the caller's buffers.
use Rattle.std.specs.Prelude.{List, [], ◌∷◌, ◌++◌, ℕ, ◌*◌, ◌/◌, length, take, drop}
use Rattle.machine.specs.Machine as machine
use Rattle.machine.specs.declared.Region.{Region}
use Rattle.promise.specs.Filled.{records_in}
use Rattle.requests.specs.declared.Request.{Request}
use Rattle.requests.specs.declared.Request.TheVariants as request_is
use Rattle.requests.specs.declared.Reply.{Reply}
use Rattle.requests.specs.declared.Reply.TheVariants as reply_is

-- ---- requests

-- the call that a request is: read, write and the calls with a map have all of the byte buffer, list all of the records
abbrev pub requested : Request → List ℕ → List ℕ → machine.Lent → machine.Call
requested (request_is.Start s n f p) buffer records = machine.start (machine.sizes s n f p)
requested (request_is.Page p i b) buffer records = machine.page p i b
requested request_is.Free buffer records = λ _. machine.free
requested (request_is.Translate i x) buffer records = machine.translate i x
requested (request_is.Read i x) buffer records = machine.read i x (length buffer)
requested (request_is.Write i x) buffer records = machine.write i x buffer
requested (request_is.List i) buffer records = machine.list i (length records / 3)
requested request_is.WriteMap buffer records = machine.write_map (length buffer)
requested request_is.ReadMap buffer records = machine.read_map buffer

-- ---- replies

-- the answer that a reply is, with the byte buffer and the records as they stand after the call
abbrev pub replied : Reply → List ℕ → List ℕ → machine.Answer
replied reply_is.Done buffer records = machine.done
replied (reply_is.Old f) buffer records = machine.old f
replied (reply_is.New f w) buffer records = machine.new f w
replied (reply_is.Resident f) buffer records = machine.resident f
replied (reply_is.Absent w) buffer records = machine.absent w
replied (reply_is.Pages n) buffer records = machine.pages n
replied (reply_is.Frames n) buffer records = machine.frames n
replied (reply_is.At p) buffer records = machine.at p
replied reply_is.Bytes buffer records = machine.bytes buffer
replied (reply_is.Regions n) buffer records = machine.regions (records_in n records)
replied (reply_is.Map n) buffer records = machine.map_file (take n buffer)
replied (reply_is.Refused k) buffer records = machine.refused k
replied (reply_is.RefusedAfter k w) buffer records = machine.refused_after k w
replied reply_is.Handed buffer records = machine.handed

-- ---- the caller's buffers

-- an accepted read fills the byte buffer and a map its front, every other answer leaves it
abbrev pub bytes_into : machine.Answer → List ℕ → List ℕ
bytes_into machine.done buffer = buffer
bytes_into (machine.old f) buffer = buffer
bytes_into (machine.new f w) buffer = buffer
bytes_into (machine.resident f) buffer = buffer
bytes_into (machine.absent w) buffer = buffer
bytes_into (machine.pages n) buffer = buffer
bytes_into (machine.frames n) buffer = buffer
bytes_into (machine.at p) buffer = buffer
bytes_into (machine.bytes vs) buffer = vs
bytes_into (machine.regions rs) buffer = buffer
bytes_into (machine.map_file vs) buffer = vs ++ drop (length vs) buffer
bytes_into machine.handed buffer = buffer
bytes_into (machine.refused k) buffer = buffer
bytes_into (machine.refused_after k w) buffer = buffer

-- three numbers a record
abbrev pub region_numbers : List Region → List ℕ
region_numbers [] = []
region_numbers (r ∷ rs) = r.start ∷ r.length ∷ r.resident ∷ region_numbers rs

-- an accepted list fills as many records as there are regions, every other answer leaves them
abbrev pub records_into : machine.Answer → List ℕ → List ℕ
records_into machine.done records = records
records_into (machine.old f) records = records
records_into (machine.new f w) records = records
records_into (machine.resident f) records = records
records_into (machine.absent w) records = records
records_into (machine.pages n) records = records
records_into (machine.frames n) records = records
records_into (machine.at p) records = records
records_into (machine.bytes vs) records = records
records_into (machine.regions rs) records = region_numbers rs ++ drop (3 * length rs) records
records_into (machine.map_file vs) records = records
records_into machine.handed records = records
records_into (machine.refused k) records = records
records_into (machine.refused_after k w) records = records
