-- What each kind of call did is what the step promises.
use Rattle.std.specs.Prelude.{◌≡◌, refl, List, ℕ, length, take, Result, Ok, Err}
use Rattle.std.proofs.Common.{sym, arith, take-append-drop, length-take-le}
use Rattle.machine.specs.Machine.{Answer}
use Rattle.machine.specs.Answers.{done_says, touched_says, looked_says, released_says, free_says, translated_says, copied_says, listed_says}
use Rattle.machine.specs.Answers.{map_written_says, given_back_says}
use Rattle.machine.specs.declared.Touched.{Touched}
use Rattle.machine.specs.declared.Touched.TheVariants as touched_is
use Rattle.machine.specs.declared.Looked.{Looked}
use Rattle.machine.specs.declared.Looked.TheVariants as looked_is
use Rattle.machine.specs.declared.RefusedAfter.{RefusedAfter}
use Rattle.refusals.specs.declared.Refusal.{Refusal}
use Rattle.memory.specs.Memory.{Memory}
use Rattle.promise.specs.Did.{Did}
use Rattle.promise.specs.Filled.{ReadDid, records_in, records_filled, ListDid, bytes_filled, MapDid}
use Rattle.requests.specs.declared.Request.{Request}
use Rattle.requests.specs.declared.Request.TheVariants as request_is
use Rattle.requests.specs.declared.Reply.{Reply}
use Rattle.requests.specs.Requests.{requested, replied, bytes_into, records_into}
use Rattle.pages.specs.Serves.{Serves}
use Rattle.requests.specs.Laws.{records_length, records_numbers}

-- ---- the calls that fill nothing of their caller's

module _ (q : Request) (k : Memory) (buffer records : List ℕ) (r : Reply) (k' : Memory) where
  -- a call answered a, the reply is a, and a fills neither buffer
  kept : (a : Answer) → bytes_into a buffer ≡ buffer → records_into a records ≡ records
      → Did (requested q buffer records) k a k' → ((b ws : List ℕ) → replied r b ws ≡ a) → Serves q k buffer records r k' buffer records
  kept a bytes_stay records_stay d says =
      let e = says buffer records in
      record { did = rw e d; buffer_is = rw e (sym bytes_stay); records_are = rw e (sym records_stay) }

  pub done_serves : (a : Result (Unit {0}) Refusal) → Did (requested q buffer records) k (done_says a) k' → ((b ws : List ℕ) → replied r b ws ≡ done_says a)
      → Serves q k buffer records r k' buffer records
  done_serves (Ok u) = kept _ refl refl
  done_serves (Err x) = kept _ refl refl

  pub touched_serves : (a : Result Touched RefusedAfter) → Did (requested q buffer records) k (touched_says a) k' → ((b ws : List ℕ) → replied r b ws ≡ touched_says a)
      → Serves q k buffer records r k' buffer records
  touched_serves (Ok (touched_is.Old f)) = kept _ refl refl
  touched_serves (Ok (touched_is.New f w)) = kept _ refl refl
  touched_serves (Err x) = kept _ refl refl

  pub looked_serves : (a : Result Looked RefusedAfter) → Did (requested q buffer records) k (looked_says a) k' → ((b ws : List ℕ) → replied r b ws ≡ looked_says a)
      → Serves q k buffer records r k' buffer records
  looked_serves (Ok (looked_is.Resident f)) = kept _ refl refl
  looked_serves (Ok (looked_is.Absent w)) = kept _ refl refl
  looked_serves (Err x) = kept _ refl refl

  pub released_serves : (a : Result ℕ Refusal) → Did (requested q buffer records) k (released_says a) k' → ((b ws : List ℕ) → replied r b ws ≡ released_says a)
      → Serves q k buffer records r k' buffer records
  released_serves (Ok n) = kept _ refl refl
  released_serves (Err x) = kept _ refl refl

  pub given_serves : (a : Result (Unit {0}) Refusal) → Did (requested q buffer records) k (given_back_says a) k' → ((b ws : List ℕ) → replied r b ws ≡ given_back_says a)
      → Serves q k buffer records r k' buffer records
  given_serves (Ok u) = kept _ refl refl
  given_serves (Err x) = kept _ refl refl

  pub free_serves : (a : Result ℕ Refusal) → Did (requested q buffer records) k (free_says a) k' → ((b ws : List ℕ) → replied r b ws ≡ free_says a)
      → Serves q k buffer records r k' buffer records
  free_serves (Ok n) = kept _ refl refl
  free_serves (Err x) = kept _ refl refl

  pub translated_serves : (a : Result ℕ Refusal) → Did (requested q buffer records) k (translated_says a) k'
      → ((b ws : List ℕ) → replied r b ws ≡ translated_says a) → Serves q k buffer records r k' buffer records
  translated_serves (Ok p) = kept _ refl refl
  translated_serves (Err x) = kept _ refl refl

-- ---- read and list

module _ (i : ℕ) (k : Memory) (buffer records : List ℕ) (r : Reply) where
  pub read_serves : (x : ℕ) (buffer' : List ℕ) (a : Result (Unit {0}) Refusal) → ReadDid i x k a buffer buffer' → ((b ws : List ℕ) → replied r b ws ≡ copied_says a b)
      → Serves (request_is.Read i x) k buffer records r k buffer' records
  read_serves x buffer' a d says =
      let e = says buffer' records in
      record { did = rw e d.did; buffer_is = rw e (filled a d.kept); records_are = rw e (same a) }
    where
      filled : (a : Result (Unit {0}) Refusal) → ((x : Refusal) → a ≡ Err x → buffer' ≡ buffer) → buffer' ≡ bytes_into (copied_says a buffer') buffer
      filled (Ok u) stays = refl
      filled (Err x) stays = stays x refl

      same : (a : Result (Unit {0}) Refusal) → records ≡ records_into (copied_says a buffer') records
      same (Ok u) = refl
      same (Err x) = refl

  pub list_serves : (records' : List ℕ) (a : Result ℕ Refusal) → length records' ≡ length records → ListDid i k a records records'
      → ((b ws : List ℕ) → replied r b ws ≡ listed_says a (records_in (records_filled a) ws))
      → Serves (request_is.List i) k buffer records r k buffer records'
  list_serves records' a long d says =
      let e = says buffer records' in
      record { did = rw e d.did; buffer_is = rw e (same a); records_are = rw e (filled a d) }
    where
      same : (a : Result ℕ Refusal) → buffer ≡ bytes_into (listed_says a (records_in (records_filled a) records')) buffer
      same (Ok n) = refl
      same (Err x) = refl

      filled : (a : Result ℕ Refusal) → ListDid i k a records records' → records' ≡ records_into (listed_says a (records_in (records_filled a) records')) records
      filled (Ok n) d =
          rw (records_length n records', ← d.after_last) (sym (records_numbers n records' (omega (arith, d.fits))))
      filled (Err x) d = d.kept x refl

-- ---- the map

module _ (k : Memory) (buffer records : List ℕ) (r : Reply) where
  pub map_serves : (buffer' : List ℕ) (a : Result ℕ Refusal) → length buffer' ≡ length buffer → MapDid k a buffer buffer'
      → ((b ws : List ℕ) → replied r b ws ≡ map_written_says a (take (bytes_filled a) b)) → Serves request_is.WriteMap k buffer records r k buffer' records
  map_serves buffer' a long d says =
      let e = says buffer' records in
      record { did = rw e d.did; buffer_is = rw e (filled a d); records_are = rw e (same a) }
    where
      same : (a : Result ℕ Refusal) → records ≡ records_into (map_written_says a (take (bytes_filled a) buffer')) records
      same (Ok n) = refl
      same (Err x) = refl

      filled : (a : Result ℕ Refusal) → MapDid k a buffer buffer' → buffer' ≡ bytes_into (map_written_says a (take (bytes_filled a) buffer')) buffer
      filled (Ok n) d =
          rw (length-take-le n buffer' (omega (arith, d.fits, long)), ← d.after_last) (sym (take-append-drop n buffer'))
      filled (Err x) d = d.kept x refl
