-- A call as five numbers: its kind, then its arguments.
use Rattle.std.specs.Prelude.{Bool, cond, ◌&&◌, ℕ, ◌+◌, ◌-◌, eqb, leb, ltb, Option, Some, None}
use Rattle.machine.specs.declared.PageCall.{PageCall}
use Rattle.machine.specs.declared.PageCall.TheVariants.{Mark, Drop, Touch, Look, Release, GiveBack}
use Rattle.requests.specs.declared.Request.{Request}
use Rattle.requests.specs.declared.Request.TheVariants as request_is
use Rattle.decoding.specs.declared.Parts.{Parts}
use Rattle.decoding.specs.declared.Code.{Code}

-- a number of 32 bits
abbrev pub fits : ℕ → Bool
fits n = ltb n 4294967296

-- n entries from the first on lie within so many
abbrev pub inside : ℕ → ℕ → ℕ → Bool
inside first n whole = leb first whole && leb n (whole - first)

abbrev pub no_parts : Parts
no_parts = record { from = 0; to = 0; first = 0; last = 0 }

-- n bytes of the byte buffer from a place on
abbrev pub byte_parts : ℕ → ℕ → Parts
byte_parts from n = record { from = from; to = from + n; first = 0; last = 0 }

-- n numbers of the records from a place on
abbrev pub record_parts : ℕ → ℕ → Parts
record_parts first n = record { from = 0; to = 0; first = first; last = first + n }

-- a call that is lent neither bytes nor records
abbrev pub alone : Request → Code
alone q = record { request = q; parts = no_parts }

abbrev pub start_code : ℕ → ℕ → ℕ → ℕ → Option Code
start_code s n f p = cond (fits s && fits n && fits f && fits p) (Some (alone (request_is.Start s n f p))) None

abbrev pub page_code : PageCall → ℕ → ℕ → Option Code
page_code p i b = cond (fits i && fits b) (Some (alone (request_is.Page p i b))) None

abbrev pub translate_code : ℕ → ℕ → Option Code
translate_code i x = cond (fits i) (Some (alone (request_is.Translate i x))) None

-- a call with n bytes of the byte buffer from a place on: one with a map, and one with a span once its space fits
abbrev pub byte_code : Request → ℕ → ℕ → ℕ → Option Code
byte_code q from n whole = cond (inside from n whole) (Some (record { request = q; parts = byte_parts from n })) None

-- a read or a write of the space i
abbrev pub span_code : Request → ℕ → ℕ → ℕ → ℕ → Option Code
span_code q i from n whole = cond (fits i) (byte_code q from n whole) None

-- a call with n numbers of the records from a place on
abbrev pub record_code : Request → ℕ → ℕ → ℕ → Option Code
record_code q first n whole = cond (inside first n whole) (Some (record { request = q; parts = record_parts first n })) None

abbrev pub list_code : ℕ → ℕ → ℕ → ℕ → Option Code
list_code i first n whole = cond (fits i) (record_code (request_is.List i) first n whole) None

-- the page call of a kind
abbrev pub page_kind : ℕ → Option PageCall
page_kind kind =
    cond (eqb kind 2) (Some Mark)
    (cond (eqb kind 3) (Some Drop)
    (cond (eqb kind 4) (Some Touch)
    (cond (eqb kind 5) (Some Look)
    (cond (eqb kind 6) (Some Release)
    (cond (eqb kind 14) (Some GiveBack) None)))))

-- given how many bytes and how many numbers of records there are
abbrev pub decoded_as : Option PageCall → ℕ → ℕ → ℕ → ℕ → ℕ → ℕ → ℕ → Option Code
decoded_as (Some p) kind a b c d whole_bytes whole_records = page_code p a b
decoded_as None kind a b c d whole_bytes whole_records =
    cond (eqb kind 1) (start_code a b c d)
    (cond (eqb kind 7) (Some (alone request_is.Free))
    (cond (eqb kind 8) (translate_code a b)
    (cond (eqb kind 9) (span_code (request_is.Read a b) a c d whole_bytes)
    (cond (eqb kind 10) (span_code (request_is.Write a b) a c d whole_bytes)
    (cond (eqb kind 11) (list_code a b c whole_records)
    (cond (eqb kind 12) (byte_code request_is.WriteMap a b whole_bytes)
    (cond (eqb kind 13) (byte_code request_is.ReadMap a b whole_bytes) None)))))))

unfoldable pub decoded : ℕ → ℕ → ℕ → ℕ → ℕ → ℕ → ℕ → Option Code
decoded kind = decoded_as (page_kind kind) kind
