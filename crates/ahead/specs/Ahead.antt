-- What a session does ahead of a call: which starts are beyond its limits, and how a write's bytes come into the byte buffer. Definitions only; document
-- 01's words stand beside them in quotation marks.
use Rattle.std.specs.Prelude.{Bool, false, not, ◌&&◌, List, ℕ, ◌*◌, leb}
use Rattle.requests.specs.declared.Request.{Request}
use Rattle.requests.specs.declared.Request.TheVariants.{Start, Page, Free, Translate, Read, Write, List as Listing, WriteMap, ReadMap}
use Rattle.hexing.specs.Hex.{unhexed}

-- "Its sizes are further limited to T at most 1,024 and F x P at most 32,768"
abbrev pub beyond : Request → Bool
beyond (Start s n f p) = not (leb (s * n) 1024 && leb (f * p) 32768)
beyond (Page p i b) = false
beyond Free = false
beyond (Translate i x) = false
beyond (Read i x) = false
beyond (Write i x) = false
beyond (Listing i) = false
beyond WriteMap = false
beyond ReadMap = false

-- the byte buffer ahead of a call: a write's bytes stand at its front; other requests leave it
abbrev pub filled_by : Request → List ℕ → ℕ → List ℕ → List ℕ
filled_by (Start s n f p) line count buffer = buffer
filled_by (Page p i b) line count buffer = buffer
filled_by Free line count buffer = buffer
filled_by (Translate i x) line count buffer = buffer
filled_by (Read i x) line count buffer = buffer
filled_by (Write i x) line count buffer = unhexed line count buffer
filled_by (Listing i) line count buffer = buffer
filled_by WriteMap line count buffer = buffer
filled_by ReadMap line count buffer = buffer
