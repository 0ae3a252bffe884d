-- The grammar of a line: which call it is, or none. Definitions only; document 01's words stand beside them in quotation marks.
use Rattle.std.specs.Prelude.{cond, List, [], ◌∷◌, ℕ, ◌+◌, ◌*◌, leb, length, drop, Option, Some, None, option_and_then}
use Rattle.std.specs.Option.{option_or}
use Rattle.machine.specs.declared.PageCall.{PageCall}
use Rattle.machine.specs.declared.PageCall.TheVariants.{Mark, Drop, Touch, Look, Release, GiveBack}
use Rattle.fields.specs.Fields.{begins, field_at}
use Rattle.hexing.specs.Hex.{hex_count}
use Rattle.requests.specs.declared.Request.{Request}
use Rattle.requests.specs.declared.Request.TheVariants.{Start, Page, Free, Translate, Read, Write, List as Listing, WriteMap}

-- what a line says: a call, with the count of the bytes that a read asks for, a write has or a map may take, else 0; a bad line says none
abbrev pub Line : Type 0
Line = Option (Request × ℕ)

-- ---- what is read in order

-- a blank and a number, then more
abbrev pub field : List ℕ → (ℕ → List ℕ → Line) → Line
field cs k = option_and_then (λ t. k t.0 t.1) (field_at cs)

-- the line's end
abbrev pub ended : {A : Type 0} → List ℕ → Option A → Option A
ended [] l = l
ended (c ∷ cs) l = None

-- bytes in hex up to the line's end, or none
abbrev pub bytes_of : List ℕ → (ℕ → Line) → Line
bytes_of cs k = option_and_then k (hex_count cs)

-- ---- each call, after its name

abbrev pub start_line : List ℕ → Line
start_line cs = field cs (λ s cs. field cs (λ n cs. field cs (λ f cs. field cs (λ p cs. ended cs (Some (Start s n f p, 0))))))

-- a space and a page or an address: the page calls and translate
abbrev pub pair_line : (ℕ → ℕ → Request) → List ℕ → Line
pair_line make cs = field cs (λ i cs. field cs (λ b cs. ended cs (Some (make i b, 0))))

abbrev pub free_line : List ℕ → Line
free_line cs = ended cs (Some (Free, 0))

-- "count (at most 256)"
abbrev pub read_line : List ℕ → Line
read_line cs = field cs (λ i cs. field cs (λ x cs. field cs (λ n cs. cond (leb n 256) (ended cs (Some (Read i x, n))) None)))

abbrev pub write_line : List ℕ → Line
write_line cs = field cs (λ i cs. field cs (λ x cs. bytes_of cs (λ n. Some (Write i x, n))))

abbrev pub list_line : List ℕ → Line
list_line cs = field cs (λ i cs. ended cs (Some (Listing i, 0)))

-- the bytes of the longest map within a session's limits: contents of 64 spaces, then 1,024 regions without a page and 128 pages with a frame
abbrev pub longest_map : ℕ
longest_map = 4 * ((3 * 64 + 7) + 3 * 1024 + 2 * 128)

-- W-202: "Write the whole machine state but for the RAM to a lent buffer", one with room for every map
abbrev pub map_line : List ℕ → Line
map_line cs = ended cs (Some (WriteMap, longest_map))

-- ---- the calls' names

-- start
abbrev pub start_word : List ℕ
start_word = 115 ∷ 116 ∷ 97 ∷ 114 ∷ 116 ∷ []

-- mark
abbrev pub mark_word : List ℕ
mark_word = 109 ∷ 97 ∷ 114 ∷ 107 ∷ []

-- drop
abbrev pub drop_word : List ℕ
drop_word = 100 ∷ 114 ∷ 111 ∷ 112 ∷ []

-- touch
abbrev pub touch_word : List ℕ
touch_word = 116 ∷ 111 ∷ 117 ∷ 99 ∷ 104 ∷ []

-- look
abbrev pub look_word : List ℕ
look_word = 108 ∷ 111 ∷ 111 ∷ 107 ∷ []

-- release
abbrev pub release_word : List ℕ
release_word = 114 ∷ 101 ∷ 108 ∷ 101 ∷ 97 ∷ 115 ∷ 101 ∷ []

-- give
abbrev pub give_word : List ℕ
give_word = 103 ∷ 105 ∷ 118 ∷ 101 ∷ []

-- free
abbrev pub free_word : List ℕ
free_word = 102 ∷ 114 ∷ 101 ∷ 101 ∷ []

-- translate
abbrev pub translate_word : List ℕ
translate_word = 116 ∷ 114 ∷ 97 ∷ 110 ∷ 115 ∷ 108 ∷ 97 ∷ 116 ∷ 101 ∷ []

-- read
abbrev pub read_word : List ℕ
read_word = 114 ∷ 101 ∷ 97 ∷ 100 ∷ []

-- write
abbrev pub write_word : List ℕ
write_word = 119 ∷ 114 ∷ 105 ∷ 116 ∷ 101 ∷ []

-- list
abbrev pub list_word : List ℕ
list_word = 108 ∷ 105 ∷ 115 ∷ 116 ∷ []

-- map
abbrev pub map_word : List ℕ
map_word = 109 ∷ 97 ∷ 112 ∷ []

-- the calls with a space and a page, by name
abbrev pub page_names : List (List ℕ × PageCall)
page_names =
    (mark_word, Mark) ∷
    (drop_word, Drop) ∷
    (touch_word, Touch) ∷
    (look_word, Look) ∷
    (release_word, Release) ∷
    (give_word, GiveBack) ∷
    []

-- this call and where its name ends, if a line begins with the name
abbrev pub named : List ℕ → List ℕ → PageCall → Option (PageCall × ℕ)
named cs word call = cond (begins word cs) (Some (call, length word)) None

-- the first of the names that a line begins with
abbrev pub first_named : List (List ℕ × PageCall) → List ℕ → Option (PageCall × ℕ)
first_named [] cs = None
first_named (n ∷ ns) cs = option_or (named cs n.0 n.1) (first_named ns cs)

abbrev pub page_named : List ℕ → Option (PageCall × ℕ)
page_named cs = first_named page_names cs

-- ---- a line

-- a page call after its name, or what the line is if it names none
abbrev pub or_page : Option (PageCall × ℕ) → List ℕ → Line → Line
or_page (Some (p, n)) cs other = pair_line (λ i b. Page p i b) (drop n cs)
or_page None cs other = other

-- no name begins another (`names_apart`); what begins with none is a bad line
unfoldable pub parsed : List ℕ → Line
parsed cs =
    cond (begins start_word cs) (start_line (drop 5 cs))
    (or_page (page_named cs) cs
    (cond (begins free_word cs) (free_line (drop 4 cs))
    (cond (begins translate_word cs) (pair_line (λ i x. Translate i x) (drop 9 cs))
    (cond (begins read_word cs) (read_line (drop 4 cs))
    (cond (begins write_word cs) (write_line (drop 5 cs))
    (cond (begins list_word cs) (list_line (drop 4 cs))
    (cond (begins map_word cs) (map_line (drop 3 cs)) None)))))))
