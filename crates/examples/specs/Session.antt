-- Document 01's session, finds and sizes, by computing from the definitions: the session as calls, and as lines of text.
use Rattle.std.specs.Prelude.{◌≡◌, refl, Bool, false, List, [], ◌∷◌, ◌++◌, map, ℕ, suc, eqb, replicate}
use Rattle.std.proofs.Math.Option.{Option, none, some}
use Prim.Native.Char.{code}
use Prim.Native.String.{String, [] as empty, ◌∷◌ as ◌then◌}
use Rattle.sequence.specs.Lists.{tabulate}
use Rattle.places.specs.Places.{last_below, words_read, size}
use Rattle.machine.specs.Machine.{sizes, Lent, State, unstarted, Call, start, mark, drop, touch, look, release, Answer, done, old, new, absent, pages}
use Rattle.machine.specs.Machine.{refused, refused_after, answers, after_all, step, asked, accepted, sizes_ok, is_page_size, enough, start_in, frame_in}
use Rattle.machine.specs.Machine.{first_absence, any_outside, count_absent, touch_all, zeroed, index_in, stored_at, until_start, records}
use Rattle.fields.specs.Fields.{begins, digits_after}
use Rattle.parsing.specs.Grammar.{parsed}
use Rattle.digits.specs.Text.{decimal_with}
use Rattle.lines.specs.Session.{answered}

-- every buffer as long as it may ever have to be
abbrev pub all : Lent
all = record { index = 4161; count = 262144; table = 262144; helper = 262144; stack = 262144; cache = 262144; link = 65536; ram = 4294967296 }

-- ---- "One session whole", as calls

abbrev session : List Call
session =
    start (sizes 1 8 3 256) all
    ∷ mark 0 0 all
    ∷ mark 0 4 all
    ∷ touch 0 5 all
    ∷ touch 0 1 all
    ∷ touch 0 6 all
    ∷ touch 0 5 all
    ∷ touch 0 7 all
    ∷ mark 0 6 all
    ∷ release 0 4 all
    ∷ look 0 5 all
    ∷ touch 0 2 all
    ∷ look 0 9 all
    ∷ drop 0 4 all
    ∷ touch 0 7 all
    ∷ release 0 0 all
    ∷ mark 0 0 all
    ∷ []

abbrev pub ram : List ℕ
ram = replicate 768 7

-- the answers from no start made, with every definition open
unfoldable pub played : List Call → List Answer
unfolding answers step asked accepted sizes_ok is_page_size enough size tabulate start_in last_below frame_in words_read first_absence any_outside count_absent
    touch_all zeroed index_in stored_at until_start records
played calls = answers (unstarted ram) calls

session_says :
    played session
    ≡ done ∷ done ∷ done ∷ new 0 1 ∷ new 1 1 ∷ new 2 1 ∷ old 0 ∷ refused_after 8 1 ∷ refused 7 ∷ pages 2
    ∷ absent 1 ∷ new 2 1 ∷ refused_after 3 0 ∷ done ∷ new 0 1 ∷ pages 3 ∷ refused 6 ∷ []
unfolding played
session_says = refl

-- "The pool at the end is 0, 2, 1."
session_pool : (after_all (unstarted ram) session).pool ≡ 0 ∷ 2 ∷ 1 ∷ []
unfolding after_all played
session_pool = refl

-- ---- the same as lines: bytes in, bytes out

-- a text's characters by their numbers, which are its bytes if it is ASCII
abbrev pub codes : String → List ℕ
codes empty = []
codes (c then s) = code c ∷ codes s

-- each line with its answer beside it, without the LF that ends them
abbrev first_ten : List (String × String)
first_ten =
    ("start 1 8 3 256", "ok")
    ∷ ("mark 0 0", "ok")
    ∷ ("mark 0 4", "ok")
    ∷ ("touch 0 5", "frame 0 new 1")
    ∷ ("touch 0 1", "frame 1 new 1")
    ∷ ("touch 0 6", "frame 2 new 1")
    ∷ ("touch 0 5", "frame 0 old 0")
    ∷ ("touch 0 7", "no 8 1")
    ∷ ("mark 0 6", "no 7")
    ∷ ("release 0 4", "pages 2")
    ∷ []

abbrev lines : List (String × String)
lines =
    first_ten
    ++ ("look 0 5", "absent 1")
    ∷ ("touch 0 2", "frame 2 new 1")
    ∷ ("look 0 9", "no 3 0")
    ∷ ("drop 0 4", "ok")
    ∷ ("touch 0 7", "frame 0 new 1")
    ∷ ("release 0 0", "pages 3")
    ∷ ("mark 0 0", "no 6")
    ∷ []

-- as long as the buffers of the session program
abbrev lent : Lent
lent = record { index = 17; count = 1024; table = 1024; helper = 1024; stack = 1024; cache = 1024; link = 128; ram = 32768 }

-- what the session answers to lines one after another, with its definitions open
unfoldable pub answers_from : State → List (List ℕ) → List (List ℕ)
unfolding played parsed begins digits_after decimal_with
answers_from m [] = []
answers_from m (l ∷ ls) = let r = answered l lent m in r.answer_text ∷ answers_from r.after ls

-- from no start made, on a RAM of zeros
abbrev answers_to : List (String × String) → List (List ℕ)
answers_to ls = answers_from (unstarted (replicate 32768 0)) (map (λ l. codes l.0) ls)

abbrev expected : List (String × String) → List (List ℕ)
expected ls = map (λ l. codes l.1) ls

session_lines : answers_to lines ≡ expected lines
unfolding answers_from
session_lines = refl

-- ---- the table that is proved: the session's first ten lines, and the finds marked (P)

data Shown : Type 0 where
  line : (bytes : List ℕ) → Shown
  found : Option ℕ → ℕ → Shown

abbrev find_at : ℕ → (ℕ → Bool) → ℕ → Shown
find_at t s p = found (last_below s (suc p)) (words_read t s p)

no_start_lem : ℕ → Bool
no_start_lem q = false

table :
    map line (answers_to first_ten)
    ++ find_at 64 no_start_lem 5
    ∷ find_at 4096 (eqb 0) 64
    ∷ find_at 4097 (eqb 0) 4096
    ∷ find_at 4096 (eqb 70) 69
    ∷ find_at 4096 (eqb 70) 128
    ∷ []
    ≡ map line (expected first_ten)
    ++ found none 1
    ∷ found (some 0) 3
    ∷ found (some 0) 5
    ∷ found none 2
    ∷ found (some 70) 3
    ∷ []
unfolding answers_from no_start_lem
table = refl

-- "T = 64 takes 1 word, T = 65 takes 3, T = 4,097 takes 68, T = 262,144 takes 4,161"
index_sizes : map size (64 ∷ 65 ∷ 4097 ∷ 262144 ∷ []) ≡ 1 ∷ 3 ∷ 68 ∷ 4161 ∷ []
unfolding size
index_sizes = refl
