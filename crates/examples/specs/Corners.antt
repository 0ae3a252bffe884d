-- Corners of document 01's rules and of document 02's, by computing from the definitions; each plays from no start made, on a RAM of 7s.
use Rattle.std.specs.Prelude.{◌≡◌, refl, List, [], ◌∷◌, ◌++◌, replicate}
use Rattle.machine.specs.Machine.{sizes, Lent, Call, start, mark, drop, touch, look, release, free, translate, read, write, list, Answer, done, old, new}
use Rattle.machine.specs.Machine.{resident, absent, pages, frames, at, bytes, regions, refused, refused_after}
use Rattle.examples.specs.Session.{all, played}

abbrev pub says : List Call → List Answer → Type 0
says calls expected = played calls ≡ expected

abbrev pub nothing : Lent
nothing = record { index = 0; count = 0; table = 0; helper = 0; stack = 0; cache = 0; link = 0; ram = 0 }

-- no start made: 1 for every call but start; a map is read without one, too (Maps.antt)
no_start_made : says
    (mark 0 0 all ∷ drop 0 0 all ∷ touch 0 0 all ∷ look 0 0 all ∷ release 0 0 all ∷ free ∷ translate 0 0 all ∷ read 0 0 0 all ∷ write 0 0 [] all ∷ list 0 9
    all ∷ [])
    (refused 1 ∷ refused 1 ∷ refused_after 1 0 ∷ refused_after 1 0 ∷ replicate 6 (refused 1))
unfolding played
no_start_made = refl

-- a refused start keeps the state: S, N, F out of limits, T too large, a page size that is none of the nine, counts too short
refused_starts : says
    (start (sizes 1 8 3 256) all
    ∷ start (sizes 65 8 3 256) all
    ∷ start (sizes 1 0 3 256) all
    ∷ start (sizes 1 8 65537 256) all
    ∷ start (sizes 64 4097 3 256) all
    ∷ start (sizes 1 8 3 768) all
    ∷ start (sizes 1 8 3 131072) all
    ∷ start (sizes 1 8 3 256) nothing
    ∷ free
    ∷ [])
    (done ∷ replicate 7 (refused 1) ++ frames 3 ∷ [])
unfolding played
refused_starts = refl

-- 1 before 2 before 3; a buffer that a call isn't lent doesn't count
order : says
    (start (sizes 1 8 3 256) all
    ∷ look 1 8 nothing
    ∷ look 1 8 all
    ∷ look 0 8 all
    ∷ look 0 7 (record { index = 1; count = 8; table = 8; helper = 8; stack = 8; cache = 8; link = 0; ram = 0 })
    ∷ look 0 7 (record { index = 1; count = 8; table = 8; helper = 8; stack = 8; cache = 7; link = 0; ram = 0 })
    ∷ [])
    (done ∷ refused_after 1 0 ∷ refused_after 2 0 ∷ refused_after 3 0 ∷ refused_after 4 1 ∷ refused_after 1 0 ∷ [])
unfolding played
order = refl

-- a mark below all starts cuts nothing, though the region above has a resident page; a mark in that region is refused wherever the page lies
marks : says
    (start (sizes 1 8 3 256) all ∷ mark 0 4 all ∷ touch 0 5 all ∷ mark 0 2 all ∷ mark 0 5 all ∷ mark 0 7 all ∷ mark 0 4 all ∷ [])
    (done ∷ done ∷ new 0 1 ∷ done ∷ refused 7 ∷ refused 7 ∷ refused 6 ∷ [])
unfolding played
marks = refl

-- after a drop the pages join the region before, or none
drops : says
    (start (sizes 1 8 3 256) all
    ∷ drop 0 4 all
    ∷ mark 0 4 all
    ∷ touch 0 5 all
    ∷ drop 0 4 all
    ∷ release 0 4 all
    ∷ release 0 4 all
    ∷ release 0 5 all
    ∷ drop 0 4 all
    ∷ look 0 5 all
    ∷ [])
    (done ∷ refused 5 ∷ done ∷ new 0 1 ∷ refused 7 ∷ pages 1 ∷ pages 0 ∷ refused 5 ∷ done ∷ refused_after 4 1 ∷ [])
unfolding played
drops = refl

-- a find that lands in a lower space counts as it ran, and the page has no region
lower_space : says
    (start (sizes 2 64 3 256) all ∷ mark 0 0 all ∷ look 1 0 all ∷ touch 1 0 all ∷ look 0 63 all ∷ mark 1 1 all ∷ touch 1 0 all ∷ touch 1 2 all ∷ look 1 2 all
    ∷ touch 1 2 all ∷ [])
    (done ∷ done ∷ refused_after 4 3 ∷ refused_after 4 3 ∷ absent 1 ∷ done ∷ refused_after 4 3 ∷ new 0 1 ∷ resident 0 ∷ old 0 ∷ [])
unfolding played
lower_space = refl

-- an empty span is accepted up to N x P and asks for no region; an address must be below N x P
empty_spans : says
    (start (sizes 1 2 3 256) all
    ∷ read 0 0 0 all
    ∷ read 0 512 0 all
    ∷ write 0 512 [] all
    ∷ read 0 513 0 all
    ∷ write 0 512 (1 ∷ []) all
    ∷ translate 0 512 all
    ∷ translate 0 511 all
    ∷ read 1 0 0 all
    ∷ [])
    (done ∷ bytes [] ∷ bytes [] ∷ done ∷ refused 3 ∷ refused 3 ∷ refused 3 ∷ refused 4 ∷ refused 2 ∷ [])
unfolding played
empty_spans = refl

-- a read ends at the first page that isn't resident, with that page's refusal
reads : says
    (start (sizes 1 4 3 256) all
    ∷ mark 0 1 all
    ∷ touch 0 1 all
    ∷ read 0 255 3 all
    ∷ read 0 510 4 all
    ∷ read 0 510 2 all
    ∷ translate 0 512 all
    ∷ translate 0 300 all
    ∷ [])
    (done ∷ done ∷ new 0 1 ∷ refused 4 ∷ refused 10 ∷ bytes (0 ∷ 0 ∷ []) ∷ refused 10 ∷ at 44 ∷ [])
unfolding played
reads = refl

-- a write is all or nothing: 4 before 8, and 8 by the number of absent pages, of which there may be as many as frames
writes : says
    (start (sizes 1 6 2 256) all
    ∷ mark 0 1 all
    ∷ write 0 255 (replicate 770 1) all
    ∷ write 0 511 (replicate 258 1) all
    ∷ free
    ∷ look 0 1 all
    ∷ write 0 767 (8 ∷ 9 ∷ []) all
    ∷ read 0 766 4 all
    ∷ translate 0 767 all
    ∷ touch 0 1 all
    ∷ release 0 1 all
    ∷ write 0 600 (5 ∷ []) all
    ∷ read 0 600 1 all
    ∷ translate 0 600 all
    ∷ [])
    (done
    ∷ done
    ∷ refused 4
    ∷ refused 8
    ∷ frames 2
    ∷ absent 1
    ∷ done
    ∷ bytes (0 ∷ 8 ∷ 9 ∷ 0 ∷ [])
    ∷ at 255
    ∷ refused_after 8 1
    ∷ pages 2
    ∷ done
    ∷ bytes (5 ∷ [])
    ∷ at 344
    ∷ [])
unfolding played
writes = refl

-- W-201: a page mapped by touch or by write reads as zeros, though its frame held other bytes, in this history or before the start; a resident page of
-- the span keeps its own; a touch needs the RAM, of a resident page too
new_pages : says
    (start (sizes 1 4 2 256) all
    ∷ mark 0 0 all
    ∷ write 0 254 (1 ∷ 2 ∷ 3 ∷ []) all
    ∷ read 0 253 5 all
    ∷ release 0 0 all
    ∷ touch 0 0 all
    ∷ read 0 0 1 all
    ∷ write 0 3 (8 ∷ []) all
    ∷ write 0 255 (9 ∷ 9 ∷ []) all
    ∷ read 0 254 3 all
    ∷ read 0 510 2 all
    ∷ read 0 2 2 all
    ∷ touch 0 1 (record { index = 1; count = 4; table = 4; helper = 4; stack = 4; cache = 4; link = 2; ram = 511 })
    ∷ touch 0 1 (record { index = 1; count = 4; table = 4; helper = 4; stack = 4; cache = 4; link = 2; ram = 512 })
    ∷ start (sizes 1 4 2 256) all
    ∷ mark 0 0 all
    ∷ touch 0 0 all
    ∷ read 0 0 2 all
    ∷ [])
    (done
    ∷ done
    ∷ done
    ∷ bytes (0 ∷ 1 ∷ 2 ∷ 3 ∷ 0 ∷ [])
    ∷ pages 2
    ∷ new 1 1
    ∷ bytes (0 ∷ [])
    ∷ done
    ∷ done
    ∷ bytes (0 ∷ 9 ∷ 9 ∷ [])
    ∷ bytes (0 ∷ 0 ∷ [])
    ∷ bytes (0 ∷ 8 ∷ [])
    ∷ refused_after 1 0
    ∷ old 0
    ∷ done
    ∷ done
    ∷ new 0 1
    ∷ bytes (0 ∷ 0 ∷ [])
    ∷ [])
unfolding played
new_pages = refl

-- list, with room for every region or not; pages below the first start are in no record
lists : says
    (start (sizes 2 8 3 256) all
    ∷ list 1 0 all
    ∷ mark 1 2 all
    ∷ mark 1 6 all
    ∷ touch 1 5 all
    ∷ touch 1 2 all
    ∷ list 1 1 all
    ∷ list 1 2 all
    ∷ list 0 0 all
    ∷ list 2 2 all
    ∷ [])
    (done
    ∷ regions []
    ∷ done
    ∷ done
    ∷ new 0 1
    ∷ new 1 1
    ∷ refused 11
    ∷ regions (record { start = 2; length = 4; resident = 2 } ∷ record { start = 6; length = 2; resident = 0 } ∷ [])
    ∷ regions []
    ∷ refused 2
    ∷ [])
unfolding played
lists = refl

-- the nine page sizes are accepted, and nothing between, below or above
page_sizes : says
    (start (sizes 1 1 1 256) all
    ∷ start (sizes 1 1 1 512) all
    ∷ start (sizes 1 1 1 1024) all
    ∷ start (sizes 1 1 1 2048) all
    ∷ start (sizes 1 1 1 4096) all
    ∷ start (sizes 1 1 1 8192) all
    ∷ start (sizes 1 1 1 16384) all
    ∷ start (sizes 1 1 1 32768) all
    ∷ start (sizes 1 1 1 65536) all
    ∷ start (sizes 1 1 1 0) all
    ∷ start (sizes 1 1 1 128) all
    ∷ start (sizes 1 1 1 255) all
    ∷ [])
    (replicate 9 done ++ replicate 3 (refused 1))
unfolding played
page_sizes = refl

-- released frames come first again, newest mapped first, before those never used
pool_order : says
    (start (sizes 1 8 6 256) all
    ∷ mark 0 0 all
    ∷ mark 0 4 all
    ∷ touch 0 0 all
    ∷ touch 0 4 all
    ∷ touch 0 1 all
    ∷ touch 0 2 all
    ∷ release 0 0 all
    ∷ touch 0 5 all
    ∷ touch 0 6 all
    ∷ touch 0 7 all
    ∷ touch 0 3 all
    ∷ free
    ∷ [])
    (done ∷ done ∷ done ∷ new 0 1 ∷ new 1 1 ∷ new 2 1 ∷ new 3 1 ∷ pages 3 ∷ new 3 1 ∷ new 2 1 ∷ new 0 1 ∷ new 4 1 ∷ frames 1 ∷ [])
unfolding played
pool_order = refl
