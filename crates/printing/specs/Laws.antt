-- What is said where there is room.
use Rattle.std.specs.Prelude.{◌≡◌, List, ℕ, ◌+◌, ◌≤◌, length}
use Rattle.std.proofs.Common.{le-leb}
use Rattle.requests.specs.Requests.{replied}
use Rattle.requests.specs.declared.Reply.{Reply}
use Rattle.printing.specs.Text.{text}
use Rattle.printing.specs.Writing.{shown, said_text}

pub said_whole : (at : ℕ) (out : List ℕ) (r : Reply) (bytes records : List ℕ) → at + 65536 ≤ length out → length bytes ≤ 32736 → length records ≤ 3072
    → shown r ≤ length records → said_text at out r bytes records ≡ text (replied r bytes records)
unfolding said_text
said_whole at out r bytes records room few_bytes few-records shown-in =
    rw (
      le-leb (at + 65536) (length out) room,
      le-leb (length bytes) 32736 few_bytes,
      le-leb (length records) 3072 few-records,
      le-leb (shown r) (length records) shown-in,
    )
