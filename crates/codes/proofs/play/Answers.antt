-- The first j codes are played.
use mathlib.Core.Path.{◌≡◌}
use Prim.Native.Nat.{◌/◌, min}
use lib.ListN.{length}
use native.Mathlib.Omega.{arith}
use Rattle.std.proofs.Common.{rules, length-take}
use Rattle.plays.proofs.Laws.{played}
use Rattle.codes.proofs.Playing.{playing_none, playing_more, chunk_code}
use Rattle.codes.proofs.play.Goals as goal

pub loop-j-init : goal.loop-j-init
loop-j-init c = playing_none _ _ _ _

pub loop-j-preserved : goal.loop-j-preserved
loop-j-preserved c =
    let same = chunk_code _ _ _ _ (length c.loop-j.bytes) (length c.loop-j.records) c.as_chunks.ensures.front c.as_chunks.ensures.front_len c.loop-j-test.true in
    playing_more _ _ _ _ _ _ _ c.loop-j.invariant (omega (arith, length-take c.min-n.result c.as_chunks.result.0.now)) _ _ _ _
    (cc)
    c.play_one-next.auto.reply c.play_one-next.auto.bytes c.play_one-next.auto.records (rw same at c.play_one-next.ensures)

pub returns : goal.returns
returns c =
    let i = c.loop-j.invariant in
    let n : c.min-n.result ≡ min (length c.args.codes.now / 5) (length c.args.replies.now / 3) = search rules in
    let all : c.loop-j.j ≡ c.min-n.result = omega (arith, length-take c.min-n.result c.as_chunks.result.0.now) in
    played _ i.events (rw (all, n) at i.turns)
