-- `stream::program::turn` writes, counts, keeps and ends as the definitions say.
use mathlib.Core.Path.{sym}
use Prim.Native.Nat.{◌+◌}
use native.Mathlib.Omega.{arith}
use lib.Seq.{length-take-le}
use Rattle.stream.proofs.Turns.{same_window, turn_next, turn_over, close_asks}
use Rattle.stream.proofs.program.turn.Goals as goal

pub slice_bounds-close-end-then-closes : goal.slice_bounds-close-end-then-closes
slice_bounds-close-end-then-closes c = let done = c.step-next in sym (length-take-le done.result.kept done.new.buf (omega (arith, done.ensures.held.few, done.ensures.held.ends)))

pub close-end-requires : goal.close-end-requires
close-end-requires c =
    let args = c.args in
    let done = c.step-next in
    let asks = close_asks _ args.buf.now done.new.buf args.out.now done.new.out args.counts.now done.new.counts args.fresh done.result.kept done.result.put done.ensures c.if-closes.true in
    record { one_line = asks.0; room = asks.1 }

pub returns-then-closes : goal.returns-then-closes
returns-then-closes c =
    let args = c.args in
    let done = c.step-next in
    let end = c.close-end in
    let whole = same_window args.buf.now c.min-n.result (args.kept + args.fresh) (omega arith) in
    rw (← whole)
    (turn_over _ args.buf.now done.new.buf args.out.now done.new.out args.counts.now done.new.counts args.fresh done.result.kept done.result.put done.ensures c.if-closes.true end.new.out end.new.counts end.result end.ensures)

pub returns : goal.returns
returns c =
    let args = c.args in
    let done = c.step-next in
    let whole = same_window args.buf.now c.min-n.result (args.kept + args.fresh) (omega arith) in
    rw (← whole)
    (turn_next _ args.buf.now done.new.buf args.out.now done.new.out args.counts.now done.new.counts args.fresh done.result.kept done.result.put done.ensures c.if-closes.false)
