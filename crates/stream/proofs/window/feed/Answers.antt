-- `stream::window::feed` keeps what the loop says.
use Rattle.std.proofs.Common.{◌+◌, ◌-◌, ◌<◌, length, take, drop, refl, arith}
use Rattle.lines.proofs.Feeding.{part_len, rest_whole, none_left, open_left}
use Rattle.tally.proofs.Running.{running_none}
use Rattle.stream.proofs.Windows.{streaming_none, streaming_line, streaming_right, streaming_within, streaming_room, part_open}
use Rattle.stream.proofs.window.feed.Goals as goal

pub loop-init : goal.loop-init
loop-init c = streaming_none c.args.s.now c.args.counts.now c.args.out.now c.left-more.result _ (omega arith) (running_none c.args.counts.now c.left-more.result c.left-more.ensures.exact c.left-more.ensures.size)

pub slice_bounds-rest-count : goal.slice_bounds-rest-count
slice_bounds-rest-count c = streaming_within c.loop.invariant

pub slice_bounds-rest-start : goal.slice_bounds-rest-start
slice_bounds-rest-start c = streaming_within c.loop.invariant

pub returns-then-n-rest : goal.returns-then-n-rest
returns-then-n-rest c =
    let s = c.args.s.now in
    let o = part_open s (take (length s - c.loop.used) (drop c.loop.used s)) c.loop.used c.line_len-n.result refl c.line_len-n.ensures.exact c.if-n-rest.true in
    record { right = streaming_right c.loop.invariant (open_left _ (drop c.loop.used s) o); within = streaming_within c.loop.invariant }

pub put_line-put-requires : goal.put_line-put-requires
put_line-put-requires c = streaming_room c.loop.invariant (omega arith)

pub loop-preserved : goal.loop-preserved
loop-preserved c =
    let s = c.args.s.now in
    let used = c.loop.used in
    let n = c.line_len-n.result in
    let rest = take (length s - used) (drop used s) in
    let h : n < length rest = omega (arith, part_len s used, c.line_len-n.ensures.within, c.if-n-rest.false) in
    streaming_line c.loop.invariant (take n rest) (n + 1) refl (rest_whole s rest used n refl c.line_len-n.ensures.exact _ h) (omega arith) (omega arith) c.fewer-more.ensures c.put_line-put.ensures

pub returns : goal.returns
returns c = record { right = streaming_right c.loop.invariant (none_left _ _ (omega arith)); within = streaming_within c.loop.invariant }
