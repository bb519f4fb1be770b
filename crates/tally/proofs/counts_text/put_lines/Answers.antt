use Rattle.std.proofs.Common.{◌≡◌, ◌<◌, length, arith, rules}
use Rattle.tally.proofs.Texts.{number_at, laying_none, laying_line, laying_others, laying_line_room, laying_room}
use Rattle.tally.proofs.counts_text.put_lines.Goals as goal

pub loop-i-init : goal.loop-i-init
loop-i-init c = laying_none c.args.counts.now c.args.out.now c.args.at

pub put_line-end-requires-clause-room : goal.put_line-end-requires-clause-room
put_line-end-requires-clause-room c = laying_line_room c.loop-i.invariant (omega arith) (omega (arith, c.loop-i-test.true))

pub loop-i-preserved : goal.loop-i-preserved
loop-i-preserved c =
    let h : c.loop-i.i < 17 = omega (arith, c.loop-i-test.true) in
    laying_line c.loop-i.invariant (omega arith) h (number_at c.loop-i.i h) (search rules) c.put_line-end.ensures

pub put_others-requires-clause-room : goal.put_others-requires-clause-room
put_others-requires-clause-room c = laying_room c.loop-i.invariant (omega arith)

pub returns : goal.returns
returns c =
    let size : length c.args.counts.now ≡ 53 = search rules in
    laying_others c.loop-i.invariant (omega arith) size (omega (arith, c.loop-i-test.false)) c.put_others.ensures
