use Rattle.std.proofs.Common.{◌<◌, ◌≤◌, length, arith}
use Rattle.lines.proofs.Splits.{upto_here, upto_past, upto_end}
use Rattle.lines.proofs.split.line_len.Goals as goal

pub loop-i-init : goal.loop-i-init
loop-i-init c = omega arith

pub returns-then-s-i-eq10-clause-exact : goal.returns-then-s-i-eq10-clause-exact
returns-then-s-i-eq10-clause-exact c =
    let h : c.loop-i.i < length c.args.s.now = omega arith in
    omega (arith, c.loop-i.invariant, upto_here c.args.s.now c.loop-i.i h c.if-s-i-eq10.true)

pub loop-i-preserved : goal.loop-i-preserved
loop-i-preserved c =
    let h : c.loop-i.i < length c.args.s.now = omega arith in
    omega (arith, c.loop-i.invariant, upto_past c.args.s.now c.loop-i.i h c.if-s-i-eq10.false)

pub returns-clause-exact : goal.returns-clause-exact
returns-clause-exact c =
    let h : length c.args.s.now ≤ c.loop-i.i = omega arith in
    omega (arith, c.loop-i.invariant, upto_end c.args.s.now c.loop-i.i h)
