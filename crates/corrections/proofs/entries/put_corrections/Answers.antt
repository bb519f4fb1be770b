use Prim.Native.Nat.{ℕ, ◌+◌, ◌-◌, ◌*◌, ◌≤◌}
use lib.ListN.{length}
use Rattle.std.proofs.Common.{rules}
use Rattle.ascii.proofs.Area.{put_more}
use Rattle.corrections.specs.Corrections.{replacements, exchanges, corrections}
use Rattle.corrections.proofs.Exact.{number_long}
use Rattle.corrections.proofs.Areas.{joined_append, room_split, fill_none, next_fits, fill_more, fill_all}
use native.Mathlib.Omega.{arith}
use Rattle.corrections.proofs.entries.put_corrections.Goals.{Start}
use Rattle.corrections.proofs.entries.put_corrections.Goals as goal

abbrev len : Start → ℕ
len c = length c.args.number.now.digits.now

some : (c : Start) → 1 ≤ len c
some c = number_long _ _ _ c.args.number.now.summed

room : (c : Start) → len c * len c + (len c - 1) * len c ≤ length c.args.out.now
room c = rw (room_split (len c) (some c)) at c.requires

pub overflow_sub-i-end : goal.overflow_sub-i-end
overflow_sub-i-end c = some (goal.at.overflow_sub-i-end c).Start

pub loop-i-init : goal.loop-i-init
loop-i-init c = fill_none _ _ _ _

pub loop-i-2-init : goal.loop-i-2-init
loop-i-2-init c = fill_none _ _ _ _

pub loop-i-preserved : goal.loop-i-preserved
loop-i-preserved c =
    fill_more _ _ _ _ _ (length c.args.number.now.digits.now) _ _ c.loop-i.invariant (omega arith) (omega (arith, room (goal.at.loop-i-preserved c).Start)) _ _ (search rules)

pub put_exchange-at-requires-clause-room : goal.put_exchange-at-requires-clause-room
put_exchange-at-requires-clause-room c =
    let n = length c.args.number.now.digits.now in
    let h = fill_all _ _ _ _ c.loop-i.i n c.loop-i.at _ c.loop-i.invariant (omega arith) in
    next_fits _ _ _ _ _ (n - 1) _ _ c.loop-i-2.invariant (omega arith) (omega (arith, room (goal.at.put_exchange-at-requires-clause-room c).Start, h.ends, h.few, c.loop-i.invariant.long))

pub loop-i-2-preserved : goal.loop-i-2-preserved
loop-i-2-preserved c =
    let n = length c.args.number.now.digits.now in
    let h = fill_all _ _ _ _ c.loop-i.i n c.loop-i.at _ c.loop-i.invariant (omega arith) in
    fill_more _ _ _ _ _ (n - 1) _ _ c.loop-i-2.invariant (omega arith) (omega (arith, room (goal.at.loop-i-2-preserved c).Start, h.ends, h.few, c.loop-i.invariant.long)) _ _ (search rules)

pub returns : goal.returns
unfolding corrections replacements exchanges
returns c =
    let n = length c.args.number.now.digits.now in
    let h = fill_all _ _ _ _ c.loop-i.i n c.loop-i.at _ c.loop-i.invariant (omega arith) in
    let k = fill_all _ _ _ _ c.loop-i-2.i (n - 1) c.loop-i-2.at _ c.loop-i-2.invariant (omega arith) in
    rw (joined_append, room_split n (some (goal.at.returns c).Start)) (put_more h k (omega (arith, room (goal.at.returns c).Start, h.few)))
