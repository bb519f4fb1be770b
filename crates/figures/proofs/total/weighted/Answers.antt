-- `figures::total::weighted` meets its contract. Assumes nothing.
use Prim.Native.Nat.{◌+◌, ◌-◌, ◌*◌, ◌≤◌}
use mathlib.Core.Path.{◌≡◌, ◌∙◌, sym, ap}
use native.Mathlib.Omega.{arith}
use lib.ListN.{length, get_or}
use Rattle.std.specs.Iterator.Adapters.{zip_first, zip_second, rev_source}
use Rattle.std.specs.Slice.Iter.{iter_rest}
use Rattle.ascii.proofs.Class.{digit_bounds}
use Rattle.figures.specs.Figures.{counted, adds}
use Rattle.figures.proofs.Adding.{share_small}
use Rattle.figures.proofs.Steps.{shorter, left_of, added, last_digit, first_weight, other_weights, within_table}
use Rattle.figures.proofs.total.weighted.Goals as goal
use Rattle.figures.proofs.total.weighted.Goals.{After-counted-sum}

-- the weight that is read
weight : (c : After-counted-sum) → c.in-Some.w.now ≡ get_or c.args.weights.now (length c.args.s.now - length (iter_rest (rev_source (zip_first c.loop-b.b-iterator)))) 0
weight c =
    first_weight c.args.weights.now (iter_rest (zip_second c.next.new.self)) (length c.args.s.now - length (iter_rest (rev_source (zip_first c.loop-b.b-iterator))))
    c.in-Some.w.now (c.loop-b.invariant.2 ∙ c.in-Some.ensures.steps.1)

-- what the digit that is read adds
small : (c : After-counted-sum) → c.counted-sum.result ≤ 38654705664
small c =
    let d = digit_bounds _ (last_digit _ _ _ _ c.in-Some.ensures.steps.0 c.loop-b.invariant.1 c.requires.digits) in
    let k = length c.args.s.now - length (iter_rest (rev_source (zip_first c.loop-b.b-iterator))) in
    rw c.counted-sum.ensures
    (share_small c.args.fold c.in-Some.w.now (c.in-Some.b.now - 48) (omega (arith, weight c, c.type_inv.weights k)) (omega arith))

pub overflow_sub-b : goal.overflow_sub-b
overflow_sub-b c =
    let d = digit_bounds _ (last_digit _ _ _ _ c.in-Some.ensures.steps.0 c.loop-b.invariant.1 c.requires.digits) in omega arith

pub overflow_add-sum : goal.overflow_add-sum
overflow_add-sum c = omega (arith, small (goal.at.overflow_add-sum c).After-counted-sum, c.requires.few)

pub loop-b-preserved : goal.loop-b-preserved
loop-b-preserved c =
    let a = c.args in
    let v = c.loop-b.invariant in
    let i = c.in-Some.ensures.steps in
    let l = iter_rest (rev_source (zip_first c.loop-b.b-iterator)) in
    let m = iter_rest (rev_source (zip_first c.next.new.self)) in
    let n = shorter a.s.now l m c.in-Some.b.now i.0 v.1 in
    let z : length a.s.now - length m ≡ length a.s.now - length l + 1 = omega arith in
    let t = goal.at.loop-b-preserved c in (
      omega arith,
      left_of a.s.now l m c.in-Some.b.now i.0 v.1,
      rw z (sym (other_weights a.weights.now (iter_rest (zip_second c.next.new.self)) (length a.s.now - length l) c.in-Some.w.now (v.2 ∙ i.1))),
      omega (arith, small t.After-counted-sum),
      omega (
        arith,
        added a.s.now l m c.in-Some.b.now i.0 v.1 (adds a.fold a.weights.now),
        c.counted-sum.ensures,
        ap (λ w. counted a.fold (w * (c.in-Some.b.now - 48)))
            (weight t.After-counted-sum ∙ sym (within_table a.weights.now (length a.s.now - length l) (omega (arith, c.requires.enough)))),
      ),
    )
