-- `corrections::number::Number::accepts_exchanged` meets its contract.
use mathlib.Core.Path.{◌≡◌}
use Prim.Native.Nat.{◌+◌, ◌≤◌}
use native.Mathlib.Omega.{arith}
use Rattle.corrections.proofs.Exact.{digit_bound, sum_small, share_bound, before, after, shares_within, exchanged_test}
use Rattle.corrections.proofs.number.Number.accepts_exchanged.Goals.{After-share-4}
use Rattle.corrections.proofs.number.Number.accepts_exchanged.Goals as goal

-- what the two places give, and how much that is at most
record Told (t : After-share-4) : Type 0 where
  was : t.share.result + t.share-2.result ≡ before t.args.self.now.kind t.args.self.now.digits.now t.args.i
  new : t.share-3.result + t.share-4.result ≡ after t.args.self.now.kind t.args.self.now.digits.now t.args.i
  small : t.share-3.result + t.share-4.result ≤ 77309411328

told : (t : After-share-4) → Told t
told t =
    let i = t.args.i in
    let p = t.args.self.now.summed in
    let new : t.share-3.result + t.share-4.result ≡ after t.args.self.now.kind t.args.self.now.digits.now i = cc in
    let b = share_bound _ _ _ p i _ (omega (arith, t.requires)) (digit_bound _ _ _ p (i + 1) t.requires).1 in
    let d = share_bound _ _ _ p (i + 1) _ t.requires (digit_bound _ _ _ p i (omega (arith, t.requires))).1 in
    record { was = cc; new = new; small = rw new (omega (arith, b, d)) }

pub overflow_add-new : goal.overflow_add-new
overflow_add-new c = omega (arith, (told (goal.at.overflow_add-new c).After-share-4).small)

pub overflow_add-self : goal.overflow_add-self
overflow_add-self c = omega (arith, (told (goal.at.overflow_add-self c).After-share-4).small, sum_small _ _ _ c.args.self.now.summed)

pub overflow_sub-self : goal.overflow_sub-self
overflow_sub-self c =
    let w = told (goal.at.overflow_sub-self c).After-share-4 in
    rw (w.was, w.new) (shares_within _ _ _ c.args.self.now.summed c.args.i c.requires)

pub returns : goal.returns
returns c =
    let w = told (goal.at.returns c).After-share-4 in
    let e = exchanged_test _ _ _ c.args.self.now.summed c.args.i c.requires in
    rw (c.passes.ensures, c.figure.ensures, w.was, w.new) e
