use mathlib.Core.Path.{◌≡◌, sym, ◌∙◌}
use Prim.Native.Nat.{◌≤◌}
use borrow.Author.Count.{below_more}
use native.Mathlib.Omega.{arith}
use Rattle.rules.specs.Finding.{accepts}
use Rattle.corrections.specs.Five.{rule_of}
use Rattle.corrections.specs.Corrections.{replaced}
use Rattle.corrections.proofs.Exact.{sum_small, share_bound, share_within, replaced_test}
use Rattle.corrections.proofs.Fixes.{fixes_hit, fixes_none}
use Rattle.corrections.proofs.number.Number.digit_at.Goals.{After-passes}
use Rattle.corrections.proofs.number.Number.digit_at.Goals as goal

-- what the code tests is what the rule says
tested : (t : After-passes) → t.passes.result ≡ accepts (rule_of t.args.self.now.kind) (replaced t.args.self.now.digits.now t.args.i t.loop-d.d)
tested t =
    let e = replaced_test _ _ _ t.args.self.now.summed t.args.i t.loop-d.d t.requires t.loop-d-test.true in
    cc

pub overflow_sub-base : goal.overflow_sub-base
overflow_sub-base c = rw (c.share.ensures, c.digit.ensures) (share_within _ _ _ c.args.self.now.summed c.args.i c.requires)

pub overflow_add-base : goal.overflow_add-base
overflow_add-base c =
    let n = c.args.self.now in
    let b : c.share-in-loop-d.result ≤ 38654705664 = rw c.share-in-loop-d.ensures (share_bound _ _ _ n.summed c.args.i c.loop-d.d c.requires (omega arith)) in
    omega (arith, sum_small _ _ _ n.summed)

pub returns-then-passes-clause-found : goal.returns-then-passes-clause-found
returns-then-passes-clause-found c =
    fixes_hit _ _ c.args.i c.loop-d.d c.requires c.loop-d-test.true (sym (tested (goal.at.returns-then-passes-clause-found c).After-passes) ∙ c.if-passes.true)

pub loop-d-preserved : goal.loop-d-preserved
loop-d-preserved c = below_more _ _ c.loop-d.invariant (sym (tested (goal.at.loop-d-preserved c).After-passes) ∙ c.if-passes.false)

pub returns-clause-found : goal.returns-clause-found
returns-clause-found c = fixes_none _ _ c.args.i (λ x h. c.loop-d.invariant x (omega arith))
