-- `corrections::listing::list_text` meets its contract.
use mathlib.Core.Path.{◌≡◌, refl, ◌∙◌, sym, ap}
use mathlib.Core.Bool.{Bool, false}
use lib.ListN.{length}
use Rattle.std.specs.Prelude.{Result}
use Rattle.forms.specs.Form.{fault_of}
use Rattle.forms.specs.Table.{digits}
use Rattle.figures.specs.Figures.{total_by}
use Rattle.figures.specs.Inner.{figure_by, weight_by, placed, total_passes, summed, summed_by}
use Rattle.figures.proofs.Adding.{sum_means, unfit_means}
use Rattle.rules.specs.Finding.{accepts}
use Prim.Native.Nat.{ℕ, ◌≤◌}
use mathlib.Core.List.{List}
use Rattle.forms.specs.declared.form.Fault.{Fault}
use Rattle.corrections.specs.declared.five.Five.{Five}
use Rattle.corrections.specs.declared.five.Row.{Row}
use Rattle.corrections.specs.Five.{row, rule_of, number_form}
use Rattle.corrections.specs.Listing.{entries_of}
use Rattle.corrections.specs.Inner.{adds_by, Summed}
use Rattle.corrections.proofs.Areas.{small_joined}
use Rattle.corrections.proofs.Exact.{sum_by_figure, number_long, number_passes}
use Rattle.corrections.proofs.Exact as Exact
use Rattle.corrections.proofs.Outcomes.{works_refused, room_short}
use Rattle.corrections.proofs.Rows.{listed_unfit, listed_good, listed_wrong, entries_done}
use native.Mathlib.Omega.{arith}
use Rattle.corrections.proofs.listing.list_text.Goals.{After-passes}
use Rattle.corrections.proofs.listing.list_text.Goals as goal

-- the sum that was asked for, by the row of the scheme
sum_of_number : (k : Five) (s : List ℕ) (q : Row) (ws : List ℕ) (sum : Result ℕ Fault)
    → q ≡ row k
    → ws ≡ placed 20 (weight_by q.figure)
    → sum ≡ summed_by (figure_by q.figure).fold ws (digits q.least q.most) 0 s
    → sum ≡ summed (fault_of (number_form k) s) (total_by (adds_by k) s)
sum_of_number k s q ws sum row_is ws_is sum_is =
    sum_is
    ∙ ap (λ ws. summed_by (figure_by q.figure).fold ws (digits q.least q.most) 0 s) ws_is
    ∙ ap (λ (r : Row). summed_by (figure_by r.figure).fold (placed 20 (weight_by r.figure)) (digits r.least r.most) 0 s) row_is
    ∙ sum_by_figure k false (row k).least (row k).most s (omega arith)

-- a number of the right form, its length, and whether the rule accepts it
record Told (k : Five) (s : List ℕ) (sum : ℕ) (passed : Bool) : Type 0 where
  summed : Summed k s sum
  some : 1 ≤ length s
  short : length s ≤ 20
  accepted : passed ≡ accepts (rule_of k) s

told : (t : After-passes) → Told t.args.kind t.args.s.now t.in-Ok.sum t.passes.result
told t =
    let k = t.args.kind in
    let s = t.args.s.now in
    let m = sum_means _ _ (sym (sum_of_number k s _ _ _ t.row-row.ensures t.weights_of-weights.ensures t.sum_of.ensures) ∙ t.in-Ok.is) in
    let p : Summed k s t.in-Ok.sum = record { formed = m.0; sum_is = sym m.1 } in
    record {
      summed = p;
      some = number_long k s t.in-Ok.sum p;
      short = (Exact.short k s t.in-Ok.sum p).1;
      accepted = t.passes.ensures ∙ ap (λ (r : Row). total_passes r.figure t.in-Ok.sum) t.row-row.ensures ∙ number_passes k s t.in-Ok.sum p;
    }

pub returns-in_default : goal.returns-in_default
returns-in_default c =
    let k = c.args.kind in
    let s = c.args.s.now in
    works_refused _ _ (listed_unfit k s _ (unfit_means (fault_of (number_form k) s) (total_by (adds_by k) s) (sym (sum_of_number k s _ _ _ c.row-row.ensures c.weights_of-weights.ensures c.sum_of.ensures) ∙ c.in_default.is))) refl

pub returns-then-passes : goal.returns-then-passes
returns-then-passes c =
    let w = told (goal.at.returns-then-passes c).After-passes in
    works_refused _ _ (listed_good c.args.kind c.args.s.now _ w.summed.formed (sym w.accepted ∙ c.if-passes.true)) refl

pub overflow_mul-n : goal.overflow_mul-n
overflow_mul-n c = omega (arith, (told (goal.at.overflow_mul-n c).After-passes).short)

pub overflow_sub-n : goal.overflow_sub-n
overflow_sub-n c = omega (arith, (told (goal.at.overflow_sub-n c).After-passes).some)

pub overflow_mul-n-2 : goal.overflow_mul-n-2
overflow_mul-n-2 c = omega (arith, small_joined _ (told (goal.at.overflow_mul-n-2 c).After-passes).short)

pub returns-then-out-n : goal.returns-then-out-n
unfolding entries_of
returns-then-out-n c =
    let w = told (goal.at.returns-then-out-n c).After-passes in
    works_refused _ _ (listed_wrong c.args.kind c.args.s.now _ w.summed.formed (sym w.accepted ∙ c.if-passes.false) ∙ room_short _ _ _ c.if-out-n.true) refl

pub returns : goal.returns
returns c =
    let w = told (goal.at.returns c).After-passes in
    rw (listed_wrong c.args.kind c.args.s.now (entries_of c.args.kind c.args.s.now (length c.args.out.now)) w.summed.formed (sym w.accepted ∙ c.if-passes.false))
    (entries_done c.args.kind c.args.s.now _ _ _ _ c.if-out-n.false w.some c.put_corrections-end.ensures)

pub nonzero_div-result : goal.nonzero_div-result
nonzero_div-result c = let w = told (goal.at.nonzero_div-result c).After-passes in omega (arith, w.some)

pub invariant_of-number : goal.invariant_of-number
invariant_of-number c = record {
  placed = c.weights_of-weights.ensures ∙ ap (λ (r : Row). placed 20 (weight_by r.figure)) c.row-row.ensures;
  summed = (told (goal.at.invariant_of-number c).After-passes).summed;
}
