-- `figures::kind::sum_of` meets its contract. Assumes nothing.
use mathlib.Core.Path.{◌≡◌, refl, sym, ◌∙◌, ap}
use mathlib.Core.Bool.{Bool}
use mathlib.Core.List.{List}
use Prim.Native.Nat.{ℕ, ◌+◌, ◌-◌, ◌*◌, ◌≤◌, ◌<◌}
use native.Mathlib.Omega.{arith}
use lib.ListN.{length, get_or, take, drop}
use Rattle.std.proofs.Common.{below_more}
use Rattle.ascii.specs.Class.{is_digit}
use Rattle.ascii.proofs.Class.{digit_bounds}
use Rattle.forms.specs.Table.{digits}
use Rattle.forms.proofs.Laws.{class_digit}
use Rattle.forms.proofs.Meaning.{means_at, means_fits}
use Rattle.figures.specs.Total.{total}
use Rattle.figures.specs.Figures.{counted, adds}
use Rattle.figures.specs.Inner.{figure_by, adds_from}
use Rattle.figures.proofs.Steps.{step, end, within_table}
use Rattle.figures.proofs.Adding.{share_small, sum_unfit, sum_met, places_from}
use Rattle.figures.proofs.kind.sum_of.Goals.{After-share-sum}
use Rattle.figures.proofs.kind.sum_of.Goals as goal

-- the digit at place i is added
turn : (fold : Bool) (ps s : List ℕ) (i sum more : ℕ) → more ≡ counted fold (get_or ps (length s - 1 - i) 0 * (get_or s i 0 - 48))
    → sum + total (adds fold ps) (drop i s) ≡ total (adds fold ps) s → i < length s → length s ≤ length ps
    → sum + more + total (adds fold ps) (drop (i + 1) s) ≡ total (adds fold ps) s
turn fold ps s i sum more e g h l =
    let w = within_table ps (length s - 1 - i) (omega arith) in
    omega (arith, step (adds fold ps) s i h, e ∙ ap (λ w. counted fold (w * (get_or s i 0 - 48))) (sym w))

-- the byte that is read, by the code's test of it
tested : {t x : Bool} {w b : ℕ} → t ≡ is_digit w → w ≡ b → t ≡ x → is_digit b ≡ x
tested h e g = sym (h ∙ ap is_digit e) ∙ g

-- what a digit adds
small : (c : After-share-sum) → c.share-sum.result ≤ 38654705664
small c =
    let d = digit_bounds _ (tested c.is_digit.ensures c.wide.ensures c.if-not-is_digit.false) in
    rw c.share-sum.ensures
    (share_small (figure_by c.args.kind).fold _ _ (omega (arith, c.type_inv.places (length c.args.s.now - 1 - c.loop-i.i))) (omega arith))

pub overflow_sub-b : goal.overflow_sub-b
overflow_sub-b c = (digit_bounds _ (tested c.is_digit.ensures c.wide.ensures c.if-not-is_digit.false)).0

pub overflow_add-sum : goal.overflow_add-sum
overflow_add-sum c = omega (arith, small c)

pub loop-i-preserved : goal.loop-i-preserved
loop-i-preserved c =
    let l = c.loop-i.invariant in (
      omega (arith, small (goal.at.loop-i-preserved c).After-share-sum),
      turn _ _ _ _ _ _ c.share-sum.ensures l.1 c.loop-i-test.true (omega arith),
      below_more _ _ l.2 (tested c.is_digit.ensures c.wide.ensures c.if-not-is_digit.false),
    )

pub returns-then-not-is_digit : goal.returns-then-not-is_digit
returns-then-not-is_digit c =
    sum_unfit _ _ _ _ _ (omega arith) (refl, refl)
    (sym
    (means_at (digits c.args.least c.args.most) c.args.s.now c.loop-i.i
    record {
      least = omega arith;
      most = omega arith;
      inside = c.loop-i-test.true;
      fails = class_digit 0x23 _ refl ∙ tested c.is_digit.ensures c.wide.ensures c.if-not-is_digit.true;
      before = λ k l. class_digit 0x23 _ refl ∙ c.loop-i.invariant.2 k l;
    }))

pub returns : goal.returns
returns c =
    let s = c.args.s.now in
    let ws = c.args.weights.now in
    let fold = (figure_by c.args.kind).fold in
    let after = c.from-after.result in
    let ps = take (length ws - after) (drop after ws) in
    sum_met _ _ _ _ _ (omega arith)
    (sym
    (means_fits (digits c.args.least c.args.most) s
    record { least = omega arith; most = omega arith; each = λ k l. class_digit 0x23 _ refl ∙ c.loop-i.invariant.2 k (omega arith) }))
    (omega (arith, c.loop-i.invariant.1, end (adds fold ps) s c.loop-i.i c.loop-i-test.false)
    ∙ places_from fold ws after s c.if-weights-n.false
    ∙ ap (λ n. total (adds_from n fold ws) s) c.from-after.ensures)
