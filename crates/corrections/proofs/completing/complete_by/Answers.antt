-- `corrections::completing::complete_by` meets its contract.
use mathlib.Core.Path.{◌≡◌, refl, sym, ap, ◌∙◌}
use mathlib.Core.Bool.{true, false, not}
use mathlib.Core.List.{List}
use Prim.Native.Nat.{ℕ, ◌≤◌}
use native.Mathlib.Omega.{arith}
use mir.Val.{bool_byte}
use lib.ListN.{length}
use Rattle.std.proofs.Common.{rules}
use Rattle.std.specs.Prelude.{None, Result, Ok, Err}
use Rattle.ascii.specs.Pick.{pick}
use Rattle.answer.specs.declared.reason.Reason.{Reason}
use Rattle.forms.specs.Form.{fault_of, fits}
use Rattle.forms.specs.Table.{digits}
use Rattle.forms.proofs.Meaning.{fault_fits}
use Rattle.forms.proofs.OfDigits.{Digits, digits_fit}
use Rattle.figures.specs.Completing.{one_digit, two_digits, check_figure}
use Rattle.figures.specs.Inner.{figure_by, weight_by, placed, figure_for as kind_figure, summed, summed_by}
use Rattle.figures.proofs.Adding.{sum_means, unfit_means}
use Rattle.forms.specs.declared.form.Fault.{Fault}
use Rattle.corrections.specs.declared.five.Five.{Five}
use Rattle.corrections.specs.declared.five.Row.{Row}
use Rattle.corrections.specs.Five.{row, body_form}
use Rattle.corrections.specs.Outcome.{refused_with, success, unless, first, form_reason, room_reason}
use Rattle.corrections.specs.Completing.{figure_for, no_figure, completed_by}
use Rattle.corrections.proofs.Outcomes.{works_refused, room_short, room_enough}
use Rattle.corrections.proofs.Exact.{sum_by_figure}
use Rattle.corrections.proofs.Checks.{body_total, body_room, given, none_given, some_given, figure_is, figure_small}
use Rattle.corrections.proofs.completing.complete_by.Goals.{After-figure_for}
use Rattle.corrections.proofs.completing.complete_by.Goals as goal

-- the sum that was asked for, by the row of the scheme
sum_of_body : (k : Five) (body : List ℕ) (tell : Row) (ws : List ℕ) (sum : Result ℕ Fault)
    → tell ≡ row k
    → ws ≡ placed 20 (weight_by tell.figure)
    → sum ≡ summed_by (figure_by tell.figure).fold ws (digits tell.shortest tell.longest) (bool_byte (not tell.pair)) body
    → sum ≡ summed (fault_of (body_form k) body) (body_total k body)
sum_of_body k body tell ws sum row_is ws_is sum_is =
    sum_is
    ∙ ap (λ ws. summed_by (figure_by tell.figure).fold ws (digits tell.shortest tell.longest) (bool_byte (not tell.pair)) body) ws_is
    ∙ ap (λ (r : Row). summed_by (figure_by r.figure).fold (placed 20 (weight_by r.figure)) (digits r.shortest r.longest) (bool_byte (not r.pair)) body) row_is
    ∙ sum_by_figure k (not (row k).pair) (row k).shortest (row k).longest body (body_room k)

-- a body of the right form, and what was answered of its figure
record Told (k : Five) (body : List ℕ) (tell : Row) (answer : Result ℕ Reason) : Type 0 where
  row_is : tell ≡ row k
  fit : fits (body_form k) body ≡ true
  asked : answer ≡ kind_figure (row k).figure (body_total k body)
  answer_is : answer ≡ given (no_figure k body) (check_figure (row k).figure body)

told : (t : After-figure_for) → Told t.args.kind t.args.body.now t.row-row.result t.figure_for.result
told t =
    let k = t.args.kind in
    let body = t.args.body.now in
    let parts = sum_means _ _ (sym (sum_of_body _ _ _ _ _ t.row-row.ensures t.weights_of-weights.ensures t.sum_of.ensures) ∙ t.in-Ok.is) in
    let formed : Digits (row k).shortest (row k).longest body = digits_fit (row k).shortest (row k).longest body parts.0 in
    let asked : t.figure_for.result ≡ kind_figure (row k).figure (body_total k body) = t.figure_for.ensures ∙ ap (λ (q : Row). kind_figure q.figure t.in-Ok.total) t.row-row.ensures ∙ ap (kind_figure (row k).figure) (sym parts.1) in
    record { row_is = t.row-row.ensures; fit = fault_fits (body_form k) body parts.0; asked = asked; answer_is = asked ∙ figure_is body k formed }

module _ {k : Five} {body : List ℕ} {tell : Row} {answer : Result ℕ Reason} (w : Told k body tell answer) where
  stopped : (room : ℕ) (r : Reason) → answer ≡ Err r → completed_by k body room ≡ refused_with r
  unfolding completed_by form_reason first unless pick
  stopped room r h = rw (w.fit, some_given _ _ (sym w.answer_is ∙ h))

  module _ {lack : ℕ} (h : answer ≡ Ok lack) where
    known : (no_figure k body ≡ None) × (check_figure (row k).figure body ≡ lack)
    known = none_given _ (sym w.answer_is ∙ h)

    small : lack ≤ 99
    small = figure_small k (body_total k body) (sym w.asked ∙ h)

    pair_done : tell.pair ≡ true → figure_for k body ≡ two_digits lack
    unfolding pick
    pair_done p = rw (sym (ap (λ (q : Row). q.pair) w.row_is) ∙ p, known.1)

    digit_done : tell.pair ≡ false → figure_for k body ≡ one_digit lack
    unfolding pick
    digit_done p = rw (sym (ap (λ (q : Row). q.pair) w.row_is) ∙ p, known.1)

    -- where a figure is found only the room is left to ask for
    past : (room : ℕ) → completed_by k body room ≡ unless (room_reason 2 room) (success (length (figure_for k body)) (figure_for k body))
    unfolding completed_by form_reason first pick
    past room = rw (w.fit, known.0)

pub returns-in_default : goal.returns-in_default
unfolding completed_by form_reason first unless pick fits
returns-in_default c =
    let f = body_form c.args.kind in
    works_refused _ _
    (rw (unfit_means (fault_of f c.args.body.now) (body_total c.args.kind c.args.body.now)
    (sym (sum_of_body _ _ _ _ _ c.row-row.ensures c.weights_of-weights.ensures c.sum_of.ensures) ∙ c.in_default.is)))
    refl

pub returns-in_err-check : goal.returns-in_err-check
returns-in_err-check c =
    let why = c.in_err-check.field-0.0 in
    let e : c.from_residual.result ≡ Err why = search rules in
    works_refused why _ (stopped (told (goal.at.returns-in_err-check c).After-figure_for) _ _ c.in_err-check.was) e

pub returns-then-out-lt2 : goal.returns-then-out-lt2
returns-then-out-lt2 c =
    works_refused _ _ (past (told (goal.at.returns-then-out-lt2 c).After-figure_for) c.in_ok-check.was _ ∙ room_short 2 _ _ c.if-out-lt2.true) refl

pub overflow_cast-check : goal.overflow_cast-check
overflow_cast-check c = omega (arith, small (told (goal.at.overflow_cast-check c).After-figure_for) c.in_ok-check.was)

pub overflow_add-check-2 : goal.overflow_add-check-2
overflow_add-check-2 c = omega (arith, small (told (goal.at.overflow_add-check-2 c).After-figure_for) c.in_ok-check.was)

pub returns-then-row : goal.returns-then-row
returns-then-row c =
    let w = told (goal.at.returns-then-row c).After-figure_for in
    let h = c.in_ok-check.was in
    rw (past w h _, room_enough 2 _ _ c.if-out-lt2.false, pair_done w h c.if-row.true) c.put_figure.ensures

pub returns : goal.returns
returns c =
    let w = told (goal.at.returns c).After-figure_for in
    let h = c.in_ok-check.was in
    rw (past w h _, room_enough 2 _ _ c.if-out-lt2.false, digit_done w h c.if-row.false) c.put_figure-2.ensures
