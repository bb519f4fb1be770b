-- The entries of a list are rows of one length, so that their bytes count them; and what a listing answers. Assumes nothing.
use mathlib.Core.Path.{◌≡◌, refl, sym, ap, ◌∙◌}
use mathlib.Core.Bool.{true, false}
use mathlib.Core.List.{List}
use Prim.Native.Nat.{ℕ, ◌+◌, ◌-◌, ◌*◌, ◌/◌, ◌≤◌}
use native.Mathlib.Nat.{mul-div_cancel, zero-add}
use lib.ListN.{length, length-set}
use Rattle.std.specs.Prelude.{Result, Ok, Err, is_ok, ⊤}
use Rattle.ascii.specs.Area.{joined, Put}
use Rattle.ascii.proofs.Tests.{false_true}
use Rattle.answer.specs.declared.reason.Reason.TheVariants.{Form as FormReason, Good as GoodReason}
use Rattle.forms.specs.Form.{fault_of}
use Rattle.forms.specs.declared.form.Fault.{Fault}
use Rattle.figures.specs.Changes.{exchanged}
use Rattle.figures.specs.Findings.{judged}
use Rattle.rules.specs.declared.rule.Rule.{Rule}
use Rattle.rules.specs.Finding.{accepts}
use Rattle.corrections.specs.declared.five.Five.{Five}
use Rattle.corrections.specs.Five.{rule_of, number_form}
use Rattle.corrections.specs.Outcome.{Outcome, refused_with, success, Works}
use Rattle.corrections.specs.Corrections.{only, if_accepted, replaced, fixes_at, replacements, exchanges, corrections}
use Rattle.corrections.specs.Listing.{number_found, room_for, entries_of, listed_by}
use Rattle.corrections.proofs.Areas.{each_rows, joined_only, rows_append}
use Rattle.corrections.proofs.Outcomes.{room_enough}

module _ (r : Rule) (s : List ℕ) where
  accepted_rows : (t : List ℕ) (n : ℕ) → length t ≡ n → length (joined (if_accepted r t)) ≡ length (if_accepted r t) * n
  unfolding if_accepted
  accepted_rows t n e = joined_only (accepts r t) t ∙ ap (λ (k : ℕ). length (only (accepts r t) t) * k) e

  replacements_rows : length (joined (replacements r s)) ≡ length (replacements r s) * length s
  unfolding replacements fixes_at
  replacements_rows =
      each_rows (length s) (length s) (fixes_at r s)
      (λ i h. each_rows 10 (length s) (λ d. if_accepted r (replaced s i d)) (λ d k. accepted_rows (replaced s i d) (length s) (length-set s i (48 + d))))

  exchanges_rows : length (joined (exchanges r s)) ≡ length (exchanges r s) * length s
  unfolding exchanges
  exchanges_rows = each_rows (length s - 1) (length s) (λ i. if_accepted r (exchanged s i)) (λ i h. accepted_rows (exchanged s i) (length s) (simp length-set))

  pub corrections_rows : length (joined (corrections r s)) ≡ length (corrections r s) * length s
  unfolding corrections
  corrections_rows = rows_append (replacements r s) (exchanges r s) (length s) replacements_rows exchanges_rows

-- ---- what a listing of a number answers

module _ (k : Five) (s : List ℕ) (o : Outcome) where
  pub listed_unfit : is_ok (fault_of (number_form k) s) ≡ false → listed_by (number_found k s) o ≡ refused_with FormReason
  listed_unfit h = go (fault_of (number_form k) s) h
    where
      go : (y : Result ⊤ Fault) → is_ok y ≡ false → listed_by (judged y (accepts (rule_of k) s)) o ≡ refused_with FormReason
      go (Ok fit) e = false_true (sym e)
      go (Err fault) e = refl

  pub listed_good : fault_of (number_form k) s ≡ Ok tt → accepts (rule_of k) s ≡ true → listed_by (number_found k s) o ≡ refused_with GoodReason
  listed_good f e = rw (f, e)

  pub listed_wrong : fault_of (number_form k) s ≡ Ok tt → accepts (rule_of k) s ≡ false → listed_by (number_found k s) o ≡ o
  listed_wrong f e = rw (f, e)

pub entries_done : (k : Five) (s a : List ℕ) (m r : ℕ) (after : List ℕ) → room_for (length s) ≤ length a → 1 ≤ length s
    → Put m a 0 (joined (corrections (rule_of k) s)) r after
    → Works (entries_of k s (length a)) a (Ok (r / length s)) after
unfolding entries_of
entries_done k s a m r after h l p =
    let rows = corrections (rule_of k) s in
    let q : r / length s ≡ length rows = ap (λ x. x / length s) (p.ends ∙ zero-add _ ∙ corrections_rows (rule_of k) s) ∙ mul-div_cancel (length rows) l in
    let e = room_enough (room_for (length s)) (length a) (success (length rows) (joined rows)) h in
    record { says = rw (e, q); now = rw e p.now }
