-- What is known of a completion or a listing that is done. Assumes nothing.
use mathlib.Core.Path.{◌≡◌, refl, sym, ap, ◌∙◌}
use mathlib.Core.Bool.{Bool, true, false}
use mathlib.Core.List.{List}
use Prim.Native.Nat.{ℕ}
use lib.ListN.{length}
use Rattle.std.specs.Prelude.{Option, Some, None, Result, Ok, Err, ⊤}
use Rattle.ascii.specs.Pick.{pick}
use Rattle.answer.specs.declared.reason.Reason.{Reason}
use Rattle.answer.specs.declared.reason.Reason.TheVariants.{Form as FormReason}
use Rattle.forms.specs.Form.{Form, fits, fault_of}
use Rattle.forms.specs.declared.form.Fault.{Fault}
use Rattle.forms.proofs.OfDigits.{digits_true}
use Rattle.text.specs.declared.reading.Reading.TheVariants.{Normalised}
use Rattle.text.specs.Answer.{readable_of, text_by}
use Rattle.figures.specs.Findings.{judged}
use Rattle.rules.specs.Finding.{accepts}
use Rattle.corrections.specs.declared.five.Five.{Five}
use Rattle.corrections.specs.Five.{rule_of, number_form, body_form, five_of}
use Rattle.corrections.specs.Outcome.{Outcome, Works, unless, first, for_five, form_reason, room_reason}
use Rattle.corrections.specs.Completing.{no_figure, completed_by, completing}
use Rattle.corrections.specs.Corrections.{corrections}
use Rattle.checks.specs.Reading.{when_read, found_in}
use Rattle.corrections.specs.Listing.{number_found, room_for, entries_of, listed_by, listed_for, listing}
use Rattle.corrections.specs.Meaning.{Listed, CompletedAs}
use Rattle.corrections.proofs.Completes.{completed}
use Rattle.corrections.proofs.Theorems.{whole}

-- the promise of a completion or a listing has no second answer, and leaves no second area
pub one_answer : (o : Outcome) (area : List ℕ) (r q : Result ℕ Reason) (x y : List ℕ) → Works o area r x → Works o area q y → (r ≡ q) × (x ≡ y)
one_answer o area r q x y v w = (v.says ∙ sym w.says, v.now ∙ sym w.now)

-- ---- no reason is given

done_none : (why : Option Reason) (o : Outcome) {n : ℕ} → (unless why o).says ≡ Ok n → why ≡ None
unfolding unless
done_none None o h = refl
done_none (Some r) o h = cc

both_none : (a b : Option Reason) → first a b ≡ None → (a ≡ None) × (b ≡ None)
unfolding first
both_none None b h = (refl, h)
both_none (Some r) b h = cc

form_met : (f : Form) (s : List ℕ) → form_reason f s ≡ None → fits f s ≡ true
unfolding form_reason pick
form_met f s h = go (fits f s) h
  where
    go : (t : Bool) → pick t None (Some FormReason) ≡ None → t ≡ true
    go true q = refl
    go false q = cc

-- ---- completing

module _ (scheme body : List ℕ) (room : ℕ) where
  completed_as : (k : Five) {n : ℕ} → five_of scheme ≡ Some k → (completed_by k body room).says ≡ Ok n → CompletedAs scheme body room
  unfolding completing completed_by unless
  completed_as k e h =
      let why = first (no_figure k body) (room_reason 2 room) in
      let w = done_none (first (form_reason (body_form k) body) why) _ h in
      let p = both_none (form_reason (body_form k) body) why w in
      let q = both_none (no_figure k body) (room_reason 2 room) p.1 in
      record {
        kind = k;
        known = e;
        completed = completed body k (digits_true _ _ body (form_met (body_form k) body p.0)) q.0;
        outcome = rw (e, w);
      }

  pub completing_done : {n : ℕ} → (completing scheme body room).says ≡ Ok n → CompletedAs scheme body room
  unfolding completing
  completing_done {n} h = go (five_of scheme) refl h
    where
      go : (x : Option Five) → five_of scheme ≡ x → (for_five x (λ k. completed_by k body room)).says ≡ Ok n → CompletedAs scheme body room
      go (Some k) e q = completed_as k e q
      go None e q = cc

-- ---- listing

module _ (scheme content : List ℕ) (room : ℕ) where
  abbrev s : List ℕ
  s = text_by Normalised content

  -- a finding by which a number is listed
  wrong_found : (k : Five) {n : ℕ} → (listed_for k content room).says ≡ Ok n
      → (listed_for k content room ≡ entries_of k s room) × (accepts (rule_of k) s ≡ false)
  unfolding listed_for found_in
  wrong_found k {n} h = go (readable_of content) h
    where
      judging : (y : Result ⊤ Fault) (b : Bool) → (listed_by (judged y b) (entries_of k s room)).says ≡ Ok n
          → (listed_by (judged y b) (entries_of k s room) ≡ entries_of k s room) × (b ≡ false)
      judging (Ok fit) false q = (refl, refl)
      judging (Ok fit) true q = cc
      judging (Err fault) b q = cc

      go : (x : Result ⊤ Reason) → (listed_by (when_read x (number_found k s)) (entries_of k s room)).says ≡ Ok n
          → (listed_by (when_read x (number_found k s)) (entries_of k s room) ≡ entries_of k s room) × (accepts (rule_of k) s ≡ false)
      go (Ok read) q = judging (fault_of (number_form k) s) (accepts (rule_of k) s) q
      go (Err why) q = cc

  listed_as : (k : Five) {n : ℕ} → five_of scheme ≡ Some k → (listed_for k content room).says ≡ Ok n → Listed scheme content room
  unfolding listing entries_of unless
  listed_as k e h =
      let w = wrong_found k h in
      let why = room_reason (room_for (length s)) room in
      let n = done_none why _ (ap (λ o. o.says) (sym w.0) ∙ h) in
      record {
        kind = k;
        known = e;
        refused = w.1;
        entries = corrections (rule_of k) s;
        whole = whole k s w.1;
        outcome = rw (e, w.0, n);
      }

  pub listing_done : {n : ℕ} → (listing scheme content room).says ≡ Ok n → Listed scheme content room
  unfolding listing
  listing_done {n} h = go (five_of scheme) refl h
    where
      go : (x : Option Five) → five_of scheme ≡ x → (for_five x (λ k. listed_for k content room)).says ≡ Ok n → Listed scheme content room
      go (Some k) e q = listed_as k e q
      go None e q = cc
