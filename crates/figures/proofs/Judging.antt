-- How form and figure come to a finding. Assumes nothing.
use mathlib.Core.Path.{◌≡◌, refl}
use mathlib.Core.Bool.{Bool, true, false}
use Rattle.std.specs.Prelude.{Result, Ok, Err, IsErr, IsErrAnd, ⊤}
use Rattle.std.proofs.lemmas.Result.{err_from_is_err_and}
use Rattle.ascii.proofs.Tests.{false_true}
use Rattle.forms.specs.declared.form.Fault.{Fault}
use Rattle.figures.specs.Findings.{Finding, is_good, judged, judged_zero}
use Rattle.figures.specs.declared.finding.Problem.TheVariants.{Zero, Unfit}

-- what is returned where the form is not met
module _ {r : Finding} {y : Result ⊤ Fault} {fault : Fault} (a : IsErr r × IsErrAnd r (λ p. p ≡ Unfit fault)) (h : Err fault ≡ y) where
  pub unmet : (x : Bool) → r ≡ judged y x
  unmet x = let p = err_from_is_err_and r a.1 in rw (← h, p.1, p.2) refl

  pub unmet_zero : (z x : Bool) → r ≡ judged_zero y z x
  unmet_zero z x = let p = err_from_is_err_and r a.1 in rw (← h, p.1, p.2) refl

-- and where it is met, and the figure then decides
pub met : {r : Finding} {y : Result ⊤ Fault} {t : Bool} (x : Bool) → Ok tt ≡ y → t ≡ x → r ≡ judged (Ok tt) t → r ≡ judged y x
met x h e g = rw (← h, ← e) g

pub met_zero : {y : Result ⊤ Fault} {z : Bool} (x : Bool) → Ok tt ≡ y → z ≡ true → Err Zero ≡ judged_zero y z x
met_zero x h e = rw (← h, e) refl

pub met_not_zero : {r : Finding} {y : Result ⊤ Fault} {z t : Bool} (x : Bool) → Ok tt ≡ y → z ≡ false → t ≡ x → r ≡ judged (Ok tt) t
    → r ≡ judged_zero y z x
met_not_zero x h d e g = rw (← h, d, ← e) g

-- what an accepted number shows
pub good_parts : (y : Result ⊤ Fault) (x : Bool) → is_good (judged y x) ≡ true → (y ≡ Ok tt) × (x ≡ true)
good_parts (Ok tt) true h = (refl, refl)
good_parts (Ok tt) false h = false_true h
good_parts (Err fault) x h = false_true h

pub good_zero : (y : Result ⊤ Fault) (z x : Bool) → is_good (judged_zero y z x) ≡ true → (y ≡ Ok tt) × (z ≡ false) × (x ≡ true)
good_zero (Ok tt) true x h = false_true h
good_zero (Ok tt) false x h = (refl, refl, (good_parts (Ok tt) x h).1)
good_zero (Err fault) z x h = false_true h

-- where the form is met the figure decides
pub good_by : {y : Result ⊤ Fault} (x : Bool) → y ≡ Ok tt → is_good (judged y x) ≡ x
good_by true h = rw h refl
good_by false h = rw h refl

pub good_by_zero : {y : Result ⊤ Fault} {z : Bool} (x : Bool) → y ≡ Ok tt → z ≡ false → is_good (judged_zero y z x) ≡ x
good_by_zero x h g = rw (h, g) (good_by x refl)
