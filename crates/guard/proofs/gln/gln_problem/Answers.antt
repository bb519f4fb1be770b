-- `guard::gln::gln_problem` meets its contract: at 13 bytes the form of rule 40 and the strict one find the same. Assumes nothing.
use mathlib.Core.Path.{◌≡◌, refl, sym, ◌∙◌, ap}
use mathlib.Core.Bool.{Bool, true, false}
use mathlib.Core.List.{List}
use Prim.Native.Nat.{ℕ}
use native.Mathlib.Omega.{arith}
use borrow.Author.Tests.{leb-true, leb-false}
use lib.Dec.{leb}
use Rattle.std.specs.Prelude.{Result, Err, ⊤}
use lib.ListN.{length}
use Rattle.forms.specs.declared.form.Fault.{Fault}
use Rattle.forms.specs.declared.form.Fault.TheVariants.{Length}
use Rattle.forms.specs.Form.{fault_of}
use Rattle.forms.specs.Table.{digits}
use Rattle.forms.proofs.Laws.{fault_short, fault_long, fault_inside}
use Rattle.figures.specs.Findings.{judged}
use Rattle.figures.specs.Figures.{right, figure40}
use Rattle.figures.specs.Rules.{gln}
use Rattle.guard.specs.Gln.{strict_gln}
use Rattle.guard.proofs.gln.gln_problem.Goals as goal

strict : (s : List ℕ) → length s ≡ 13 → gln s ≡ strict_gln s
unfolding gln strict_gln
strict s n =
    ap (λ (y : Result ⊤ Fault). judged y (right figure40 s))
    (fault_inside (digits 1 1024) s (omega arith) (omega arith) ∙ sym (fault_inside (digits 13 13) s (omega arith) (omega arith)))

other : (s : List ℕ) → (length s ≡ 13 → ⊥) → fault_of (digits 13 13) s ≡ Err Length
other s n = go (leb 13 (length s)) refl
  where
    go : (t : Bool) → leb 13 (length s) ≡ t → fault_of (digits 13 13) s ≡ Err Length
    go true e = fault_long (digits 13 13) s (omega (arith, leb-true 13 (length s) e))
    go false e = fault_short (digits 13 13) s (leb-false 13 (length s) e)

pub returns-then-text-eq13 : goal.returns-then-text-eq13
returns-then-text-eq13 c = c.gln.ensures ∙ strict _ c.if-text-eq13.true

pub returns : goal.returns
unfolding strict_gln
returns c = rw (other _ c.if-text-eq13.false) refl
