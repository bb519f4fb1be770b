-- What holds of every reason. Assumes nothing.
use mathlib.Core.Path.{◌≡◌, refl}
use mathlib.Core.Bool.{Bool, true, ◌&&◌}
use mathlib.Core.List.{List, [], ◌∷◌}
use Prim.Native.Nat.{ℕ, zero, suc, pred, ◌<◌}
use native.Mathlib.Omega.{arith}
use Rattle.std.specs.Prelude.{Option, Some, None}
use borrow.Author.Tests.{ltb-true}
use lib.Dec.{ltb}
use lib.ListN.{get_or}
use Rattle.ascii.proofs.Tests.{and_true}
use Rattle.answer.specs.declared.reason.Reason.{Reason}
use Rattle.answer.specs.declared.reason.Reason.TheVariants.{Long, Utf8, Form, Check, Zero, NoFigure, Scheme, Room, Good, Term, Line, Full}
use Rattle.answer.specs.Numbers.{or_zero, reason_number}

-- in the order of their numbers
abbrev reasons : List Reason
reasons =
    Long ∷ Utf8 ∷ Form ∷ Check ∷ Zero ∷ NoFigure ∷ Scheme ∷ Room ∷ Good ∷ Term ∷ Line ∷ Full ∷ []

stands : (r : Reason) → get_or reasons (pred (reason_number r)) Long ≡ r
stands Long = refl
stands Utf8 = refl
stands Form = refl
stands Check = refl
stands Zero = refl
stands NoFigure = refl
stands Scheme = refl
stands Room = refl
stands Good = refl
stands Term = refl
stands Line = refl
stands Full = refl

abbrev each : (Reason → Bool) → List Reason → Bool
each p [] = true
each p (r ∷ rs) = p r && each p rs

each_at : (p : Reason → Bool) (rs : List Reason) (i : ℕ) → each p rs ≡ true → p Long ≡ true → p (get_or rs i Long) ≡ true
each_at p [] i e n = n
each_at p (r ∷ rs) zero e n = (and_true (p r) (each p rs) e).0
each_at p (r ∷ rs) (suc i) e n = each_at p rs i (and_true (p r) (each p rs) e).1 n

-- a test that passes at each of them, by computing
pub every_reason : (p : Reason → Bool) → each p reasons ≡ true → (r : Reason) → p r ≡ true
every_reason p e r = rw (stands r) at (each_at p reasons (pred (reason_number r)) e (and_true (p Long) _ e).0)

pub reason_small : (r : Reason) → reason_number r < 100
reason_small r = ltb-true _ _ (every_reason (λ r. ltb (reason_number r) 100) refl r)

-- 0 is the number of no reason, and stands for none
reason_given : (r : Reason) → 0 < reason_number r
reason_given r = ltb-true _ _ (every_reason (λ r. ltb 0 (reason_number r)) refl r)

pub none_means : (r : Option Reason) → or_zero reason_number r ≡ 0 → r ≡ None
none_means None e = refl
none_means (Some r) e = absurd (let g = reason_given r in omega arith)
