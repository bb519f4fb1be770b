-- Texts that are the same, byte for byte. Assumes nothing.
use mathlib.Core.Path.{◌≡◌, refl, ap}
use mathlib.Core.Bool.{true, false}
use mathlib.Core.List.{List, [], ◌∷◌}
use Prim.Native.Nat.{ℕ}
use native.Mathlib.Omega.{arith}
use borrow.Author.Tests.{eqb-true}
use lib.Dec.{eqb}
use lib.ListN.{length, get_or}
use Rattle.ascii.specs.Written.{same_bytes}
use Rattle.ascii.proofs.Tests.{and_true, not_true, false_true}

pub bytes_eq : (s t : List ℕ) → same_bytes s t ≡ true → s ≡ t
bytes_eq [] [] e = refl
bytes_eq [] (b ∷ t) e = false_true e
bytes_eq (a ∷ s) [] e = false_true e
bytes_eq (a ∷ s) (b ∷ t) e =
    let p = and_true (eqb a b) (same_bytes s t) e in
    let x : a ≡ b = eqb-true a b p.0 in
    let y : s ≡ t = bytes_eq s t p.1 in
    cc

pub same_length : (s t : List ℕ) → (length s ≡ length t → ⊥) → same_bytes s t ≡ false
same_length s t h = not_true (same_bytes s t) (λ e. h (ap length (bytes_eq s t e)))

-- four bytes, one by one
pub four : (s : List ℕ) → length s ≡ 4 → s ≡ get_or s 0 0 ∷ get_or s 1 0 ∷ get_or s 2 0 ∷ get_or s 3 0 ∷ []
four [] n = absurd (omega arith)
four (a ∷ []) n = absurd (omega arith)
four (a ∷ b ∷ []) n = absurd (omega arith)
four (a ∷ b ∷ c ∷ []) n = absurd (omega arith)
four (a ∷ b ∷ c ∷ d ∷ []) n = refl
four (a ∷ b ∷ c ∷ d ∷ e ∷ s) n = absurd (omega arith)
