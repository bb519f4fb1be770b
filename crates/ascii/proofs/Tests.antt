-- Facts about tests, and tests that are computed over all small numbers. Assumes nothing.
use mathlib.Core.Path.{◌≡◌, refl, sym}
use mathlib.Core.Bool.{Bool, true, false, not, ◌&&◌}
use mathlib.Core.Logic.{⊎_elim}
use Prim.Native.Nat.{ℕ, zero, suc, ◌<◌}
use native.Mathlib.Nat.{not-suc-le-zero, eq-or-lt_of_le, le_of_suc-le-suc}
use native.Mathlib.Omega.{arith}
use borrow.Author.Tests.{eqb-true, eq-eqb}
use lib.Dec.{eqb}

pub false_true : {A : Type 0} → ◌≡◌ {A = Bool} false true → A
false_true e = absurd (let z : ◌≡◌ {A = ℕ} 0 1 = cc in omega arith)

pub and_true : (a b : Bool) → (a && b) ≡ true → (a ≡ true) × (b ≡ true)
and_true true b e = (refl, e)
and_true false b e = false_true e

pub true_and : (a b : Bool) → a ≡ true → b ≡ true → (a && b) ≡ true
true_and a b e f = rw (e, f)

-- two tests that pass together are equal
pub both_ways : (a b : Bool) → (a ≡ true → b ≡ true) → (b ≡ true → a ≡ true) → a ≡ b
both_ways true b f g = sym (f refl)
both_ways false true f g = g refl
both_ways false false f g = refl

pub not_true : (a : Bool) → (a ≡ true → ⊥) → a ≡ false
not_true true f = absurd (f refl)
not_true false f = refl

pub eqb_iff : (x y z w : ℕ) → (x ≡ y → z ≡ w) → (z ≡ w → x ≡ y) → eqb x y ≡ eqb z w
eqb_iff x y z w f g = both_ways _ _ (λ e. eq-eqb z w (f (eqb-true x y e))) (λ e. eq-eqb x y (g (eqb-true z w e)))

-- the second holds where the first does
abbrev pub implies : Bool → Bool → Bool
implies true b = b
implies false b = true

pub implies_use : (a b : Bool) → implies a b ≡ true → a ≡ true → b ≡ true
implies_use true b h e = h
implies_use false b h e = false_true e

abbrev pub same : Bool → Bool → Bool
same true b = b
same false b = not b

pub same_eq : (a b : Bool) → same a b ≡ true → a ≡ b
same_eq true b e = sym e
same_eq false true e = e
same_eq false false e = refl

-- the test passes at each number below n
abbrev pub below : ℕ → (ℕ → Bool) → Bool
below zero p = true
below (suc n) p = p n && below n p

pub below_at : (n : ℕ) (p : ℕ → Bool) → below n p ≡ true → (k : ℕ) → k < n → p k ≡ true
below_at zero p h k l = absurd (not-suc-le-zero l)
below_at (suc n) p h k l =
    let q = and_true (p n) (below n p) h in
    ⊎_elim (λ e. rw e q.0) (λ g. below_at n p q.1 k g) (eq-or-lt_of_le (le_of_suc-le-suc l))

-- the test passes at each pair of digits
abbrev pub digit_pairs : (ℕ → ℕ → Bool) → Bool
digit_pairs p = below 10 (λ a. below 10 (p a))

pub pair_at : (p : ℕ → ℕ → Bool) → digit_pairs p ≡ true → (a b : ℕ) → a < 10 → b < 10 → p a b ≡ true
pair_at p h a b ha hb = below_at 10 (p a) (below_at 10 (λ x. below 10 (p x)) h a ha) b hb
