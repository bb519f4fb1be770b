-- Membership and single standing in lists made by counting. Assumes nothing.
use mathlib.Core.Path.{◌≡◌, refl}
use mathlib.Core.Logic.{⊎_elim}
use mathlib.Core.List.Memᴰ
use mathlib.Core.List.{List, [], ◌∷◌, ◌++◌, Memᴰ}
use Prim.Native.Nat.{ℕ, zero, suc, ◌≤◌, ◌<◌}
use native.Mathlib.Omega.{arith}
use native.Mathlib.Decide.{ℕ_discrete}
use lib.ListN.{length, length-append}
use Rattle.corrections.specs.Corrections.{each}
use Rattle.corrections.specs.Meaning.{Once}

abbrev pub In : List ℕ → List (List ℕ) → Type 0
In t l = Memᴰ t l

-- t stands in some f i
pub in_each : (n : ℕ) (f : ℕ → List (List ℕ)) (t : List ℕ) → In t (each n f) → (i : ℕ) × (i < n) × In t (f i)
unfolding each
in_each zero f t m = absurd (Memᴰ.not-nil m)
in_each (suc n) f t m =
    ⊎_elim (λ a. let r = in_each n f t a in (r.0, omega (arith, r.1), r.2)) (λ b. (n, omega arith, b)) (Memᴰ.append_cases (each n f) m)

pub each_in : (n : ℕ) (f : ℕ → List (List ℕ)) (t : List ℕ) (i : ℕ) → i < n → In t (f i) → In t (each n f)
unfolding each
each_in zero f t i h m = absurd (omega arith)
each_in (suc n) f t i h m =
    elim (ℕ_discrete i n) [
      | yes q ↦ Memᴰ.append_right (each n f) (rw (← q) m)
      | no ne ↦ Memᴰ.append_left (f n) (each_in n f t i (lt_of_ne i n h ne) m)
    ]
  where
    lt_of_ne : (d k : ℕ) → d < suc k → (d ≡ k → ⊥) → d < k
    lt_of_ne d k l ne = omega arith

pub once_append : (a b : List (List ℕ)) → Once a → Once b → ((t : List ℕ) → In t a → In t b → ⊥) → Once (a ++ b)
once_append [] b p q h = q
once_append (x ∷ a) b p q h = (
  λ m. ⊎_elim p.0 (h x (Memᴰ.head refl)) (Memᴰ.append_cases a m),
  once_append a b p.1 q (λ t u v. h t (Memᴰ.tail u) v),
)

pub once_each : (n : ℕ) (f : ℕ → List (List ℕ)) → ((i : ℕ) → i < n → Once (f i))
    → ((i j : ℕ) (t : List ℕ) → i < j → j < n → In t (f i) → In t (f j) → ⊥) → Once (each n f)
unfolding each
once_each zero f p h = tt
once_each (suc n) f p h =
    once_append (each n f) (f n) (once_each n f (λ i l. p i (omega arith)) (λ i j t k l u v. h i j t k (omega arith) u v)) (p n (omega arith))
    (λ t u v. let r = in_each n f t u in h r.0 n t r.1 (omega arith) r.2 v)

pub each_length : (n : ℕ) (f : ℕ → List (List ℕ)) → ((i : ℕ) → i < n → length (f i) ≤ 1) → length (each n f) ≤ n
unfolding each
each_length zero f h = omega arith
each_length (suc n) f h = rw (length-append (each n f) (f n)) (omega (arith, each_length n f (λ i l. h i (omega arith)), h n (omega arith)))
