-- Parts of texts of digits, as the rules read them. Assumes nothing.
use mathlib.Core.Path.{◌≡◌, refl, ap}
use mathlib.Core.Bool.{true, false}
use mathlib.Core.List.{List, [], ◌∷◌, ◌++◌}
use Prim.Native.Nat.{ℕ, zero, suc, ◌-◌, ◌*◌, ◌^◌, ◌≤◌, ◌<◌}
use native.Mathlib.Omega.{arith}
use borrow.Author.Tests.{eqb-true}
use lib.Dec.{eqb}
use lib.ListN.{length, take, drop, set, length-drop}
use lib.Seq.{take_all}
use Rattle.ascii.specs.Class.{is_digit, all}
use Rattle.ascii.proofs.Tests.{below_at}
use Rattle.ascii.proofs.Class.{all_nil, all_cons, all_first, all_rest}
use Rattle.figures.specs.Total.{total, number}
use Rattle.figures.specs.Figures.{adds, weight_at}
use Rattle.figures.specs.Inner.{powers}

pub all_end : (u v : List ℕ) → all is_digit (u ++ v) ≡ true → all is_digit v ≡ true
all_end [] v h = h
all_end (b ∷ u) v h = all_end u v (all_rest is_digit b (u ++ v) h)

pub all_front : (u v : List ℕ) → all is_digit (u ++ v) ≡ true → all is_digit u ≡ true
all_front [] v h = all_nil is_digit
all_front (b ∷ u) v h = all_cons is_digit b u (all_first is_digit b (u ++ v) h) (all_front u v (all_rest is_digit b (u ++ v) h))

pub all_set : (s : List ℕ) (i v : ℕ) → all is_digit s ≡ true → is_digit v ≡ true → all is_digit (set s i v) ≡ true
all_set [] i v h d = h
all_set (b ∷ s) zero v h d = all_cons is_digit v s d (all_rest is_digit b s h)
all_set (b ∷ s) (suc i) v h d = all_cons is_digit b (set s i v) (all_first is_digit b s h) (all_set s i v (all_rest is_digit b s h) d)

-- the part of a text from a to its end e, as the code lends it
pub cut : (a e : ℕ) (s : List ℕ) → length s ≡ e → take (e - a) (drop a s) ≡ drop a s
cut a e s h = take_all (e - a) (drop a s) (omega (arith, length-drop a s))

-- totals to which each digit adds the same
pub same_total : (f g : ℕ → ℕ → ℕ) (s : List ℕ) → ((k d : ℕ) → k < length s → f k d ≡ g k d) → total f s ≡ total g s
same_total f g [] h = refl
same_total f g (b ∷ s) h =
    omega (arith, h (length s) (b - 48) (omega arith), same_total f g s (λ k d l. h k d (omega arith)))

-- the total by the powers of ten is the number itself
pub by_powers : (s : List ℕ) → length s ≤ 10 → total (adds false powers) s ≡ number s
by_powers s h =
    same_total (adds false powers) (λ k d. 10 ^ k * d) s
    (λ k d l. ap (λ w. w * d) (eqb-true (weight_at powers k) (10 ^ k) (below_at 10 (λ j. eqb (weight_at powers j) (10 ^ j)) refl k (omega arith))))
