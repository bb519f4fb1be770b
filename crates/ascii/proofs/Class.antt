-- The classes as bounds, and lists whose every entry passes a test. Assumes nothing.
use mathlib.Core.Path.{◌≡◌, refl}
use mathlib.Core.Bool.{Bool, true, false, ◌&&◌, and-false}
use mathlib.Core.List.{List, [], ◌∷◌, ◌++◌}
use Prim.Native.Nat.{ℕ, zero, suc, ◌+◌, ◌-◌, ◌≤◌, ◌<◌}
use native.Mathlib.Numerals.{add-one}
use native.Mathlib.Omega.{arith}
use borrow.Author.Tests.{le-leb, lt-leb, leb-true}
use lib.Dec.{leb}
use lib.ListN.{length, get_or, take, drop, drop_of_length-le}
use lib.Seq.{drop-cons}
use Rattle.ascii.specs.Class.{within, is_digit, all}
use Rattle.ascii.proofs.Tests.{and_true, true_and}

pub inside : (low high x : ℕ) → low ≤ x → x ≤ high → within low high x ≡ true
unfolding within
inside low high x h k = rw (le-leb low x h, le-leb x high k)

pub below : (low high x : ℕ) → x < low → within low high x ≡ false
unfolding within
below low high x h = rw (lt-leb low x h)

pub above : (low high x : ℕ) → high < x → within low high x ≡ false
unfolding within
above low high x h = rw (lt-leb x high h) (and-false (leb low x))

pub bounds : (low high x : ℕ) → within low high x ≡ true → (low ≤ x) × (x ≤ high)
unfolding within
bounds low high x e =
    let r = and_true (leb low x) (leb x high) e in
    (leb-true low x r.0, leb-true x high r.1)

pub digit_bounds : (b : ℕ) → is_digit b ≡ true → (48 ≤ b) × (b ≤ 57)
unfolding is_digit
digit_bounds b e = bounds 48 57 b e

pub digit_inside : (b : ℕ) → 48 ≤ b → b ≤ 57 → is_digit b ≡ true
unfolding is_digit
digit_inside b h k = inside 48 57 b h k

-- a digit's value
pub digit_value : (b : ℕ) → is_digit b ≡ true → b - 48 < 10
digit_value b e = let r = digit_bounds b e in omega arith

module _ (p : ℕ → Bool) where
  pub all_nil : all p [] ≡ true
  unfolding all
  all_nil = refl

  pub all_first : (b : ℕ) (s : List ℕ) → all p (b ∷ s) ≡ true → p b ≡ true
  unfolding all
  all_first b s e = (and_true (p b) (all p s) e).0

  pub all_rest : (b : ℕ) (s : List ℕ) → all p (b ∷ s) ≡ true → all p s ≡ true
  unfolding all
  all_rest b s e = (and_true (p b) (all p s) e).1

  pub all_cons : (b : ℕ) (s : List ℕ) → p b ≡ true → all p s ≡ true → all p (b ∷ s) ≡ true
  unfolding all
  all_cons b s e f = true_and (p b) (all p s) e f

  pub all_at : (s : List ℕ) (i : ℕ) → all p s ≡ true → i < length s → p (get_or s i 0) ≡ true
  all_at [] i e h = absurd (omega arith)
  all_at (b ∷ s) zero e h = all_first b s e
  all_at (b ∷ s) (suc i) e h = all_at s i (all_rest b s e) (omega arith)

  pub all_drop : (k : ℕ) (s : List ℕ) → all p s ≡ true → all p (drop k s) ≡ true
  all_drop zero s e = e
  all_drop (suc k) [] e = e
  all_drop (suc k) (b ∷ s) e = all_drop k s (all_rest b s e)

  pub all_take : (k : ℕ) (s : List ℕ) → all p s ≡ true → all p (take k s) ≡ true
  all_take zero s e = all_nil
  all_take (suc k) [] e = all_nil
  all_take (suc k) (b ∷ s) e = all_cons b (take k s) (all_first b s e) (all_take k s (all_rest b s e))

  pub all_append : (s t : List ℕ) → all p s ≡ true → all p t ≡ true → all p (s ++ t) ≡ true
  all_append [] t e f = f
  all_append (b ∷ s) t e f = all_cons b (s ++ t) (all_first b s e) (all_append s t (all_rest b s e) f)

  -- a turn of a loop over a list, and its end
  pub all_next : (s : List ℕ) (i : ℕ) → i < length s → all p (drop i s) ≡ p (get_or s i 0) && all p (drop (i + 1) s)
  unfolding all
  all_next s i h = rw (add-one i, drop-cons s i 0 h)

  pub all_end : (s : List ℕ) (i : ℕ) → length s ≤ i → all p (drop i s) ≡ true
  unfolding all
  all_end s i h = rw (drop_of_length-le s h)
