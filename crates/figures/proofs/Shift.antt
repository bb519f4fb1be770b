-- How a total changes with the digits, for any weights and to any modulus. Assumes nothing.
use mathlib.Core.Path.{◌≡◌, ◌∙◌, sym, ap}
use mathlib.Core.List.{List, [], ◌∷◌, ◌++◌}
use Prim.Native.Nat.{ℕ, zero, suc, ◌+◌, ◌-◌, ◌*◌, ◌%◌, ◌<◌}
use native.Mathlib.Nat.{mod-zero, mod-add-mod, mul-add-mod_self_right, not-suc-le-zero}
use native.Mathlib.Omega.{arith}
use lib.ListN.{length, get_or, set, length-append, length-set}
use lib.Seq.{get_or-set_other}
use Rattle.figures.specs.Total.{total, digit_at}
use Rattle.figures.specs.Changes.{exchanged}

-- equal remainders, and equal sums: the other parts have equal remainders
pub cancel : (m a b x y : ℕ) → a % m ≡ b % m → a + y ≡ b + x → x % m ≡ y % m
cancel zero a b x y h e =
    let h' : a ≡ b = sym (mod-zero a) ∙ h ∙ mod-zero b in
    mod-zero x ∙ (let g : x ≡ y = omega arith in g) ∙ sym (mod-zero y)
cancel (suc n) a b x y h e =
    let p : a * suc n + y ≡ b + (a * n + x) = omega arith in
    let q : a + (a * n + x) ≡ a * suc n + x = omega arith in
    sym (mul-add-mod_self_right a (suc n) x)
    ∙ ap (λ z. z % suc n) (sym q)
    ∙ sym (mod-add-mod a (suc n) (a * n + x))
    ∙ ap (λ z. (z + (a * n + x)) % suc n) h
    ∙ mod-add-mod b (suc n) (a * n + x)
    ∙ ap (λ z. z % suc n) (sym p)
    ∙ mul-add-mod_self_right a (suc n) y

module _ (f : ℕ → ℕ → ℕ) where
  -- the end of a number exchanged for another of its length
  pub total_end : (u x y : List ℕ) → length x ≡ length y → total f (u ++ x) + total f y ≡ total f (u ++ y) + total f x
  total_end [] x y h = omega arith
  total_end (c ∷ u) x y h =
      let e : length (u ++ x) ≡ length (u ++ y) = omega (arith, length-append u x, length-append u y) in
      omega (arith, total_end u x y h, ap (λ n. f n (c - 48)) e)

  -- the digit at i replaced
  pub total_set : (s : List ℕ) (i v : ℕ) → i < length s
      → total f (set s i v) + f (length s - 1 - i) (digit_at s i) ≡ total f s + f (length s - 1 - i) (v - 48)
  total_set [] i v h = absurd (not-suc-le-zero h)
  total_set (b ∷ s) zero v h =
      let k : suc (length s) - 1 - 0 ≡ length s = omega arith in
      rw k (omega arith)
  total_set (b ∷ s) (suc i) v h =
      let k : suc (length s) - 1 - suc i ≡ length s - 1 - i = omega arith in
      let ih = total_set s i v (omega arith) in
      rw (k, length-set s i v) (omega arith)

  -- the digits at i and i + 1 exchanged
  pub total_exchanged : (s : List ℕ) (i : ℕ) → i + 1 < length s
      → total f (exchanged s i) + (f (length s - 1 - i) (digit_at s i) + f (length s - 1 - (i + 1)) (digit_at s (i + 1)))
      ≡ total f s + (f (length s - 1 - i) (digit_at s (i + 1)) + f (length s - 1 - (i + 1)) (digit_at s i))
  total_exchanged s i h =
      let a = get_or s i 0 in
      let b = get_or s (i + 1) 0 in
      let one = total_set s i b (omega arith) in
      let two = rw (length-set s i b, get_or-set_other s i (i + 1) b 0 (λ q. omega arith)) at (total_set (set s i b) (i + 1) a (simp length-set (omega arith))) in
      omega arith
