-- 0208: the number itself says what its first eight and last two digits say. Assumes nothing.
use mathlib.Core.Path.{◌≡◌, refl, sym, ap, ◌∙◌}
use mathlib.Core.Bool.{true}
use mathlib.Core.List.{List, [], ◌∷◌}
use Prim.Native.Nat.{ℕ, ◌+◌, ◌*◌, ◌/◌, ◌%◌, ◌^◌, ◌<◌}
use native.Mathlib.Nat.{mul_assoc}
use native.Mathlib.Omega.{arith}
use borrow.Author.Tests.{eqb-true}
use lib.Dec.{eqb}
use lib.ListN.{length, take, drop, length-take, length-drop, take-append-drop}
use Rattle.ascii.specs.Class.{is_digit, all}
use Rattle.ascii.proofs.Tests.{below_at}
use Rattle.ascii.proofs.Class.{digit_bounds, all_first, all_rest, all_drop}
use Rattle.figures.specs.Total.{total, number}
use Rattle.figures.specs.Figures.{belgian_pair}
use Rattle.figures.proofs.Links.{join}

hundreds : (f : ℕ → ℕ → ℕ) (s : List ℕ) → total (λ k d. 100 * f k d) s ≡ 100 * total f s
hundreds f [] = refl
hundreds f (b ∷ s) = omega (arith, hundreds f s)

two_more : (k d : ℕ) → k < 8 → 10 ^ (k + 2) * d ≡ 100 * (10 ^ k * d)
two_more k d l =
    ap (λ w. w * d) (eqb-true (10 ^ (k + 2)) (100 * 10 ^ k) (below_at 8 (λ j. eqb (10 ^ (j + 2)) (100 * 10 ^ j)) refl k l))
    ∙ mul_assoc 100 (10 ^ k) d

eight_two : (s : List ℕ) → length s ≡ 10 → number s ≡ 100 * number (take 8 s) + number (drop 8 s)
eight_two s n =
    let ld : length (drop 8 s) ≡ 2 = omega (arith, length-drop 8 s) in
    let h = hundreds (λ k d. 10 ^ k * d) (take 8 s) in
    sym (ap number (take-append-drop 8 s))
    ∙ join (λ k d. 10 ^ k * d) (λ k d. 100 * (10 ^ k * d)) (λ k d. 10 ^ k * d) (take 8 s) (drop 8 s)
    (λ k d l. rw ld (two_more k d (omega (arith, length-take 8 s))))
    (λ k d l. refl)
    ∙ ap (λ t. t + number (drop 8 s)) h

below_hundred : (s : List ℕ) → length s ≡ 2 → all is_digit s ≡ true → number s < 100
below_hundred [] n h = absurd (omega arith)
below_hundred (a ∷ []) n h = absurd (omega arith)
below_hundred (a ∷ b ∷ []) n h =
    let p = digit_bounds a (all_first is_digit a (b ∷ []) h) in
    let q = digit_bounds b (all_first is_digit b [] (all_rest is_digit a (b ∷ []) h)) in
    omega arith
below_hundred (a ∷ b ∷ c ∷ s) n h = absurd (omega arith)

apart : (t x y : ℕ) → t ≡ 100 * x + y → y < 100 → eqb y (belgian_pair x) ≡ eqb (t % 100) (belgian_pair (t / 100))
apart t x y e l =
    let p : t % 100 ≡ y = omega arith in
    let q : t / 100 ≡ x = omega arith in
    rw (p, q)

pub by_total : (s : List ℕ) → length s ≡ 10 → all is_digit s ≡ true
    → eqb (number (drop 8 s)) (belgian_pair (number (take 8 s))) ≡ eqb (number s % 100) (belgian_pair (number s / 100))
by_total s n h =
    apart (number s) (number (take 8 s)) (number (drop 8 s)) (eight_two s n)
    (below_hundred (drop 8 s) (omega (arith, length-drop 8 s)) (all_drop is_digit 8 s h))
