-- What each rule says of a number that it accepts: one weighted total of all its digits leaves one remainder. Assumes nothing.
use mathlib.Core.Path.{◌≡◌, refl, ◌∙◌, sym, ap}
use mathlib.Core.Bool.{Bool, true, false, cond}
use mathlib.Core.List.{List, [], ◌∷◌, ◌++◌}
use Prim.Native.Nat.{ℕ, zero, suc, ◌+◌, ◌-◌, ◌*◌, ◌%◌, ◌^◌, ◌<◌}
use native.Mathlib.Omega.{arith}
use borrow.Author.Tests.{eqb-true, le-ltb, ltb-true, ltb-false}
use lib.Dec.{eqb, ltb}
use lib.IntN.{pos, negsuc, nat_abs, sub_ℕ, -ℤ_one, ◌+ℤ◌, ◌-ℤ◌, ◌*ℤ◌}
use lib.ListN.{length, take, drop, length-append, length-take, length-drop, take-append-drop}
use Rattle.ascii.proofs.Tests.{below, below_at}
use Rattle.forms.specs.Form.{fault_of}
use Rattle.forms.specs.Table.{digits}
use Rattle.forms.proofs.OfDigits.{Digits, digits_fit}
use Rattle.figures.specs.Total.{total, number}
use Rattle.figures.specs.Figures.{Figure, adds, weight_at, total_by, right, figure, figure40, figure41, luhn, figure50}
use Rattle.figures.specs.Findings.{Finding, is_good}
use Rattle.figures.specs.Rules.{gln, mod11, mod97, se_orgnr, abn, abn_total, all_zero}
use Rattle.figures.proofs.Digits.{same_total}
use Rattle.figures.proofs.Judging.{good_parts, good_zero}

-- a to b digits, whose total leaves `left` by the figure's modulus
pub record Right (f : Figure) (left a b : ℕ) (s : List ℕ) : Type 0 where
  pub form : Digits a b s
  pub leaves : total_by f s % f.modulus ≡ left

abbrev pub Links : (List ℕ → Finding) → Figure → ℕ → ℕ → ℕ → Type 0
Links rule f left a b = (s : List ℕ) → is_good (rule s) ≡ true → Right f left a b s

-- 43: of the numbers that it accepts, the first eight and the last two add up to a multiple of 97
abbrev pub figure43 : Figure
figure43 = figure false (1 ∷ 10 ∷ 1 ∷ 10 ∷ 100 ∷ 1000 ∷ 10000 ∷ 100000 ∷ 1000000 ∷ 10000000 ∷ []) 97

pub gln_links : Links gln figure40 0 1 1024
unfolding gln
gln_links s h =
    let p = good_parts (fault_of (digits 1 1024) s) (right figure40 s) h in
    record { form = digits_fit 1 1024 s p.0; leaves = eqb-true _ _ p.1 }

pub mod11_links : Links mod11 figure41 0 9 9
unfolding mod11
mod11_links s h =
    let p = good_zero (fault_of (digits 9 9) s) (all_zero s) (right figure41 s) h in
    record { form = digits_fit 9 9 s p.0; leaves = eqb-true _ _ p.2 }

pub se_orgnr_links : Links se_orgnr luhn 0 10 10
unfolding se_orgnr
se_orgnr_links s h =
    let p = good_parts (fault_of (digits 10 10) s) (right luhn s) h in
    record { form = digits_fit 10 10 s p.0; leaves = eqb-true _ _ p.1 }

-- the total of two parts, the first of which is weighted as if nothing stood to its right
pub join : (f g h : ℕ → ℕ → ℕ) (u v : List ℕ)
    → ((k d : ℕ) → k < length u → f (k + length v) d ≡ g k d)
    → ((k d : ℕ) → k < length v → f k d ≡ h k d)
    → total f (u ++ v) ≡ total g u + total h v
join f g h [] v p q = omega (arith, same_total f h v q)
join f g h (b ∷ u) v p q =
    omega (
      arith,
      ap (λ n. f n (b - 48)) (length-append u v),
      p (length u) (b - 48) (omega arith),
      join f g h u v (λ k d l. p k d (omega arith)) q,
    )

-- from place o on, the figure's weights are the powers of ten for n places
powers_from : (o n : ℕ) → below n (λ k. eqb (weight_at figure43.weights (k + o)) (10 ^ k)) ≡ true
    → (k d : ℕ) → k < n → adds false figure43.weights (k + o) d ≡ 10 ^ k * d
powers_from o n t k d l =
    ap (λ w. w * d) (eqb-true _ _ (below_at n (λ j. eqb (weight_at figure43.weights (j + o)) (10 ^ j)) t k l))

-- 0208: the first eight and the last two digits as two numbers
pub two_numbers : (s : List ℕ) → length s ≡ 10 → total_by figure43 s ≡ number (take 8 s) + number (drop 8 s)
two_numbers s n =
    let ld : length (drop 8 s) ≡ 2 = omega (arith, length-drop 8 s) in
    let z : (k : ℕ) → k + 0 ≡ k = λ k. omega arith in
    sym (ap (total_by figure43) (take-append-drop 8 s))
    ∙ join (adds false figure43.weights) (λ k d. 10 ^ k * d) (λ k d. 10 ^ k * d) (take 8 s) (drop 8 s)
    (λ k d l. rw ld (powers_from 2 8 refl k d (omega (arith, length-take 8 s))))
    (λ k d l. rw (z k) at (powers_from 0 2 refl k d (omega arith)))

pub mod97_links : Links mod97 figure43 0 10 10
unfolding mod97
mod97_links s h =
    let p = good_parts (fault_of (digits 10 10) s) (eqb (number (drop 8 s)) (97 - number (take 8 s) % 97)) h in
    let d = digits_fit 10 10 s p.0 in
    let e : number (drop 8 s) ≡ 97 - number (take 8 s) % 97 = eqb-true _ _ p.1 in
    let t = two_numbers s (omega arith) in
    let m : (x y : ℕ) → y ≡ 97 - x % 97 → (x + y) % 97 ≡ 0 = λ x y q. omega arith in
    record { form = d; leaves = ap (λ x. x % 97) t ∙ m (number (take 8 s)) (number (drop 8 s)) e }

-- the first digit's reduction takes 10 off the plain total
pub reduced : (d t : ℕ) → pos 10 *ℤ (pos d -ℤ pos 1) +ℤ pos t ≡ sub_ℕ (10 * d + t) 10
reduced zero t = ap (λ x. sub_ℕ x 10) (let e : t ≡ 10 * 0 + t = omega arith in e)
reduced (suc d) t =
    rw (-ℤ_one (pos (suc d)), le-ltb (10 * suc d + t) 10 (omega arith)) (ap pos (let e : 10 * d + t ≡ 10 * suc d + t - 10 = omega arith in e))

pub total_reduced : (s : List ℕ) → length s ≡ 11 → abn_total s ≡ sub_ℕ (total_by figure50 s) 10
total_reduced [] n = absurd (omega arith)
total_reduced (b ∷ s) n =
    let k : length s ≡ 10 = omega arith in
    reduced (b - 48) (total_by figure50 s)
    ∙ ap (λ t. sub_ℕ (t + total_by figure50 s) 10) (sym (ap (λ j. adds false figure50.weights j (b - 48)) k))

pub leaves_ten : (n : ℕ) → nat_abs (sub_ℕ n 10) % 89 ≡ 0 → n % 89 ≡ 10
leaves_ten n h = go (ltb n 10) refl h
  where
    go : (t : Bool) → ltb n 10 ≡ t → nat_abs (cond t (negsuc (10 - suc n)) (pos (n - 10))) % 89 ≡ 0 → n % 89 ≡ 10
    go true e g = let l = ltb-true n 10 e in omega arith
    go false e g = let l = ltb-false n 10 e in omega arith

pub ten_leaves : (n : ℕ) → n % 89 ≡ 10 → nat_abs (sub_ℕ n 10) % 89 ≡ 0
ten_leaves n h = rw (le-ltb n 10 (omega arith)) (let e : (n - 10) % 89 ≡ 0 = omega arith in e)

pub abn_links : Links abn figure50 10 11 11
unfolding abn
abn_links s h =
    let p = good_parts (fault_of (digits 11 11) s) (eqb (nat_abs (abn_total s) % 89) 0) h in
    let d = digits_fit 11 11 s p.0 in
    record {
      form = d;
      leaves = leaves_ten (total_by figure50 s) (sym (ap (λ z. nat_abs z % 89) (total_reduced s (omega arith))) ∙ eqb-true _ _ p.1);
    }
