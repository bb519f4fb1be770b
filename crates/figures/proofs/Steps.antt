-- The turns of loops that add up digits, by pairs from the left or from the right, for any weights. Assumes nothing.
use mathlib.Core.Path.{◌≡◌, refl, sym, ap, ◌∙◌}
use mathlib.Core.Bool.{Bool, true}
use mathlib.Core.List.{List, [], ◌∷◌, ◌++◌, append_assoc}
use Prim.Native.Nat.{ℕ, zero, suc, ◌+◌, ◌-◌, ◌*◌, ◌/◌, ◌%◌, ◌≤◌, ◌<◌}
use native.Mathlib.Nat.{mod-eq_of_lt, mul-le-mul_left}
use native.Mathlib.Numerals.{add-one}
use native.Mathlib.Omega.{arith}
use lib.ListN.{length, get_or, drop, length-drop, drop_of_length-le}
use lib.Seq.{drop-cons, drop_at}
use Rattle.std.specs.List.{push}
use Rattle.std.proofs.Common.{get_or-drop}
use Rattle.std.specs.Simd.{first_chunks}
use Rattle.std.proofs.lemmas.List.{length_push}
use Rattle.ascii.specs.Class.{is_digit, all}
use Rattle.ascii.proofs.Class.{all_first, all_drop}
use Rattle.figures.specs.Total.{total}
use Rattle.figures.specs.Figures.{weight_at, counted, adds}

module _ (f : ℕ → ℕ → ℕ) (s : List ℕ) (i : ℕ) where
  pub step : i < length s → total f (drop i s) ≡ f (length s - 1 - i) (get_or s i 0 - 48) + total f (drop (i + 1) s)
  step h =
      let e : length (drop (suc i) s) ≡ length s - 1 - i = omega (arith, length-drop (suc i) s) in
      rw (add-one i, drop-cons s i 0 h, e) refl

  pub end : length s ≤ i → total f (drop i s) ≡ 0
  end h = rw (drop_of_length-le s h) refl

-- within a table of weights none is used twice
pub within_table : (ws : List ℕ) (k : ℕ) → k < length ws → weight_at ws k ≡ get_or ws k 0
within_table ws k h = ap (λ j. get_or ws j 0) (mod-eq_of_lt h)

-- two weights that alternate
module _ (fold : Bool) (a b : ℕ) where
  abbrev two : ℕ → ℕ → ℕ
  two k d = adds fold (a ∷ b ∷ []) k d

  even : (k d : ℕ) → k % 2 ≡ 0 → two k d ≡ counted fold (a * d)
  even k d h = ap (λ j. counted fold (get_or (a ∷ b ∷ []) j 0 * d)) h

  odd : (k d : ℕ) → k % 2 ≡ 1 → two k d ≡ counted fold (b * d)
  odd k d h = ap (λ j. counted fold (get_or (a ∷ b ∷ []) j 0 * d)) h

  pub pair_step : (s : List ℕ) (i : ℕ) → i + 1 < length s → (length s - i) % 2 ≡ 0
      → total two (drop i s) ≡ counted fold (b * (get_or s i 0 - 48)) + counted fold (a * (get_or s (i + 1) 0 - 48)) + total two (drop (i + 2) s)
  pair_step s i h p =
      let e : i + 1 + 1 ≡ i + 2 = omega arith in
      let y = rw e at (step two s (i + 1) (omega arith)) in
      omega (
        arith,
        step two s i (omega arith),
        odd (length s - 1 - i) (get_or s i 0 - 48) (omega arith),
        even (length s - 1 - (i + 1)) (get_or s (i + 1) 0 - 48) (omega arith),
      )

  -- the first digit of an odd number of digits stands by itself
  pub lead_odd : (s : List ℕ) → length s % 2 ≡ 1 → counted fold (a * (get_or s 0 0 - 48)) + total two (drop (length s % 2) s) ≡ total two s
  lead_odd s h =
      rw h (omega (arith, step two s 0 (omega arith), even (length s - 1 - 0) (get_or s 0 0 - 48) (omega arith)))

  pub lead_even : (s : List ℕ) → length s % 2 ≡ 0 → 0 + total two (drop (length s % 2) s) ≡ total two s
  lead_even s h = rw h (omega arith)

pub product : (w d : ℕ) → d ≤ 9 → w * d ≤ w * 9
product w d h = mul-le-mul_left w h

-- ---- a loop from the right: l is what is left of the text s, and b the last of it

module _ (s l m : List ℕ) (b : ℕ) (e : l ≡ push m b) (h : l ++ drop (length l) s ≡ s) where
  pub shorter : length l ≡ length m + 1
  shorter = ap length e ∙ length_push m b

  whole : m ++ b ∷ drop (length l) s ≡ s
  whole = sym (append_assoc m (b ∷ []) (drop (length l) s)) ∙ ap (λ x. x ++ drop (length l) s) (sym e) ∙ h

  pub last : drop (length m) s ≡ b ∷ drop (length l) s
  last = ap (drop (length m)) (sym whole) ∙ drop_at m (b ∷ drop (length l) s) (length m) refl

  pub left_of : m ++ drop (length m) s ≡ s
  left_of = rw last whole

  pub added : (f : ℕ → ℕ → ℕ) → total f (drop (length m) s) ≡ f (length s - length l) (b - 48) + total f (drop (length l) s)
  added f = rw (last, length-drop (length l) s) refl

  pub last_digit : all is_digit s ≡ true → is_digit b ≡ true
  last_digit d = all_first is_digit b (drop (length l) s) (rw last at (all_drop is_digit (length m) s d))

-- and of a list of weights from its front
module _ (ws v : List ℕ) (k w : ℕ) (e : drop k ws ≡ w ∷ v) where
  some : k < length ws
  some = let q : length (drop k ws) ≡ suc (length v) = ap length e in omega (arith, length-drop k ws)

  parts : get_or ws k 0 ∷ drop (suc k) ws ≡ w ∷ v
  parts = sym (drop-cons ws k 0 some) ∙ e

  pub first_weight : w ≡ get_or ws k 0
  first_weight = sym (ap (λ l. get_or l 0 0) parts)

  pub other_weights : v ≡ drop (k + 1) ws
  other_weights = let z : suc k ≡ k + 1 = omega arith in rw z at (sym (ap (drop 1) parts))

-- the digits of a pair
pub pair_at : (k : ℕ) (s : List ℕ) (i : ℕ) → i < k → 2 * k ≤ length s
    → (get_or (get_or (first_chunks 2 k s) i []) 0 0 ≡ get_or s (2 * i) 0) × (get_or (get_or (first_chunks 2 k s) i []) 1 0 ≡ get_or s (2 * i + 1) 0)
pair_at zero s i l h = absurd (omega arith)
pair_at (suc k) [] i l h = absurd (omega arith)
pair_at (suc k) (a ∷ []) i l h = absurd (omega arith)
pair_at (suc k) (a ∷ b ∷ s) zero l h = (refl, refl)
pair_at (suc k) (a ∷ b ∷ s) (suc i) l h =
    let p = pair_at k s i (omega arith) (omega arith) in
    let e : 2 * suc i ≡ suc (suc (2 * i)) = omega arith in
    let g : 2 * i + 1 ≡ suc (2 * i) = omega arith in
    let d : suc (suc (2 * i)) + 1 ≡ suc (suc (suc (2 * i))) = omega arith in
    (p.0 ∙ ap (λ j. get_or (a ∷ b ∷ s) j 0) (sym e), p.1 ∙ ap (λ j. get_or s j 0) g ∙ ap (λ j. get_or (a ∷ b ∷ s) j 0) (sym d ∙ ap (λ j. j + 1) (sym e)))

-- where the first digit of an odd number stands by itself
pub pair_of : (s : List ℕ) (ps : List (List ℕ)) (i : ℕ) → ps ≡ first_chunks 2 (length s / 2) (drop (length s % 2) s) → i < length s / 2
    → (get_or (get_or ps i []) 0 0 ≡ get_or s (length s % 2 + 2 * i) 0) × (get_or (get_or ps i []) 1 0 ≡ get_or s (length s % 2 + 2 * i + 1) 0)
pair_of s ps i e l =
    let p = pair_at (length s / 2) (drop (length s % 2) s) i l (omega (arith, length-drop (length s % 2) s)) in
    let z : length s % 2 + (2 * i + 1) ≡ length s % 2 + 2 * i + 1 = omega arith in
    rw e (p.0 ∙ get_or-drop (length s % 2) s (2 * i) 0, p.1 ∙ get_or-drop (length s % 2) s (2 * i + 1) 0 ∙ ap (λ j. get_or s j 0) z)
