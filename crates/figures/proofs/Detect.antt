-- What the five checks detect: a digit replaced, and two neighbours exchanged. A rule brings the figure that its accepted numbers
-- have and one test over the digits at each place, which is computed; the proof is one for all. Assumes nothing.
use mathlib.Core.Path.{◌≡◌, refl, ◌∙◌, sym, ap}
use mathlib.Core.Bool.{Bool, true, false, ◌||◌}
use mathlib.Core.List.{List}
use Prim.Native.Nat.{ℕ, suc, ◌+◌, ◌-◌, ◌%◌, ◌<◌}
use native.Mathlib.Nat.{mod-mod, suc-mod, mod-lt}
use native.Mathlib.Omega.{arith}
use borrow.Author.Tests.{eqb-true, eq-eqb, ne_eqb}
use lib.Dec.{eqb, lit<}
use lib.ListN.{length, get_or, set, length-set}
use lib.Seq.{get_or-set_same}
use Rattle.ascii.specs.Class.{is_digit}
use Rattle.ascii.proofs.Tests.{false_true, not_true, eqb_iff, same, same_eq, below, below_at, digit_pairs, pair_at}
use Rattle.ascii.proofs.Class.{digit_bounds, all_at}
use Rattle.forms.specs.Form.{fault_of}
use Rattle.forms.specs.Table.{digits}
use Rattle.forms.proofs.OfDigits.{Digits, fit_digits}
use Rattle.figures.specs.Total.{digit_at}
use Rattle.figures.specs.Figures.{Figure, adds, total_by, figure40, figure41, luhn, figure50}
use Rattle.figures.specs.Findings.{Finding, is_good, judged}
use Rattle.figures.specs.Rules.{gln, mod11, mod97, se_orgnr, abn}
use Rattle.figures.specs.Changes.{exchanged, RefusesReplaced, AcceptsExchanged, never, by_five, zero_and_nine}
use Rattle.figures.proofs.Digits.{all_set}
use Rattle.figures.proofs.Judging.{good_by}
use Rattle.figures.proofs.Shift.{cancel, total_set, total_exchanged}
use Rattle.figures.proofs.Links.{Links, figure43, gln_links, mod11_links, mod97_links, se_orgnr_links, abn_links}

-- an exchange keeps the form
pub digits_exchanged : (x y : ℕ) (s : List ℕ) (i : ℕ) → Digits x y s → i + 1 < length s → Digits x y (exchanged s i)
digits_exchanged x y s i d l =
    let n : length (exchanged s i) ≡ length s = simp length-set in
    let a = all_at is_digit s i d.digit (omega arith) in
    let b = all_at is_digit s (i + 1) d.digit l in
    record {
      least = omega (arith, d.least);
      most = omega (arith, d.most);
      digit = all_set (set s i (get_or s (i + 1) 0)) (i + 1) (get_or s i 0) (all_set s i (get_or s (i + 1) 0) d.digit b) a;
    }

-- ---- what a figure tells apart, with k digits to the right

-- two digits add the same only where they are the same
abbrev told : Figure → ℕ → ℕ → ℕ → Bool
told f k a b = same (eqb (adds f.fold f.weights k a % f.modulus) (adds f.fold f.weights k b % f.modulus)) (eqb a b)

abbrev tells : Figure → ℕ → Bool
tells f k = digit_pairs (told f k)

-- two neighbours add the same the other way round only where they are equal, or as `stays` says
abbrev pair : Figure → ℕ → ℕ → ℕ → ℕ
pair f k a b = (adds f.fold f.weights (suc k) a + adds f.fold f.weights k b) % f.modulus

abbrev told_pair : Figure → (ℕ → ℕ → Bool) → ℕ → ℕ → ℕ → Bool
told_pair f stays k a b = same (eqb (pair f k b a) (pair f k a b)) (eqb a b || stays a b)

abbrev tells_pair : Figure → (ℕ → ℕ → Bool) → ℕ → Bool
tells_pair f stays k = digit_pairs (told_pair f stays k)

-- weights that repeat: a test at each place of one turn is one at every place
module _ (f : Figure) (some : 0 < length f.weights) where
  round : below (length f.weights) (tells f) ≡ true → (k : ℕ) → tells f k ≡ true
  round t k =
      rw (mod-mod k (length f.weights))
      at (below_at (length f.weights) (tells f) t (k % length f.weights) (mod-lt k some))

  round_pair : (stays : ℕ → ℕ → Bool) → below (length f.weights) (tells_pair f stays) ≡ true → (k : ℕ) → tells_pair f stays k ≡ true
  round_pair stays t k =
      rw (mod-mod k (length f.weights), ← (suc-mod k (length f.weights)))
      at (below_at (length f.weights) (tells_pair f stays) t (k % length f.weights) (mod-lt k some))

-- ---- the two detections

-- a number that a rule accepts
abbrev good : (List ℕ → Finding) → List ℕ → Bool
good rule s = is_good (rule s)

module _ (rule : List ℕ → Finding) (f : Figure) (left x y : ℕ) (links : Links rule f left x y) where
  -- of two numbers that differ in one digit at most one is accepted
  pub refuses_replaced : ((k : ℕ) → k < y → tells f k ≡ true) → RefusesReplaced (good rule)
  refuses_replaced t s i v h l ne =
      not_true (is_good (rule (set s i v)))
      (λ g.
      let k = length s - 1 - i in
      let e = cancel f.modulus _ _ _ _ ((links (set s i v) g).leaves ∙ sym (links s h).leaves) (total_set (adds f.fold f.weights) s i v l) in
      let q = get_or-set_same s i v 0 l in
      let d = digit_bounds (get_or s i 0) (all_at is_digit s i (links s h).form.digit l) in
      let d' = digit_bounds (get_or (set s i v) i 0) (all_at is_digit (set s i v) i (links (set s i v) g).form.digit (simp length-set l)) in
      let t' = pair_at (told f k) (t k (omega (arith, (links s h).form.most))) (v - 48) (digit_at s i) (omega arith) (omega arith) in
      let w = eqb-true (v - 48) (digit_at s i) (sym (same_eq _ _ t') ∙ eq-eqb _ _ e) in
      ne (omega arith))

  -- two unequal neighbours exchanged: the figure of the result is right exactly where `stays` says so
  at_pair : (stays : ℕ → ℕ → Bool) → ((k : ℕ) → k + 1 < y → tells_pair f stays k ≡ true)
      → (s : List ℕ) (i : ℕ) → is_good (rule s) ≡ true → i + 1 < length s → (get_or s i 0 ≡ get_or s (i + 1) 0 → ⊥)
      → eqb (total_by f (exchanged s i) % f.modulus) left ≡ stays (digit_at s i) (digit_at s (i + 1))
  at_pair stays t s i h l ne =
      let g = adds f.fold f.weights in
      let a = digit_at s i in
      let b = digit_at s (i + 1) in
      let k = length s - 1 - (i + 1) in
      let j : length s - 1 - i ≡ suc k = omega arith in
      let e = rw j at (total_exchanged g s i l) in
      let p = links s h in
      let da = digit_bounds (get_or s i 0) (all_at is_digit s i p.form.digit (omega arith)) in
      let db = digit_bounds (get_or s (i + 1) 0) (all_at is_digit s (i + 1) p.form.digit l) in
      let n : eqb a b ≡ false = ne_eqb a b (λ q. ne (omega arith)) in
      eqb_iff (total_by f (exchanged s i) % f.modulus) left (pair f k b a) (pair f k a b)
      (λ q. cancel f.modulus (total_by f (exchanged s i)) (total_by f s) (g (suc k) b + g k a) (g (suc k) a + g k b) (q ∙ sym p.leaves) e)
      (λ q. cancel f.modulus (g (suc k) b + g k a) (g (suc k) a + g k b) (total_by f (exchanged s i)) (total_by f s) q (omega arith) ∙ p.leaves)
      ∙ same_eq _ _ (pair_at (told_pair f stays k) (t k (omega (arith, p.form.most))) a b (omega arith) (omega arith))
      ∙ ap (λ z. z || stays a b) n

  -- the figure tells all neighbours apart
  pub refuses_exchanged : ((k : ℕ) → k + 1 < y → tells_pair f never k ≡ true) → AcceptsExchanged (good rule) never
  refuses_exchanged t s i h l ne =
      not_true (is_good (rule (exchanged s i)))
      (λ g. false_true (sym (at_pair never t s i h l ne) ∙ eq-eqb _ _ (links (exchanged s i) g).leaves))

  -- the rule is nothing but the form and the figure
  pub accepts_exchanged : (stays : ℕ → ℕ → Bool) → ((k : ℕ) → k + 1 < y → tells_pair f stays k ≡ true)
      → ((s : List ℕ) → rule s ≡ judged (fault_of (digits x y) s) (eqb (total_by f s % f.modulus) left)) → AcceptsExchanged (good rule) stays
  accepts_exchanged stays t is s i h l ne =
      ap is_good (is (exchanged s i))
      ∙ good_by (eqb (total_by f (exchanged s i) % f.modulus) left) (fit_digits x y (exchanged s i) (digits_exchanged x y s i (links s h).form l))
      ∙ at_pair stays t s i h l ne

-- ---- the five rules

-- an accepted number with one digit replaced is refused
pub gln_replaced : RefusesReplaced (good gln)
gln_replaced = refuses_replaced gln figure40 0 1 1024 gln_links (λ k l. round figure40 (lit< tt) refl k)

pub mod11_replaced : RefusesReplaced (good mod11)
mod11_replaced = refuses_replaced mod11 figure41 0 9 9 mod11_links (below_at 9 (tells figure41) refl)

pub mod97_replaced : RefusesReplaced (good mod97)
mod97_replaced = refuses_replaced mod97 figure43 0 10 10 mod97_links (below_at 10 (tells figure43) refl)

pub se_orgnr_replaced : RefusesReplaced (good se_orgnr)
se_orgnr_replaced = refuses_replaced se_orgnr luhn 0 10 10 se_orgnr_links (λ k l. round luhn (lit< tt) refl k)

pub abn_replaced : RefusesReplaced (good abn)
abn_replaced = refuses_replaced abn figure50 10 11 11 abn_links (below_at 11 (tells figure50) refl)

-- exchanging two unequal neighbours is always refused
pub mod11_exchanged : AcceptsExchanged (good mod11) never
mod11_exchanged = refuses_exchanged mod11 figure41 0 9 9 mod11_links (λ k l. below_at 8 (tells_pair figure41 never) refl k (omega arith))

pub mod97_exchanged : AcceptsExchanged (good mod97) never
mod97_exchanged = refuses_exchanged mod97 figure43 0 10 10 mod97_links (λ k l. below_at 9 (tells_pair figure43 never) refl k (omega arith))

pub abn_exchanged : AcceptsExchanged (good abn) never
abn_exchanged = refuses_exchanged abn figure50 10 11 11 abn_links (λ k l. below_at 10 (tells_pair figure50 never) refl k (omega arith))

-- .. stays accepted exactly when they differ by 5
pub gln_exchanged : AcceptsExchanged (good gln) by_five
unfolding gln
gln_exchanged =
    accepts_exchanged gln figure40 0 1 1024 gln_links by_five (λ k l. round_pair figure40 (lit< tt) by_five refl k) (λ s. refl)

-- .. exactly when they are 0 and 9
pub se_orgnr_exchanged : AcceptsExchanged (good se_orgnr) zero_and_nine
unfolding se_orgnr
se_orgnr_exchanged =
    accepts_exchanged se_orgnr luhn 0 10 10 se_orgnr_links zero_and_nine (λ k l. round_pair luhn (lit< tt) zero_and_nine refl k) (λ s. refl)
