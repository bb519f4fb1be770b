-- One total says what the rule says: of a number of the right form, and of one with a digit replaced or two exchanged. Assumes nothing.
use mathlib.Core.Path.{◌≡◌, refl, sym, ap, ◌∙◌}
use mathlib.Core.Bool.{Bool, true, false, not, ◌&&◌}
use mathlib.Core.List.{List}
use Prim.Native.Nat.{ℕ, ◌+◌, ◌-◌, ◌*◌, ◌%◌, ◌≤◌, ◌<◌}
use native.Mathlib.Omega.{arith}
use borrow.Author.Tests.{leb-true}
use mir.Val.{bool_byte}
use lib.Dec.{eqb, leb}
use lib.IntN.{nat_abs, sub_ℕ}
use lib.ListN.{length, get_or, set, take, drop, length-set}
use Rattle.std.specs.Prelude.{Result, Ok, ⊤}
use Rattle.ascii.specs.Class.{is_digit}
use Rattle.ascii.proofs.Tests.{eqb_iff, below_at}
use Rattle.ascii.proofs.Class.{digit_bounds, digit_inside, all_at}
use Rattle.forms.specs.Form.{fault_of}
use Rattle.forms.specs.Table.{digits}
use Rattle.forms.specs.declared.form.Fault.{Fault}
use Rattle.forms.proofs.OfDigits.{Digits, digits_fit, fit_digits}
use Rattle.figures.specs.Total.{digit_at, number}
use Rattle.figures.specs.Figures.{weight_at, counted, total_by, right, figure40, figure41, belgian_pair, luhn, figure50}
use Rattle.figures.specs.Inner.{figure_by, weight_by, adds_from, summed, summed_by, total_passes}
use Rattle.figures.specs.declared.kind.Kind.{Kind}
use Rattle.figures.specs.declared.kind.Kind.TheVariants.{Mod97}
use Rattle.figures.specs.Findings.{is_good, judged_zero}
use Rattle.figures.specs.Rules.{gln, mod11, mod97, se_orgnr, abn, abn_total, all_zero}
use Rattle.figures.specs.Changes.{exchanged}
use Rattle.figures.proofs.Judging.{good_by}
use Rattle.figures.proofs.Digits.{all_set, by_powers, same_total}
use Rattle.figures.proofs.Steps.{within_table}
use Rattle.figures.proofs.Adding.{adds_zero, share_small, total_small, placed_length, placed_at, with_zero, with_pending, sum_formed, sum_same}
use Rattle.figures.proofs.Zeros.{zeros41}
use Rattle.figures.proofs.Shift.{total_set, total_exchanged}
use Rattle.figures.proofs.Pair.{by_total}
use Rattle.figures.proofs.Links.{total_reduced, leaves_ten, ten_leaves}
use Rattle.figures.proofs.Detect.{digits_exchanged}
use Rattle.rules.specs.Finding.{accepts}
use Rattle.corrections.specs.declared.five.Five.{Five}
use Rattle.corrections.specs.declared.five.Five.TheVariants.{Gln, Norway, Belgium, Sweden, Australia}
use Rattle.corrections.specs.Five.{row, rule_of}
use Rattle.corrections.specs.Corrections.{replaced}
use Rattle.corrections.specs.Inner.{adds_by, sharing, places_of, Summed}

-- ---- each rule of a number of the right form

zero_first : {y : Result ⊤ Fault} (z x : Bool) → y ≡ Ok tt → is_good (judged_zero y z x) ≡ not z && x
zero_first true x h = rw h
zero_first false x h = rw h (good_by x refl)

pub exact : (k : Five) (s : List ℕ) → Digits (row k).least (row k).most s → accepts (rule_of k) s ≡ total_passes (row k).figure (total_by (adds_by k) s)
unfolding accepts gln mod11 mod97 se_orgnr abn
exact Gln s d =
    good_by (right figure40 s) (fit_digits 1 1024 s (record { least = d.least; most = omega (arith, d.most); digit = d.digit }))
exact Norway s d =
    zero_first (all_zero s) (right figure41 s) (fit_digits 9 9 s d)
    ∙ ap (λ z. not z && right figure41 s) (sym (zeros41 s d.digit))
exact Belgium s d =
    let n : length s ≡ 10 = omega (arith, d.least, d.most) in
    good_by (eqb (number (drop 8 s)) (belgian_pair (number (take 8 s)))) (fit_digits 10 10 s d)
    ∙ by_total s n d.digit
    ∙ ap (total_passes Mod97) (sym (by_powers s d.most))
exact Sweden s d = good_by (right luhn s) (fit_digits 10 10 s d)
exact Australia s d =
    let n : length s ≡ 11 = omega (arith, d.least, d.most) in
    let t = total_by figure50 s in
    good_by (eqb (nat_abs (abn_total s) % 89) 0) (fit_digits 11 11 s d)
    ∙ ap (λ z. eqb (nat_abs z % 89) 0) (total_reduced s n)
    ∙ eqb_iff (nat_abs (sub_ℕ t 10) % 89) 0 (t % 89) 10 (leaves_ten t) (ten_leaves t)

-- ---- the lengths of a number

pub lengths : (k : Five) → (1 ≤ (row k).least) × ((row k).most ≤ 20)
lengths Gln = (omega arith, omega arith)
lengths Norway = (omega arith, omega arith)
lengths Belgium = (omega arith, omega arith)
lengths Sweden = (omega arith, omega arith)
lengths Australia = (omega arith, omega arith)

-- ---- the tests that the code makes

-- the weights of a number's places are its figure's
weight_is : (k : Five) (j : ℕ) → j < (row k).most → weight_by (row k).figure j ≡ weight_at (adds_by k).weights j
weight_is Gln j l = refl
weight_is Norway j l = sym (within_table (adds_by Norway).weights j l)
weight_is Belgium j l = sym (within_table (adds_by Belgium).weights j l)
weight_is Sweden j l = refl
weight_is Australia j l = sym (within_table (adds_by Australia).weights j l)

place_is : (k : Five) (j : ℕ) → j < (row k).most → get_or (places_of k) j 0 ≡ weight_at (adds_by k).weights j
place_is k j l = placed_at 20 (weight_by (row k).figure) j (omega (arith, (lengths k).1)) ∙ weight_is k j l

-- what a digit adds as the code asks for it, by a weight that it looked up
pub shared : (k : Five) (f : Kind) (ws : List ℕ) (j d : ℕ) {r : ℕ} → f ≡ (row k).figure → ws ≡ places_of k → j < (row k).most
    → r ≡ counted (figure_by f).fold (get_or ws j 0 * d) → r ≡ sharing k j d
shared k f ws j d g e q h =
    h
    ∙ ap (λ z. counted (figure_by z).fold (get_or ws j 0 * d)) g
    ∙ ap (λ x. counted (adds_by k).fold (x * d)) (ap (λ l. get_or l j 0) e ∙ place_is k j q)

places_20 : (k : Five) → length (places_of k) ≡ 20
places_20 k = placed_length 20 (weight_by (row k).figure)

-- a weight is below 2 ^ 32, so that what a digit adds is small
weight_small : (k : Five) (j : ℕ) → j < 20 → weight_at (adds_by k).weights j ≤ 4294967295
weight_small Gln j l = leb-true _ _ (below_at 20 (λ j. leb (weight_at (adds_by Gln).weights j) 4294967295) refl j l)
weight_small Norway j l = leb-true _ _ (below_at 20 (λ j. leb (weight_at (adds_by Norway).weights j) 4294967295) refl j l)
weight_small Belgium j l = leb-true _ _ (below_at 20 (λ j. leb (weight_at (adds_by Belgium).weights j) 4294967295) refl j l)
weight_small Sweden j l = leb-true _ _ (below_at 20 (λ j. leb (weight_at (adds_by Sweden).weights j) 4294967295) refl j l)
weight_small Australia j l = leb-true _ _ (below_at 20 (λ j. leb (weight_at (adds_by Australia).weights j) 4294967295) refl j l)

sharing_small : (k : Five) (j d : ℕ) → j < 20 → d ≤ 9 → sharing k j d ≤ 38654705664
sharing_small k j d l h =
    let w = weight_small k j l in
    share_small (adds_by k).fold (weight_at (adds_by k).weights j) d (omega arith) h

-- the sum that the code asks for is that of the figure
pub sum_by_figure : (k : Five) (p : Bool) (a b : ℕ) (s : List ℕ) → b + bool_byte p ≤ (row k).most
    → summed_by (adds_by k).fold (places_of k) (digits a b) (bool_byte p) s ≡ summed (fault_of (digits a b) s) (total_by (adds_by k) (with_zero p s))
sum_by_figure k p a b s h =
    sum_formed (adds_by k).fold (places_of k) (digits a b) (bool_byte p) s (omega (arith, places_20 k, (lengths k).1))
    ∙ sum_same (fault_of (digits a b) s)
    (λ e.
    same_total (adds_from (bool_byte p) (adds_by k).fold (places_of k)) (λ j d. sharing k (j + bool_byte p) d) s
    (λ j d l. ap (λ x. counted (adds_by k).fold (x * d)) (place_is k (j + bool_byte p) (omega (arith, (digits_fit a b s e).most))))
    ∙ with_pending (sharing k) s p (adds_zero (adds_by k).fold (adds_by k).weights 0))

-- what two neighbours give before and after their digits are exchanged
abbrev pub before : Five → List ℕ → ℕ → ℕ
before k s i = sharing k (length s - 1 - i) (digit_at s i) + sharing k (length s - 1 - (i + 1)) (digit_at s (i + 1))

abbrev pub after : Five → List ℕ → ℕ → ℕ
after k s i = sharing k (length s - 1 - i) (digit_at s (i + 1)) + sharing k (length s - 1 - (i + 1)) (digit_at s i)

module _ (k : Five) (s : List ℕ) (sum : ℕ) (p : Summed k s sum) where
  pub number_digits : Digits (row k).least (row k).most s
  number_digits = digits_fit (row k).least (row k).most s p.formed

  pub short : (length s ≤ (row k).most) × (length s ≤ 20)
  short = (number_digits.most, omega (arith, number_digits.most, (lengths k).1))

  pub number_long : 1 ≤ length s
  number_long = omega (arith, number_digits.least, (lengths k).0)

  pub sum_small : sum ≤ 773094113280
  sum_small =
      let d = number_digits in
      omega (arith, total_small (row k).figure s d.digit, d.most, (lengths k).1, p.sum_is)

  pub digit_bound : (i : ℕ) → i < length s → (48 ≤ get_or s i 0) × (digit_at s i ≤ 9)
  digit_bound i h = let d = digit_bounds (get_or s i 0) (all_at is_digit s i number_digits.digit h) in (omega arith, omega arith)

  pub share_bound : (i d : ℕ) → i < length s → d ≤ 9 → sharing k (length s - 1 - i) d ≤ 38654705664
  share_bound i d h l = sharing_small k (length s - 1 - i) d (omega (arith, short)) l

  pub number_passes : total_passes (row k).figure sum ≡ accepts (rule_of k) s
  number_passes = ap (total_passes (row k).figure) p.sum_is ∙ sym (exact k s number_digits)

  digits_set : (i v : ℕ) → is_digit v ≡ true → Digits (row k).least (row k).most (set s i v)
  digits_set i v e =
      let d = number_digits in
      let n = length-set s i v in
      record { least = omega (arith, d.least); most = omega (arith, d.most); digit = all_set s i v d.digit e }

  -- the sum has the digit's share in it
  pub share_within : (i : ℕ) → i < length s → sharing k (length s - 1 - i) (digit_at s i) ≤ sum
  share_within i h = omega (arith, total_set (sharing k) s i 48 h, adds_zero (adds_by k).fold (adds_by k).weights (length s - 1 - i), p.sum_is)

  pub replaced_test : (i d : ℕ) → i < length s → d < 10
      → total_passes (row k).figure (sum - sharing k (length s - 1 - i) (digit_at s i) + sharing k (length s - 1 - i) d) ≡ accepts (rule_of k) (replaced s i d)
  replaced_test i d h l =
      let z : 48 + d - 48 ≡ d = omega arith in
      let t = rw z at (total_set (sharing k) s i (48 + d) h) in
      let v : sum - sharing k (length s - 1 - i) (digit_at s i) + sharing k (length s - 1 - i) d ≡ total_by (adds_by k) (replaced s i d) = omega (arith, p.sum_is, share_within i h) in
      ap (total_passes (row k).figure) v ∙ sym (exact k (replaced s i d) (digits_set i (48 + d) (digit_inside (48 + d) (omega arith) (omega arith))))

  change : (i : ℕ) → i + 1 < length s → total_by (adds_by k) (exchanged s i) + before k s i ≡ sum + after k s i
  change i h = omega (arith, total_exchanged (sharing k) s i h, p.sum_is)

  pub shares_within : (i : ℕ) → i + 1 < length s → before k s i ≤ sum + after k s i
  shares_within i h = omega (arith, change i h)

  pub exchanged_test : (i : ℕ) → i + 1 < length s → total_passes (row k).figure (sum + after k s i - before k s i) ≡ accepts (rule_of k) (exchanged s i)
  exchanged_test i h =
      let v : sum + after k s i - before k s i ≡ total_by (adds_by k) (exchanged s i) = omega (arith, change i h) in
      ap (total_passes (row k).figure) v ∙ sym (exact k (exchanged s i) (digits_exchanged (row k).least (row k).most s i number_digits h))
