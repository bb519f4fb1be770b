-- The figures that complete a body: the number is accepted with them and with no others, and where there is none the reason says so.
-- Assumes nothing.
use mathlib.Core.Path.{◌≡◌, refl, ◌∙◌, sym, ap}
use mathlib.Core.Bool.{Bool, true, false, not, ◌&&◌}
use mathlib.Core.List.{List, [], ◌∷◌, ◌++◌}
use mathlib.Core.Logic.{◌↔◌}
use Prim.Native.Nat.{ℕ, suc, ◌+◌, ◌-◌, ◌*◌, ◌%◌, ◌/◌, ◌≤◌, ◌<◌}
use native.Mathlib.Nat.{mod-add-mod, mod-lt}
use native.Mathlib.Omega.{arith}
use borrow.Author.Tests.{eqb-true, eqb-false, eq-eqb, ne_eqb}
use lib.Dec.{eqb}
use lib.IntN.{nat_abs, sub_ℕ}
use lib.ListN.{length, length-append, take, drop}
use lib.Seq.{take_at, drop_at}
use Rattle.std.specs.Prelude.{Some, None}
use Rattle.ascii.specs.Pick.{pick}
use Rattle.ascii.specs.Class.{is_digit, all}
use Rattle.ascii.proofs.Tests.{false_true, not_true, eqb_iff, same, same_eq, below, below_at}
use Rattle.ascii.proofs.Class.{digit_bounds, digit_inside, all_first, all_rest, all_cons, all_nil, all_append}
use Rattle.answer.specs.declared.reason.Reason.TheVariants.{Zero, NoFigure}
use Rattle.forms.specs.Form.{fault_of}
use Rattle.forms.specs.Table.{digits}
use Rattle.forms.proofs.OfDigits.{Digits, fit_digits}
use Rattle.figures.specs.Total.{total, number}
use Rattle.figures.specs.Figures.{Figure, adds, total_by, right, figure40, figure41, luhn, figure50}
use Rattle.figures.specs.Findings.{Finding, is_good}
use Rattle.figures.specs.Rules.{gln, mod11, mod97, se_orgnr, abn, abn_total, all_zero}
use Rattle.figures.specs.Completing.{one_digit, two_digits, lacks, check_figure, mod11_reason, Completes}
use Rattle.figures.specs.declared.kind.Kind.TheVariants.{Mod10, Mod11, Mod97, Luhn, Mod89}
use Rattle.figures.proofs.Digits.{all_end, all_front}
use Rattle.figures.proofs.Zeros.{zeros41}
use Rattle.figures.proofs.Judging.{good_by, good_by_zero, good_zero}
use Rattle.figures.proofs.Shift.{total_end}
use Rattle.figures.proofs.Links.{Links, gln_links, mod11_links, mod97_links, se_orgnr_links, abn_links, total_reduced, leaves_ten, ten_leaves}

-- ---- one check digit

-- a body with one digit more
with_one : (u : List ℕ) (c n : ℕ) → c < 10 → all is_digit u ≡ true → length u ≡ n → Digits (suc n) (suc n) (u ++ one_digit c)
with_one u c n l h e =
    let g = length-append u (one_digit c) in
    record {
      least = omega arith;
      most = omega arith;
      digit =
          all_append is_digit u (one_digit c) h
          (all_cons is_digit (c + 48) [] (digit_inside (c + 48) (omega arith) (omega arith)) (all_nil is_digit));
    }

-- r and c make a multiple of m only where c is what r lacks
abbrev meet : ℕ → ℕ → ℕ → Bool
meet m r c = same (eqb ((r + c) % m) 0) (eqb c ((m - r) % m))

abbrev meets : ℕ → Bool
meets m = below m (λ r. below m (meet m r))

module _ (fold : Bool) (ws : List ℕ) (m : ℕ) (some : 0 < m) (t : meets m ≡ true) (once : (c : ℕ) → c < 10 → adds fold ws 0 c ≡ c) where
  -- the check's own weight is 1
  last_digit : (u : List ℕ) (c : ℕ) → c < 10 → total (adds fold ws) (u ++ one_digit c) ≡ total (adds fold ws) (u ++ one_digit 0) + c
  last_digit u c l =
      let e : c + 48 - 48 ≡ c = omega arith in
      omega (
        arith,
        total_end (adds fold ws) u (one_digit c) (one_digit 0) refl,
        ap (adds fold ws 0) e,
        once c l,
        once 0 (omega arith),
      )

  check_right : (u : List ℕ) (c : ℕ) → c < 10 → c < m
      → eqb (total (adds fold ws) (u ++ one_digit c) % m) 0 ≡ eqb c ((m - total (adds fold ws) (u ++ one_digit 0) % m) % m)
  check_right u c l k =
      let x = total (adds fold ws) (u ++ one_digit 0) in
      ap (λ z. eqb (z % m) 0) (last_digit u c l)
      ∙ ap (λ z. eqb z 0) (sym (mod-add-mod x m c))
      ∙ same_eq _ _ (below_at m (meet m (x % m)) (below_at m (λ r. below m (meet m r)) t (x % m) (mod-lt x some)) c k)

right40 : (u : List ℕ) (c : ℕ) → c < 10 → right figure40 (u ++ one_digit c) ≡ eqb c (lacks figure40 u)
right40 u c l = check_right false figure40.weights 10 (omega arith) refl (λ d g. omega arith) u c l l

right41 : (u : List ℕ) (c : ℕ) → c < 10 → right figure41 (u ++ one_digit c) ≡ eqb c (lacks figure41 u)
right41 u c l = check_right false figure41.weights 11 (omega arith) refl (λ d g. omega arith) u c l (omega arith)

right_luhn : (u : List ℕ) (c : ℕ) → c < 10 → right luhn (u ++ one_digit c) ≡ eqb c (lacks luhn u)
right_luhn u c l =
    check_right true luhn.weights 10 (omega arith) refl (λ d g. let e : 1 * d / 10 + 1 * d % 10 ≡ d = omega arith in e) u c l l

-- a number that a rule accepts
abbrev good : (List ℕ → Finding) → List ℕ → Bool
good rule s = is_good (rule s)

-- a rule that a check digit c decides by being x
module _ (rule : List ℕ → Finding) (f : Figure) (left a b : ℕ) (links : Links rule f left a b) (u : List ℕ) (x : ℕ) (small : x < 10)
    (decides : (c : ℕ) → c < 10 → is_good (rule (u ++ one_digit c)) ≡ eqb c x) where
  one_alone : (y : List ℕ) → length y ≡ 1 → 0 ≤ number y → is_good (rule (u ++ y)) ≡ true → y ≡ one_digit x
  one_alone [] e n h = absurd (omega arith)
  one_alone (d ∷ e' ∷ y) e n h = absurd (omega arith)
  one_alone (d ∷ []) e n h =
      let q = digit_bounds d (all_first is_digit d [] (all_end u (d ∷ []) (links (u ++ d ∷ []) h).form.digit)) in
      let k : d ≡ d - 48 + 48 = omega arith in
      let g = eqb-true (d - 48) x (sym (decides (d - 48) (omega arith)) ∙ ap (λ z. is_good (rule (u ++ z ∷ []))) (sym k) ∙ h) in
      ap (λ z. z ∷ []) (let w : d ≡ x + 48 = omega arith in w)

  one_completes : Completes (good rule) (λ y. u ++ y) 0 (one_digit x)
  one_completes = record { accepted = decides x small ∙ eq-eqb x x refl; alone = one_alone }

-- 0088
pub gln_completes : (body : List ℕ) → all is_digit body ≡ true → length body < 1024 → Completes (good gln) (λ y. body ++ y) 0 (one_digit (check_figure Mod10 body))
unfolding gln
gln_completes body h n =
    one_completes gln figure40 0 1 1024 gln_links body (lacks figure40 body) (omega arith)
    (λ c l.
    let d = with_one body c (length body) l h refl in
    good_by (right figure40 (body ++ one_digit c))
    (fit_digits 1 1024 (body ++ one_digit c) (record { least = omega (arith, d.least); most = omega (arith, d.most); digit = d.digit }))
    ∙ right40 body c l)

-- 0007
pub se_orgnr_completes : (body : List ℕ) → all is_digit body ≡ true → length body ≡ 9 → Completes (good se_orgnr) (λ y. body ++ y) 0 (one_digit (check_figure Luhn body))
unfolding se_orgnr
se_orgnr_completes body h n =
    one_completes se_orgnr luhn 0 10 10 se_orgnr_links body (lacks luhn body) (omega arith)
    (λ c l.
    good_by (right luhn (body ++ one_digit c)) (fit_digits 10 10 (body ++ one_digit c) (with_one body c 9 l h n))
    ∙ right_luhn body c l)

-- ---- 0192

all_both : (p : ℕ → Bool) (u v : List ℕ) → all p (u ++ v) ≡ all p u && all p v
unfolding all
all_both p [] v = refl
all_both p (b ∷ u) v = ap (λ x. p b && x) (all_both p u v) ∙ group (p b) (all p u) (all p v)
  where
    group : (x y z : Bool) → x && (y && z) ≡ (x && y) && z
    group true y z = refl
    group false y z = refl

module _ (body : List ℕ) (h : all is_digit body ≡ true) (n : length body ≡ 8) where
  -- a body of zeros lacks nothing
  zeros_lack : all_zero body ≡ true → lacks figure41 body ≡ 0
  unfolding all
  zeros_lack z =
      let s = body ++ one_digit 0 in
      let e = eqb-true (total_by figure41 s) 0 (zeros41 s (with_one body 0 8 (omega arith) h n).digit ∙ all_both (eqb 48) body (one_digit 0) ∙ rw z refl) in
      ap (λ t. (11 - t % 11) % 11) e

  good41 : (c : ℕ) → c < 10 → (z : Bool) → all_zero body ≡ z → is_good (mod11 (body ++ one_digit c)) ≡ not z && eqb c (lacks figure41 body)
  unfolding mod11 all
  good41 c l false z =
      good_by_zero (right figure41 (body ++ one_digit c)) (fit_digits 9 9 (body ++ one_digit c) (with_one body c 8 l h n))
      (all_both (eqb 48) body (one_digit c) ∙ rw z refl)
      ∙ right41 body c l
  good41 c l true z =
      not_true (is_good (mod11 (body ++ one_digit c)))
      (λ g.
      let p = good_zero (fault_of (digits 9 9) (body ++ one_digit c)) (all_zero (body ++ one_digit c)) (right figure41 (body ++ one_digit c)) g in
      let e = eqb-true c (lacks figure41 body) (sym (right41 body c l) ∙ p.2) in
      let c0 : c ≡ 0 = e ∙ zeros_lack z in
      let a : all_zero (body ++ one_digit c) ≡ true = all_both (eqb 48) body (one_digit c) ∙ rw (z, c0) refl in
      false_true (sym p.1 ∙ a))

  reason_none : (z t : Bool) → pick z (Some Zero) (pick t (Some NoFigure) None) ≡ None → (z ≡ false) × (t ≡ false)
  unfolding pick
  reason_none true t e = absurd (let q : ◌≡◌ {A = ℕ} 0 1 = cc in omega arith)
  reason_none false true e = absurd (let q : ◌≡◌ {A = ℕ} 0 1 = cc in omega arith)
  reason_none false false e = (refl, refl)

  pub mod11_completes : mod11_reason body ≡ None → Completes (good mod11) (λ y. body ++ y) 0 (one_digit (check_figure Mod11 body))
  mod11_completes e =
      let r = reason_none (all_zero body) (eqb (lacks figure41 body) 10) e in
      one_completes mod11 figure41 0 9 9 mod11_links body (lacks figure41 body) (omega (arith, eqb-false (lacks figure41 body) 10 r.1))
      (λ c l. good41 c l false r.0)

  -- reasons 5 and 6 stand exactly when no figure completes the body
  pub mod11_none : (mod11_reason body ≡ None → ⊥) ↔ ((y : List ℕ) → length y ≡ 1 → is_good (mod11 (body ++ y)) ≡ false)
  unfolding pick
  mod11_none = (
    λ ne y k. not_true (is_good (mod11 (body ++ y))) (λ g. ne (some y k g)),
    λ none e. false_true (sym (none (one_digit (lacks figure41 body)) refl) ∙ (mod11_completes e).accepted),
  )
    where
      by_digit : (c : ℕ) → c < 10 → (z : Bool) → all_zero body ≡ z → is_good (mod11 (body ++ one_digit c)) ≡ true → mod11_reason body ≡ None
      by_digit c l true z g = false_true (sym (good41 c l true z) ∙ g)
      by_digit c l false z g =
          let e = eqb-true c (lacks figure41 body) (sym (good41 c l false z) ∙ g) in
          rw (z, ne_eqb (lacks figure41 body) 10 (λ q. omega arith)) refl

      some : (y : List ℕ) → length y ≡ 1 → is_good (mod11 (body ++ y)) ≡ true → mod11_reason body ≡ None
      some [] k g = absurd (omega arith)
      some (d ∷ e ∷ y) k g = absurd (omega arith)
      some (d ∷ []) k g =
          let q = digit_bounds d (all_first is_digit d [] (all_end body (d ∷ []) (mod11_links (body ++ d ∷ []) g).form.digit)) in
          let w : d ≡ d - 48 + 48 = omega arith in
          by_digit (d - 48) (omega arith) (all_zero body) refl (ap (λ x. is_good (mod11 (body ++ x ∷ []))) (sym w) ∙ g)

-- ---- pairs

-- a text of two digits is its number's
pair_text : (y : List ℕ) → length y ≡ 2 → all is_digit y ≡ true → (y ≡ two_digits (number y)) × (number y < 100)
pair_text [] k h = absurd (omega arith)
pair_text (a ∷ []) k h = absurd (omega arith)
pair_text (a ∷ b ∷ c ∷ y) k h = absurd (omega arith)
pair_text (a ∷ b ∷ []) k h =
    let p = digit_bounds a (all_first is_digit a (b ∷ []) h) in
    let q = digit_bounds b (all_first is_digit b [] (all_rest is_digit a (b ∷ []) h)) in
    let e : number (a ∷ b ∷ []) ≡ 10 * (a - 48) + (b - 48) = omega arith in
    let x : a ≡ (10 * (a - 48) + (b - 48)) / 10 + 48 = omega arith in
    let y : b ≡ (10 * (a - 48) + (b - 48)) % 10 + 48 = omega arith in
    (cc, omega arith)

number_pair : (n : ℕ) → n < 100 → number (two_digits n) ≡ n
number_pair n l = omega arith

pair_digits : (n : ℕ) → n < 100 → all is_digit (two_digits n) ≡ true
pair_digits n l =
    all_cons is_digit (n / 10 + 48) ((n % 10 + 48) ∷ []) (digit_inside (n / 10 + 48) (omega arith) (omega arith))
    (all_cons is_digit (n % 10 + 48) [] (digit_inside (n % 10 + 48) (omega arith) (omega arith)) (all_nil is_digit))

-- 0208
module _ (body : List ℕ) (h : all is_digit body ≡ true) (n : length body ≡ 8) where
  good43 : (y : List ℕ) → length y ≡ 2 → all is_digit y ≡ true → is_good (mod97 (body ++ y)) ≡ eqb (number y) (97 - number body % 97)
  unfolding mod97
  good43 y k d =
      let g = length-append body y in
      let f : Digits 10 10 (body ++ y) = record { least = omega arith; most = omega arith; digit = all_append is_digit body y h d } in
      good_by (eqb (number (drop 8 (body ++ y))) (97 - number (take 8 (body ++ y)) % 97)) (fit_digits 10 10 (body ++ y) f)
      ∙ ap (λ x. eqb (number x) (97 - number (take 8 (body ++ y)) % 97)) (drop_at body y 8 n)
      ∙ ap (λ x. eqb (number y) (97 - number x % 97)) (take_at body y 8 n)

  pub mod97_completes : Completes (good mod97) (λ y. body ++ y) 0 (two_digits (check_figure Mod97 body))
  mod97_completes =
      let x = 97 - number body % 97 in
      record {
        accepted = good43 (two_digits x) refl (pair_digits x (omega arith)) ∙ eq-eqb (number (two_digits x)) x (number_pair x (omega arith));
        alone = λ y k l g.
            let d = all_end body y (mod97_links (body ++ y) g).form.digit in
            (pair_text y k d).0 ∙ ap two_digits (eqb-true (number y) x (sym (good43 y k d) ∙ g));
      }

-- 0151
module _ (body : List ℕ) (h : all is_digit body ≡ true) (n : length body ≡ 9) where
  -- the pair counts as the number that it writes
  front : (y : List ℕ) → length y ≡ 2 → total_by figure50 (y ++ body) ≡ number y + total_by figure50 body
  front [] k = absurd (omega arith)
  front (a ∷ []) k = absurd (omega arith)
  front (a ∷ b ∷ c ∷ y) k = absurd (omega arith)
  front (a ∷ b ∷ []) k =
      omega (
        arith,
        ap (λ j. adds false figure50.weights (suc j) (a - 48)) n,
        ap (λ j. adds false figure50.weights j (b - 48)) n,
      )

  by_89 : (t p : ℕ) → 11 ≤ p → p < 100 → ((p + t) % 89 ≡ 10) ↔ (p ≡ 99 - t % 89)
  by_89 t p lo hi = omega arith

  good50 : (y : List ℕ) → length y ≡ 2 → all is_digit y ≡ true → 11 ≤ number y
      → is_good (abn (y ++ body)) ≡ eqb (number y) (99 - total_by figure50 body % 89)
  unfolding abn
  good50 y k d lo =
      let g = length-append y body in
      let f : Digits 11 11 (y ++ body) = record { least = omega arith; most = omega arith; digit = all_append is_digit y body d h } in
      let t = total_by figure50 body in
      let i = by_89 t (number y) lo (pair_text y k d).1 in
      let r = total_reduced (y ++ body) (omega arith) in
      good_by (eqb (nat_abs (abn_total (y ++ body)) % 89) 0) (fit_digits 11 11 (y ++ body) f)
      ∙ ap (λ z. eqb (nat_abs z % 89) 0) r
      ∙ eqb_iff (nat_abs (sub_ℕ (total_by figure50 (y ++ body)) 10) % 89) 0 (number y) (99 - t % 89)
      (λ e. i.0 (ap (λ x. x % 89) (sym (front y k)) ∙ leaves_ten (total_by figure50 (y ++ body)) e))
      (λ e. ten_leaves (total_by figure50 (y ++ body)) (ap (λ x. x % 89) (front y k) ∙ i.1 e))

  pub abn_completes : Completes (good abn) (λ y. y ++ body) 11 (two_digits (check_figure Mod89 body))
  abn_completes =
      let x = 99 - total_by figure50 body % 89 in
      let e = number_pair x (omega arith) in
      record {
        accepted = good50 (two_digits x) refl (pair_digits x (omega arith)) (omega arith) ∙ eq-eqb (number (two_digits x)) x e;
        alone = λ y k l g.
            let d = all_front y body (abn_links (y ++ body) g).form.digit in
            (pair_text y k d).0 ∙ ap two_digits (eqb-true (number y) x (sym (good50 y k d l) ∙ g));
      }
