-- The totals that the code finds its answers from: how large they are, the weights of places, a check digit that is still to come, the form with
-- the total. Assumes nothing.
use mathlib.Core.Path.{◌≡◌, refl, ◌∙◌, sym, ap}
use mathlib.Core.Bool.{Bool, true, false}
use mathlib.Core.List.{List, [], ◌∷◌, ◌++◌}
use Prim.Native.Nat.{ℕ, zero, suc, ◌+◌, ◌-◌, ◌*◌, ◌%◌, ◌≤◌, ◌<◌}
use native.Mathlib.Nat.{add-zero, mul-le-mul, mod-lt}
use native.Mathlib.Omega.{arith}
use native.Mathlib.Decide.{ℕ_discrete}
use borrow.Author.Tests.{leb-true, leb-false, le-leb, lt-leb}
use lib.Dec.{leb, lit<}
use lib.ListN.{length, get_or, take, drop, replicate, length-append, length-drop, get_or-replicate, get_or-append, get_or-eq_default}
use Rattle.std.proofs.Common.{get_or-drop}
use Rattle.std.specs.Array.{IsFromFnResultFrom}
use denote.Param.Members.{Mut, Called}
use lib.Seq.{get_or-append-add, ext_get_or, take_all}
use mir.Val.{bool_byte}
use Rattle.ascii.specs.Pick.{pick}
use Rattle.ascii.specs.Class.{is_digit, all}
use Rattle.ascii.proofs.Tests.{below, below_at}
use Rattle.ascii.proofs.Class.{digit_bounds, all_first, all_rest}
use Rattle.std.specs.Prelude.{Result, Ok, Err, is_ok, IsErr, IsErrAnd, ⊤}
use Rattle.std.proofs.lemmas.Result.{err_from_is_err_and}
use Rattle.figures.proofs.Steps.{within_table}
use Rattle.forms.specs.Form.{Form, fault_of}
use Rattle.forms.proofs.Laws.{fault_short, fault_long}
use Rattle.forms.specs.declared.form.Fault.{Fault}
use Rattle.forms.specs.declared.form.Fault.TheVariants.{Length}
use Rattle.figures.specs.Total.{total}
use Rattle.figures.specs.Figures.{weight_at, counted, adds, total_by}
use Rattle.figures.specs.Completing.{one_digit}
use Rattle.figures.specs.Inner.{figure_by, placed, adds_from, summed, summed_by}
use Rattle.figures.specs.declared.kind.Kind.{Kind}
use Rattle.figures.specs.declared.kind.Kind.TheVariants.{Mod10, Mod11, Mod97, Luhn, Mod89}
use Rattle.figures.proofs.Digits.{same_total}
use Rattle.figures.proofs.Links.{join}

counted_small : (fold : Bool) (n : ℕ) → counted fold n ≤ n
counted_small true n = omega arith
counted_small false n = omega arith

-- what a digit adds by a weight of 32 bits
pub share_small : (fold : Bool) (w d : ℕ) → w < 4294967296 → d ≤ 9 → counted fold (w * d) ≤ 38654705664
share_small fold w d h l =
    let p : w * d ≤ 4294967296 * 9 = mul-le-mul {n₁ = w} {m₁ = d} {n₂ = 4294967296} {m₂ = 9} (omega arith) l in
    omega (arith, counted_small fold (w * d))

-- ---- a figure's weights

some_weights : (kind : Kind) → 0 < length (figure_by kind).weights
some_weights Mod10 = lit< tt
some_weights Mod11 = lit< tt
some_weights Mod97 = lit< tt
some_weights Luhn = lit< tt
some_weights Mod89 = lit< tt

abbrev light : List ℕ → Bool
light ws = below (length ws) (λ j. leb (get_or ws j 0) 1000000000)

light_weights : (kind : Kind) → light (figure_by kind).weights ≡ true
light_weights Mod10 = refl
light_weights Mod11 = refl
light_weights Mod97 = refl
light_weights Luhn = refl
light_weights Mod89 = refl

weight_small : (kind : Kind) (k : ℕ) → weight_at (figure_by kind).weights k ≤ 1000000000
weight_small kind k =
    let ws = (figure_by kind).weights in
    leb-true _ _ (below_at (length ws) (λ j. leb (get_or ws j 0) 1000000000) (light_weights kind) (k % length ws) (mod-lt k (some_weights kind)))

pub total_small : (kind : Kind) (s : List ℕ) → all is_digit s ≡ true → total_by (figure_by kind) s ≤ 38654705664 * length s
total_small kind [] h = omega arith
total_small kind (b ∷ s) h =
    let d = digit_bounds b (all_first is_digit b s h) in
    omega (
      arith,
      share_small (figure_by kind).fold (weight_at (figure_by kind).weights (length s)) (b - 48) (omega (arith, weight_small kind (length s))) (omega arith),
      total_small kind s (all_rest is_digit b s h),
    )

pub placed_length : (n : ℕ) (f : ℕ → ℕ) → length (placed n f) ≡ n
unfolding placed
placed_length zero f = refl
placed_length (suc n) f = simp (length-append, placed_length n f) (omega arith)

pub placed_at : (n : ℕ) (f : ℕ → ℕ) (k : ℕ) → k < n → get_or (placed n f) k 0 ≡ f k
unfolding placed
placed_at zero f k l = absurd (omega arith)
placed_at (suc n) f k l =
    elim (ℕ_discrete k n) [
      | yes q ↦ rw q (get_d_end (placed n f) (f n) n (placed_length n f))
      | no ne ↦ get_or-append (placed n f) (f n ∷ []) 0 k (rw (placed_length n f) (less k n l ne)) ∙ placed_at n f k (less k n l ne)
    ]
  where
    less : (i j : ℕ) → i < suc j → (i ≡ j → ⊥) → i < j
    less i j h ne = omega arith

    get_d_end : (l : List ℕ) (v i : ℕ) → length l ≡ i → get_or (l ++ v ∷ []) i 0 ≡ v
    get_d_end l v i e = ap (λ j. get_or (l ++ v ∷ []) j 0) (let z : i ≡ length l + 0 = omega arith in z) ∙ get_or-append-add l (v ∷ []) 0 0

-- a list of 20 places
pub placed_by : (f : ℕ → ℕ) (t : List ℕ) → length t ≡ 20 → ((j : ℕ) → j < 20 → get_or t j 0 ≡ f j) → t ≡ placed 20 f
placed_by f t e h =
    ext_get_or 0 t (placed 20 f) (e ∙ sym (placed_length 20 f)) (λ j l. h j (omega arith) ∙ sym (placed_at 20 f j (omega arith)))

-- places that a closure gives, which calls leave as it was
pub given_by : {F : Type 0} (g : Mut F (ℕ × Unit {0}) ℕ) (c : F) (f : ℕ → ℕ) (t : List ℕ) → ((k y : ℕ) (d : F) → Called g c (k, tt) y d → (d ≡ c) × (y ≡ f k))
    → (n k : ℕ) → IsFromFnResultFrom g c t k n → (j : ℕ) → k ≤ j → j < k + n → get_or t j 0 ≡ f j
given_by g c f t s zero k h j l m = absurd (omega arith)
given_by g c f t s (suc n) k h j l m =
    let w = s k h.1 h.0 h.3 in
    elim (ℕ_discrete k j) [
      | yes e ↦ rw (← e) (h.2.1 0 ∙ w.1)
      | no ne ↦ given_by g c f t s n (k + 1) (rw w.0 at h.4) j (omega arith) (omega arith)
    ]

-- the weights of a table, and zeros
pub tabled_by : (ws : List ℕ) → length ws ≤ 20 → ws ++ drop (length ws) (replicate 20 0) ≡ placed 20 (λ k. get_or ws k 0)
tabled_by ws l =
    placed_by (λ k. get_or ws k 0) (ws ++ drop (length ws) (replicate 20 0))
    (simp (length-append, length-drop) (omega arith))
    (λ j m. go j m (leb (length ws) j) refl)
  where
    go : (j : ℕ) → j < 20 → (t : Bool) → leb (length ws) j ≡ t → get_or (ws ++ drop (length ws) (replicate 20 0)) j 0 ≡ get_or ws j 0
    go j m true e =
        let h = leb-true (length ws) j e in
        let z : length ws + (j - length ws) ≡ j = omega arith in
        rw z at (get_or-append-add ws (drop (length ws) (replicate 20 0)) (j - length ws) 0)
        ∙ get_or-drop (length ws) (replicate 20 0) (j - length ws) 0
        ∙ get_or-replicate 20 (length ws + (j - length ws)) 0 0 (omega arith)
        ∙ sym (get_or-eq_default ws 0 h)
    go j m false e = get_or-append ws (drop (length ws) (replicate 20 0)) 0 j (leb-false (length ws) j e)

-- ---- a check digit that is still to come

-- the number with a 0 for it
abbrev pub with_zero : Bool → List ℕ → List ℕ
with_zero true s = s ++ one_digit 0
with_zero false s = s

pub with_pending : (f : ℕ → ℕ → ℕ) (u : List ℕ) (p : Bool) → f 0 0 ≡ 0 → total (λ j d. f (j + bool_byte p) d) u ≡ total f (with_zero p u)
with_pending f u true z =
    sym (join f (λ j d. f (j + 1) d) f u (one_digit 0) (λ j d l. refl) (λ j d l. refl) ∙ (let e : total f (one_digit 0) ≡ 0 = omega arith in omega arith))
with_pending f u false z = same_total (λ j d. f (j + 0) d) f u (λ j d l. ap (λ i. f i d) (add-zero j))

pub adds_zero : (fold : Bool) (ws : List ℕ) (k : ℕ) → adds fold ws k 0 ≡ 0
adds_zero fold ws k = omega (arith, counted_small fold (weight_at ws k * 0))

-- ---- the form, and then the total

pub sum_fit : {y : Result ⊤ Fault} {t n : ℕ} → y ≡ Ok tt → t ≡ n → Ok t ≡ summed y n
sum_fit h e = rw (h, e) refl

-- by a fault that is found in another way
pub sum_by : {x y : Result ⊤ Fault} {r : Result ℕ Fault} (n : ℕ) → r ≡ summed x n → x ≡ y → r ≡ summed y n
sum_by n e h = rw (← h) e

pub sum_same : (y : Result ⊤ Fault) {n m : ℕ} → (y ≡ Ok tt → n ≡ m) → summed y n ≡ summed y m
sum_same (Ok tt) h = ap (λ (k : ℕ). Ok k) (h refl)
sum_same (Err fault) h = refl

-- a length that is out of range, whatever the places are
pub sum_out : (fold : Bool) (places : List ℕ) (f : Form) (after : ℕ) (s : List ℕ) → fault_of f s ≡ Err Length → Err Length ≡ summed_by fold places f after s
unfolding summed_by pick
sum_out fold places f after s h = rw h (go (leb (length s + after) (length places)))
  where
    go : (t : Bool) → ◌≡◌ {A = Result ℕ Fault} (Err Length) (pick t (Err Length) (Err Length))
    go true = refl
    go false = refl

pub sum_short : (fold : Bool) (places : List ℕ) (f : Form) (after : ℕ) (s : List ℕ) → length s < f.least → Err Length ≡ summed_by fold places f after s
sum_short fold places f after s h = sum_out fold places f after s (fault_short f s h)

pub sum_long : (fold : Bool) (places : List ℕ) (f : Form) (after : ℕ) (s : List ℕ) → f.most < length s → Err Length ≡ summed_by fold places f after s
sum_long fold places f after s h = sum_out fold places f after s (fault_long f s h)

-- more digits than places
pub sum_over : (fold : Bool) (places : List ℕ) (f : Form) (after : ℕ) (s : List ℕ) → length places < length s + after → Err Length ≡ summed_by fold places f after s
unfolding summed_by pick
sum_over fold places f after s h = rw (lt-leb (length s + after) (length places) h)

pub sum_room : (fold : Bool) (places : List ℕ) (f : Form) (after : ℕ) (s : List ℕ) → length s + after ≤ length places → summed_by fold places f after s ≡ summed (fault_of f s) (total (adds_from after fold places) s)
unfolding summed_by pick
sum_room fold places f after s h = rw (le-leb (length s + after) (length places) h)

-- a form that is not met, and one that is
pub sum_unfit : {r : Result ℕ Fault} {fault : Fault} (fold : Bool) (places : List ℕ) (f : Form) (after : ℕ) (s : List ℕ) → length s + after ≤ length places
    → IsErr r × IsErrAnd r (λ x. x ≡ fault) → Err fault ≡ fault_of f s → r ≡ summed_by fold places f after s
sum_unfit {r} fold places f after s h a e =
    let p = err_from_is_err_and r a.1 in sym (sum_room fold places f after s h ∙ rw (← e, p.1, p.2) refl)

pub sum_met : {t : ℕ} (fold : Bool) (places : List ℕ) (f : Form) (after : ℕ) (s : List ℕ) → length s + after ≤ length places
    → Ok tt ≡ fault_of f s → t ≡ total (adds_from after fold places) s → Ok t ≡ summed_by fold places f after s
sum_met fold places f after s h e g = sum_fit (sym e) g ∙ sym (sum_room fold places f after s h)

-- the weights from a place on
pub places_from : (fold : Bool) (ws : List ℕ) (after : ℕ) (s : List ℕ) → length s + after ≤ length ws
    → total (adds fold (take (length ws - after) (drop after ws))) s ≡ total (adds_from after fold ws) s
places_from fold ws after s h =
    let n = length-drop after ws in
    rw (take_all (length ws - after) (drop after ws) (omega arith))
    (same_total (adds fold (drop after ws)) (adds_from after fold ws) s
    (λ k d l.
    let z : after + k ≡ k + after = omega arith in
    ap (λ w. counted fold (w * d)) (within_table (drop after ws) k (omega arith) ∙ get_or-drop after ws k 0 ∙ ap (λ j. get_or ws j 0) z)))

-- where the places are enough for every number of the form
pub sum_formed : (fold : Bool) (places : List ℕ) (f : Form) (after : ℕ) (s : List ℕ) → f.most + after ≤ length places → summed_by fold places f after s ≡ summed (fault_of f s) (total (adds_from after fold places) s)
sum_formed fold places f after s h = go (leb (length s + after) (length places)) refl
  where
    go : (t : Bool) → leb (length s + after) (length places) ≡ t → summed_by fold places f after s ≡ summed (fault_of f s) (total (adds_from after fold places) s)
    go true e = sum_room fold places f after s (leb-true _ _ e)
    go false e =
        let l = leb-false (length s + after) (length places) e in
        sym (sum_over fold places f after s l) ∙ sum_by {x = Err Length} _ refl (sym (fault_long f s (omega arith)))

-- what a caller learns of a sum
pub sum_means : (y : Result ⊤ Fault) (n : ℕ) {t : ℕ} → summed y n ≡ Ok t → (y ≡ Ok tt) × (n ≡ t)
sum_means (Ok tt) n e = (refl, cc)
sum_means (Err fault) n e = absurd (let q : ◌≡◌ {A = ℕ} 0 1 = cc in omega arith)

pub unfit_means : (y : Result ⊤ Fault) (n : ℕ) {f : Fault} → summed y n ≡ Err f → is_ok y ≡ false
unfit_means (Ok tt) n e = absurd (let q : ◌≡◌ {A = ℕ} 0 1 = cc in omega arith)
unfit_means (Err fault) n e = refl
