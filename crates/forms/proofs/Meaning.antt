-- What an answer of `fault_of` means. Assumes nothing.
use mathlib.Core.Path.{◌≡◌, refl, ◌∙◌, sym}
use mathlib.Core.Bool.{Bool, true, false}
use mathlib.Core.Logic.{◌⊎◌, inl, inr, ⊎_elim}
use mathlib.Core.List.{List, [], ◌∷◌}
use Prim.Native.Nat.{ℕ, zero, suc, ◌+◌, ◌-◌, ◌≤◌, ◌<◌}
use native.Mathlib.Nat.{not-suc-le-zero, le_of_suc-le-suc, eq-or-lt_of_le}
use native.Mathlib.Omega.{arith}
use borrow.Author.Tests.{leb-true, leb-false}
use lib.Dec.{leb}
use lib.ListN.{length, get_or}
use Rattle.ascii.specs.Pick.{pick}
use Rattle.ascii.specs.Class.{within}
use Rattle.ascii.proofs.Tests.{false_true}
use Rattle.ascii.proofs.Class.{inside, bounds}
use Rattle.std.specs.Prelude.{Result, Ok, Err, is_ok, ⊤}
use Rattle.forms.specs.declared.form.Fault.{Fault}
use Rattle.forms.specs.declared.form.Fault.TheVariants.{Length, At}
use Rattle.forms.specs.Form.{Form, of_class, class_at, wrong, fault_of, fits}
use Rattle.forms.specs.Meaning.{Fitting, First}
use Rattle.forms.proofs.Laws.{fault_inside}
use Rattle.forms.proofs.First.{none_wrong}

-- ---- `Ok` is what `fits` tests

ok_lem : (x : Result ⊤ Fault) → is_ok x ≡ true → x ≡ Ok tt
ok_lem (Ok tt) e = refl
ok_lem (Err x) e = false_true e

module _ (f : Form) (s : List ℕ) where
  pub fits_fault : fits f s ≡ true → fault_of f s ≡ Ok tt
  unfolding fits
  fits_fault e = ok_lem (fault_of f s) e

  pub fault_fits : fault_of f s ≡ Ok tt → fits f s ≡ true
  unfolding fits
  fault_fits e = rw e

-- ---- a pick, by its answer

-- an answer that is not the second is the first, and the test passes
picked : (t : Bool) {x y z : Result ⊤ Fault} → pick t x y ≡ z → (y ≡ z → ⊥) → (t ≡ true) × (x ≡ z)
unfolding pick
picked true h n = (refl, h)
picked false h n = absurd (n h)

pick_at : (t : Bool) (x : Result ⊤ Fault) (k m : ℕ) → pick t x (Err (At k)) ≡ Err (At m) → ((t ≡ true) × (x ≡ Err (At m))) ⊎ ((t ≡ false) × (k ≡ m))
unfolding pick
pick_at true x k m h = inl (refl, h)
pick_at false x k m h = inr (refl, cc)

unranged : (t : Bool) (x : Result ⊤ Fault) → (x ≡ Err Length → ⊥) → pick t x (Err Length) ≡ Err Length → t ≡ false
unfolding pick
unranged true x n h = absurd (n h)
unranged false x n h = refl

-- ---- the walk over the places

module _ (g : ℕ → ℕ) where
  not_at : (k : ℕ) → ◌≡◌ {A = Result ⊤ Fault} (Err (At k)) (Ok tt) → ⊥
  not_at k e = let z : ◌≡◌ {A = ℕ} 0 1 = cc in omega arith

  right_all : (k : ℕ) (s : List ℕ) → wrong g k s ≡ Ok tt → (i : ℕ) → i < length s → of_class (g (k + i)) (get_or s i 0) ≡ true
  unfolding wrong
  right_all k [] h i l = absurd (not-suc-le-zero l)
  right_all k (b ∷ s) h zero l = let e : k + 0 ≡ k = omega arith in rw e (picked (of_class (g k) b) h (not_at k)).0
  right_all k (b ∷ s) h (suc i) l =
      let e : k + suc i ≡ suc k + i = omega arith in
      rw e (right_all (suc k) s (picked (of_class (g k) b) h (not_at k)).1 i (le_of_suc-le-suc l))

  no_length : (k : ℕ) (s : List ℕ) → wrong g k s ≡ Err Length → ⊥
  unfolding wrong
  no_length k [] h = let z : ◌≡◌ {A = ℕ} 0 1 = cc in omega arith
  no_length k (b ∷ s) h = no_length (suc k) s (picked (of_class (g k) b) h (λ (e : Err (At k) ≡ Err Length). let z : ◌≡◌ {A = ℕ} 0 1 = cc in omega arith)).1

  first_at : (k : ℕ) (s : List ℕ) (m : ℕ) → wrong g k s ≡ Err (At m)
      → (k ≤ m) × ((m - k < length s) × ((of_class (g m) (get_or s (m - k) 0) ≡ false)
      × ((i : ℕ) → k ≤ i → i < m → of_class (g i) (get_or s (i - k) 0) ≡ true)))
  unfolding wrong
  first_at k [] m h = let z : ◌≡◌ {A = ℕ} 0 1 = cc in absurd (omega arith)
  first_at k (b ∷ s) m h =
      ⊎_elim
      (λ (w : (of_class (g k) b ≡ true) × (wrong g (suc k) s ≡ Err (At m))).
      let q = first_at (suc k) s m w.1 in
      let e : m - k ≡ suc (m - suc k) = omega (arith, q.0) in (
        omega (arith, q.0),
        (
          rw e (omega (arith, q.1.0)),
          (
            rw e q.1.1.0,
            λ i l r.
                ⊎_elim
                (λ (x : k ≡ i). let o : i - k ≡ 0 = omega arith in rw (o, ← x) w.0)
                (λ (x : k < i). let o : i - k ≡ suc (i - suc k) = omega arith in rw o (q.1.1.1 i x r))
                (eq-or-lt_of_le l),
          ),
        ),
      ))
      (λ (w : (of_class (g k) b ≡ false) × (k ≡ m)).
      let o : m - k ≡ 0 = omega (arith, w.1) in
      (omega (arith, w.1), (rw o (omega arith), (rw (o, ← w.1) w.0, λ i l r. absurd (omega (arith, w.1))))))
      (pick_at (of_class (g k) b) (wrong g (suc k) s) k m h)

-- ---- the three answers

-- `Ok` says that the length is in range and every byte is of its class, and that says `Ok`
pub fits_means : (f : Form) (s : List ℕ) → fault_of f s ≡ Ok tt → Fitting f s
unfolding fault_of
fits_means f s h =
    let p = picked (within f.least f.most (length s)) h (λ (e : Err Length ≡ Ok tt). let z : ◌≡◌ {A = ℕ} 0 1 = cc in omega arith) in
    let q = bounds f.least f.most (length s) p.0 in
    record {
      least = q.0;
      most = q.1;
      each = λ k l. let e : 0 + k ≡ k = omega arith in rw e at (right_all (class_at f.head f.rest) 0 s p.1 k l);
    }

pub means_fits : (f : Form) (s : List ℕ) → Fitting f s → fault_of f s ≡ Ok tt
means_fits f s h =
    fault_inside f s h.least h.most
    ∙ none_wrong (class_at f.head f.rest) 0 s (λ k l. let e : 0 + k ≡ k = omega arith in rw e (h.each k l))

-- `Length` says that the length is out of range, and that says `Length`
pub length_means : (f : Form) (s : List ℕ) → fault_of f s ≡ Err Length → within f.least f.most (length s) ≡ false
unfolding fault_of
length_means f s h = unranged _ _ (no_length (class_at f.head f.rest) 0 s) h

pub means_length : (f : Form) (s : List ℕ) → within f.least f.most (length s) ≡ false → fault_of f s ≡ Err Length
unfolding fault_of pick
means_length f s h = rw h

-- `At m` says that the length is in range and m is the first place that fails, and that says `At m`
pub at_means : (f : Form) (s : List ℕ) (m : ℕ) → fault_of f s ≡ Err (At m) → First f s m
unfolding fault_of
at_means f s m h =
    let p = picked (within f.least f.most (length s)) h (λ (e : Err Length ≡ Err (At m)). let z : ◌≡◌ {A = ℕ} 0 1 = cc in omega arith) in
    let b = bounds f.least f.most (length s) p.0 in
    let q = first_at (class_at f.head f.rest) 0 s m p.1 in
    record {
      least = b.0;
      most = b.1;
      inside = omega (arith, q.1.0);
      fails = let e : m - 0 ≡ m = omega arith in rw e at q.1.1.0;
      before = λ k l. let e : k - 0 ≡ k = omega arith in rw e at (q.1.1.1 k (omega arith) l);
    }

one_first : (f : Form) (s : List ℕ) (m k : ℕ) → First f s m → First f s k → m ≤ k
one_first f s m k p q = go (leb m k) refl
  where
    go : (t : Bool) → leb m k ≡ t → m ≤ k
    go true e = leb-true m k e
    go false e = false_true (sym q.fails ∙ p.before k (leb-false m k e))

pub means_at : (f : Form) (s : List ℕ) (m : ℕ) → First f s m → fault_of f s ≡ Err (At m)
means_at f s m h = go (fault_of f s) refl
  where
    go : (x : Result ⊤ Fault) → fault_of f s ≡ x → x ≡ Err (At m)
    go (Ok tt) e = let w = fits_means f s e in false_true (sym h.fails ∙ w.each m h.inside)
    go (Err Length) e = false_true (sym (length_means f s e) ∙ inside f.least f.most (length s) h.least h.most)
    go (Err (At k)) e =
        let w = at_means f s k e in
        let a = one_first f s m k h w in
        let b = one_first f s k m w h in
        let c : k ≡ m = omega arith in
        rw c
