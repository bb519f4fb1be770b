-- The first place that fails, by what a search over the head and one over the rest find. Assumes nothing.
use mathlib.Core.Path.{◌≡◌, refl, ◌∙◌, sym, ap}
use mathlib.Core.Bool.{Bool, true, false}
use mathlib.Core.List.{List, [], ◌∷◌}
use Prim.Native.Nat.{ℕ, zero, suc, ◌+◌, ◌-◌, ◌≤◌, ◌<◌}
use native.Mathlib.Omega.{arith}
use native.Mathlib.Nat.{not-suc-le-zero, le_of_suc-le-suc}
use borrow.Author.Tests.{leb-true, leb-false}
use lib.Dec.{leb}
use lib.ListN.{length, get_or, drop, length-drop, get_or-eq_default}
use Rattle.std.proofs.Common.{get_or-drop}
use Rattle.std.specs.Prelude.{Ok, Err, Option, Some, None, MatchOption, min, zip}
use Rattle.std.specs.List.{AllWithin, HoldsAt}
use Rattle.std.proofs.lemmas.Slice.Zip.{length-zip}
use Rattle.std.proofs.option.Match.{if_some, if_none}
use Rattle.ascii.specs.Pick.{pick}
use Rattle.forms.specs.declared.form.Fault.TheVariants.{At}
use Rattle.forms.specs.Form.{of_class, class_at, wrong}
use Rattle.forms.proofs.Laws.{get_d_any}

module _ (f : ℕ → ℕ) where
  -- every byte is of its class
  pub none_wrong : (i : ℕ) (s : List ℕ) → ((k : ℕ) → k < length s → of_class (f (i + k)) (get_or s k 0) ≡ true) → wrong f i s ≡ Ok tt
  unfolding wrong pick
  none_wrong i [] h = refl
  none_wrong i (b ∷ s) h =
      let e : i + 0 ≡ i = omega arith in
      let t : of_class (f i) b ≡ true = rw e at (h 0 (omega arith)) in
      rw t (none_wrong (suc i) s (λ k l. let e : suc i + k ≡ i + suc k = omega arith in rw e (h (suc k) (omega arith))))

  -- the first that fails stands at place m of what is left
  pub first_wrong : (i : ℕ) (s : List ℕ) (m : ℕ) → m < length s → of_class (f (i + m)) (get_or s m 0) ≡ false
      → ((k : ℕ) → k < m → of_class (f (i + k)) (get_or s k 0) ≡ true) → wrong f i s ≡ Err (At (i + m))
  unfolding wrong pick
  first_wrong i [] m l n h = absurd (not-suc-le-zero l)
  first_wrong i (b ∷ s) zero l n h =
      let e : i + 0 ≡ i = omega arith in
      let t : of_class (f i) b ≡ false = rw e at n in
      rw (t, e) refl
  first_wrong i (b ∷ s) (suc m) l n h =
      let e : i + 0 ≡ i = omega arith in
      let t : of_class (f i) b ≡ true = rw e at (h 0 (omega arith)) in
      let g : suc i + m ≡ i + suc m = omega arith in
      rw t
      (first_wrong (suc i) s m (le_of_suc-le-suc l) (rw g n) (λ k l. let e : suc i + k ≡ i + suc k = omega arith in rw e (h (suc k) (omega arith)))
      ∙ rw g refl)

  first_at : (s : List ℕ) (m : ℕ) → m < length s → of_class (f m) (get_or s m 0) ≡ false → ((k : ℕ) → k < m → of_class (f k) (get_or s k 0) ≡ true)
      → Err (At m) ≡ wrong f 0 s
  first_at s m l n h =
      let z : 0 + m ≡ m = omega arith in
      sym (first_wrong 0 s m l (rw z n) (λ k j. let y : 0 + k ≡ k = omega arith in rw y (h k j)) ∙ rw z refl)

-- the first that fails, as a search answers
abbrev pub Found : {X : Type 0} → (X → Bool) → List X → Option ℕ → Type 0
Found {X} test xs r =
    MatchOption r (AllWithin (λ x. test x ≡ true) xs 0 (length xs))
    (λ k. (k < length xs) × HoldsAt (λ x. test x ≡ false) xs k × AllWithin (λ x. test x ≡ true) xs 0 k)

none_found : {X : Type 0} (test : X → Bool) (xs : List X) (r : Option ℕ) → Found test xs r → ((k : ℕ) → r ≡ Some k → ⊥)
    → AllWithin (λ x. test x ≡ true) xs 0 (length xs)
none_found test xs None f n = f
none_found test xs (Some k) f n = absurd (n k refl)

-- a class and a byte
abbrev pub fits_class : ℕ × ℕ → Bool
fits_class p = of_class p.0 p.1

zip_at : (h s : List ℕ) (k : ℕ) (d : ℕ × ℕ) → k < length h → k < length s → get_or (zip h s) k d ≡ (get_or h k 0, get_or s k 0)
zip_at [] s k d l m = absurd (not-suc-le-zero l)
zip_at (a ∷ h) [] k d l m = absurd (not-suc-le-zero m)
zip_at (a ∷ h) (b ∷ s) zero d l m = refl
zip_at (a ∷ h) (b ∷ s) (suc k) d l m = zip_at h s k d (le_of_suc-le-suc l) (le_of_suc-le-suc m)

module _ (h : List ℕ) (r : ℕ) (s : List ℕ) where
  ends : (k : ℕ) → k < length (zip h s) → (k < length h) × (k < length s)
  ends k l = let e = length-zip h s in (omega arith, omega arith)

  -- what is known of a pair is known of the text's byte
  pair : (k : ℕ) (t : Bool) → k < length (zip h s) → ((d : ℕ × ℕ) → fits_class (get_or (zip h s) k d) ≡ t) → of_class (class_at h r k) (get_or s k 0) ≡ t
  pair k t l p =
      let e = ends k l in
      ap (λ c. of_class c (get_or s k 0)) (get_d_any h k r 0 e.0) ∙ rw (zip_at h s k (0, 0) e.0 e.1) at (p (0, 0))

  module _ {q : Option ℕ} (f : Found fits_class (zip h s) q) where
    pub in_head : (k : ℕ) → q ≡ Some k → Err (At k) ≡ wrong (class_at h r) 0 s
    in_head k e =
        let p = if_some _ _ k e f in
        first_at (class_at h r) s k (ends k p.0).1 (pair k false p.0 p.1) (λ j l. pair j true (omega (arith, p.0)) (λ d. p.2 j d (omega arith) l))

    module _ (none : (k : ℕ) → q ≡ Some k → ⊥) (front : ℕ) (size : front ≡ min (length h) (length s)) where
      -- within the head
      before : (k : ℕ) → k < front → of_class (class_at h r k) (get_or s k 0) ≡ true
      before k l =
          let n : k < length (zip h s) = omega (arith, length-zip h s) in
          pair k true n (λ d. none_found fits_class (zip h s) q f none k d (omega arith) n)

      -- behind it
      behind : (k : ℕ) (t : Bool) → k < length (drop front s) → ((d : ℕ) → of_class r (get_or (drop front s) k d) ≡ t)
          → of_class (class_at h r (front + k)) (get_or s (front + k) 0) ≡ t
      behind k t l p =
          rw (get_or-eq_default h r (let z : length h ≤ front + k = omega (arith, length-drop front s) in z)) (rw (get_or-drop front s k 0) at (p 0))

      each : (m : ℕ) → m ≤ length (drop front s) → AllWithin (λ b. of_class r b ≡ true) (drop front s) 0 m
          → (k : ℕ) → k < front + m → of_class (class_at h r k) (get_or s k 0) ≡ true
      each m n a k l = go (leb front k) refl
        where
          go : (t : Bool) → leb front k ≡ t → of_class (class_at h r k) (get_or s k 0) ≡ true
          go true g =
              let j = leb-true front k g in
              let z : front + (k - front) ≡ k = omega arith in
              let y : k - front < m = omega arith in
              rw z at (behind (k - front) true (omega arith) (λ d. a (k - front) d (omega arith) y))
          go false g = before k (leb-false front k g)

      module _ {t : Option ℕ} (g : Found (of_class r) (drop front s) t) where
        pub in_rest : (k : ℕ) → t ≡ Some k → Err (At (front + k)) ≡ wrong (class_at h r) 0 s
        in_rest k e =
            let p = if_some _ _ k e g in
            first_at (class_at h r) s (front + k) (omega (arith, p.0, length-drop front s)) (behind k false p.0 p.1) (each k (omega (arith, p.0)) p.2)

        pub nowhere : t ≡ None → Ok tt ≡ wrong (class_at h r) 0 s
        nowhere e =
            sym
            (none_wrong (class_at h r) 0 s
            (λ k l.
            let z : 0 + k ≡ k = omega arith in
            rw z (each (length (drop front s)) (omega arith) (if_none _ _ e g) k (omega (arith, length-drop front s)))))
