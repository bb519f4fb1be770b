-- Laws of areas, and of lists made by counting. Assumes nothing.
use mathlib.Core.Path.{◌≡◌, refl, sym, ap, ◌∙◌}
use mathlib.Core.Bool.{Bool, true, false}
use mathlib.Core.List.{List, [], ◌∷◌, ◌++◌, append_assoc, append-nil}
use Prim.Native.Nat.{ℕ, zero, suc, ◌+◌, ◌-◌, ◌*◌, ◌≤◌, ◌<◌}
use native.Mathlib.Nat.{mul-le-mul, mul-le-mul_right, suc-mul, add-mul}
use native.Mathlib.Numerals.{add-one}
use native.Mathlib.Decide.{ℕ_discrete}
use native.Mathlib.Omega.{arith}
use lib.ListN.{length, take, drop, length-append}
use lib.Seq.{drop-drop}
use Rattle.ascii.specs.Area.{joined, put, Put}
use Rattle.ascii.proofs.Area.{put_none, put_more, put_size}
use Rattle.corrections.specs.Corrections.{each, only}

-- ---- joined

pub joined_append : (a b : List (List ℕ)) → joined (a ++ b) ≡ joined a ++ joined b
unfolding joined
joined_append [] b = refl
joined_append (r ∷ rs) b = ap (λ (l : List ℕ). r ++ l) (joined_append rs b) ∙ sym (append_assoc r (joined rs) (joined b))

pub joined_only : (y : Bool) (t : List ℕ) → length (joined (only y t)) ≡ length (only y t) * length t
unfolding joined only
joined_only true t = rw (append-nil) (omega arith)
joined_only false t = omega arith

-- ---- each

pub each_more : {A : Type 0} (n : ℕ) (f : ℕ → List A) → each (n + 1) f ≡ each n f ++ f n
unfolding each
each_more n f = rw add-one

pub each_none : {A : Type 0} (n : ℕ) (f : ℕ → List A) → ((e : ℕ) → e < n → f e ≡ []) → each n f ≡ []
unfolding each
each_none zero f h = refl
each_none (suc n) f h = rw (each_none n f (λ e l. h e (omega arith)), h n (omega arith))

lt_of_ne : (d n : ℕ) → d < suc n → (d ≡ n → ⊥) → d < n
lt_of_ne d n l ne = omega arith

pub each_one : {A : Type 0} (n : ℕ) (f : ℕ → List A) (d : ℕ) → d < n → ((e : ℕ) → e < n → (e ≡ d → ⊥) → f e ≡ []) → each n f ≡ f d
unfolding each
each_one zero f d l h = absurd (omega arith)
each_one (suc n) f d l h =
    elim (ℕ_discrete d n) [
      | yes q ↦ rw (each_none n f (λ e k. h e (omega arith) (λ p. omega arith)), q)
      | no ne ↦ rw (h n (omega arith) (λ p. ne (sym p)), append-nil) (each_one n f d (lt_of_ne d n l ne) (λ e k p. h e (omega arith) p))
    ]

-- rows of n joined, counted
pub rows_append : (a b : List (List ℕ)) (n : ℕ) → length (joined a) ≡ length a * n → length (joined b) ≡ length b * n → length (joined (a ++ b)) ≡ length (a ++ b) * n
rows_append a b n p q = simp (joined_append, length-append, add-mul) (omega arith)

pub each_rows : (m n : ℕ) (f : ℕ → List (List ℕ)) → ((i : ℕ) → i < m → length (joined (f i)) ≡ length (f i) * n)
    → length (joined (each m f)) ≡ length (each m f) * n
unfolding each joined
each_rows zero n f h = omega arith
each_rows (suc m) n f h = rows_append (each m f) (f m) n (each_rows m n f (λ i l. h i (omega arith))) (h m (omega arith))

-- ---- rows in an area

-- a part that was lent at `at`, and came back as t
pub put_slot : (a : List ℕ) (at k : ℕ) (row t : List ℕ) → row ≡ t → k ≡ length t → take at a ++ (row ++ drop k (drop at a)) ≡ put a at t
unfolding put
put_slot a at k row t q z = rw (q, z, drop-drop (length t) at a)

-- one row
pub put_one_row : {n : ℕ} {a : List ℕ} {at : ℕ} {row : List ℕ} {e : ℕ} {x : List ℕ} (rows : List (List ℕ)) (t : List ℕ) → rows ≡ t ∷ [] → row ≡ t → Put n a at row e x → Put n a at (joined rows) e x
unfolding joined
put_one_row rows t r q p = rw (r, append-nil t, ← q) p

-- no row
pub put_no_row : (n : ℕ) (a : List ℕ) (at : ℕ) (rows : List (List ℕ)) → rows ≡ [] → Put n a at (joined rows) at a
unfolding joined
put_no_row n a at rows r = rw r (put_none n a at)

-- ---- a loop that writes the rows of f 0, f 1, .. from `from` on

-- after i turns: at is where the next row goes, and out the area now
pub record Filled (f : ℕ → List (List ℕ)) (n : ℕ) (a : List ℕ) (from i at : ℕ) (out : List ℕ) : Type 0 where
  pub put : Put (i * n) a from (joined (each i f)) at out
  pub long : length out ≡ length a

pub fill_none : (f : ℕ → List (List ℕ)) (n : ℕ) (a : List ℕ) (from : ℕ) → Filled f n a from 0 from a
unfolding each joined
fill_none f n a from = record { put = put_none (0 * n) a from; long = refl }

-- there is room for the next row
module _ (f : ℕ → List (List ℕ)) (n : ℕ) (a : List ℕ) (from i m at : ℕ) (out : List ℕ) (p : Filled f n a from i at out) (h : i < m) (l : from + m * n ≤ length a) where
  pub next_fits : at + n ≤ length out
  next_fits = let q : suc i * n ≤ m * n = mul-le-mul_right n h in omega (arith, suc-mul i n, p.put.ends, p.put.few, p.long)

  pub fill_more : (r : ℕ) (after : List ℕ) → Put n out at (joined (f i)) r after → Filled f n a from (i + 1) r after
  fill_more r after q =
      let e : joined (each (i + 1) f) ≡ joined (each i f) ++ joined (f i) = rw (each_more i f, joined_append (each i f) (f i)) in
      let k : (i + 1) * n ≡ i * n + n = omega (arith, add-mul i 1 n) in
      let w = next_fits in
      record {
        put = rw (e, k) (put_more p.put q (omega (arith, p.put.ends, p.long)));
        long = put_size q (omega (arith, q.few)) ∙ p.long;
      }

pub fill_all : (f : ℕ → List (List ℕ)) (n : ℕ) (a : List ℕ) (from i m at : ℕ) (out : List ℕ) → Filled f n a from i at out → i ≡ m
    → Put (m * n) a from (joined (each m f)) at out
fill_all f n a from i m at out p q = rw q at p.put

pub room_split : (n : ℕ) → 1 ≤ n → (2 * n - 1) * n ≡ n * n + (n - 1) * n
room_split n h = let e : 2 * n - 1 ≡ n + (n - 1) = omega arith in rw (e, add-mul n (n - 1) n)

pub small_joined : (n : ℕ) → n ≤ 20 → (2 * n - 1) * n ≤ 780
small_joined n h = mul-le-mul {n₁ = 2 * n - 1} {m₁ = n} {n₂ = 39} {m₂ = 20} (omega arith) h
