-- The content of a list of bytes is the one way to cut it into well-formed points: what a content's points say of its bytes, and what bytes that are
-- put together from points are read as.
use mathlib.Core.Path.{◌≡◌, refl, sym, ap, subst, ◌∙◌}
use mathlib.Core.List.{List, [], ◌∷◌, ◌++◌}
use Prim.Native.Nat.{ℕ, zero, suc, ◌+◌, ◌-◌}
use native.Mathlib.Nat.{add-zero, add-suc, suc-add}
use native.Mathlib.Omega.{arith}
use lib.ListN.{length, take, drop, take-append-drop}
use lib.Seq.{drop-nil, length-take-le, take-append_seam, drop-append_seam}
use Rattle.text.specs.declared.utf8.Point.{Point}
use Rattle.std.specs.Prelude.{Option, Some, None}
use Rattle.text.specs.Utf8.{point}
use Rattle.text.specs.Utf8.{step_of}
use Rattle.text.specs.Content.{Piece, Content, malformed, content, with_first, on_step, content_from, content_of}
use Rattle.text.specs.Neat.{All, bytes_of}
use Rattle.text.proofs.Points.{point_good, own_bytes, unroll_list}

-- a point that is well-formed: its bytes are read as it, whatever follows
abbrev pub Sound : Piece → Type 0
Sound p = (r : List ℕ) → step_of (p.bytes ++ r) ≡ point p.code (length p.bytes)

-- the points one after another, from place o on
abbrev pub placed : ℕ → List Piece → List Piece
placed o [] = []
placed o (p ∷ ps) = record { at = o; code = p.code; bytes = p.bytes } ∷ placed (o + length p.bytes) ps

-- bytes put together from well-formed points are read as these
pub reread : (ps : List Piece) (o : ℕ) → All Sound ps → content_from o 0 (bytes_of ps) ≡ content (placed o ps)
unfolding content_from bytes_of
reread [] o h = refl
reread (p ∷ ps) o h =
    rw (
      unroll_list o p.code (length p.bytes) (p.bytes ++ bytes_of ps) (sym (h.0 (bytes_of ps))),
      take-append_seam p.bytes (bytes_of ps),
      drop-append_seam p.bytes (bytes_of ps),
      reread ps (o + length p.bytes) h.1,
    )

-- what a content's points are: well-formed, the bytes cut up, and in their places
pub record Read (o : ℕ) (l : List ℕ) (ps : List Piece) : Type 0 where
  pub sound : All Sound ps
  pub bytes : bytes_of ps ≡ l
  pub places : placed o ps ≡ ps

abbrev Told : ℕ → List ℕ → Content → Type 0
Told o l malformed = Unit {0}
Told o l (content ps) = Read o l ps

told_first : (o : ℕ) (l r : List ℕ) (p : Piece) (c : Content) → Sound p → p.bytes ++ r ≡ l → p.at ≡ o
    → Told (o + length p.bytes) r c → Told o l (with_first p c)
unfolding bytes_of
told_first o l r p malformed s e f t = tt
told_first o l r p (content ps) s e f t =
    record {
      sound = (s, t.sound);
      bytes = ap (λ (x : List ℕ). p.bytes ++ x) t.bytes ∙ e;
      places = rw (← f) (ap (λ (qs : List Piece). p ∷ qs) (rw (← f) at t.places));
    }

told_point : (o a : ℕ) (l : List ℕ) (c n : ℕ) → point c n ≡ step_of (a ∷ l) → ((k : ℕ) → Told (suc o + k) (drop k l) (content_from (suc o) k l))
    → Told o (a ∷ l) (with_first (record { at = o; code = c; bytes = take n (a ∷ l) }) (content_from (suc o) (n - 1) l))
told_point o a l c zero e ih = absurd (let h = point_good (a ∷ l) c zero e in omega arith)
told_point o a l c (suc m) e ih =
    let f : suc m - 1 ≡ m = omega arith in
    let g = point_good (a ∷ l) c (suc m) e in
    let n : length (take (suc m) (a ∷ l)) ≡ suc m = length-take-le (suc m) (a ∷ l) g.1 in
    let p : Piece = record { at = o; code = c; bytes = take (suc m) (a ∷ l) } in
    rw f
    (told_first o (a ∷ l) (drop m l) p (content_from (suc o) m l)
    (λ r. own_bytes r (a ∷ l) c (suc m) e ∙ ap (point c) (sym n))
    (ap (λ (x : List ℕ). a ∷ x) (take-append-drop m l)) refl
    (subst (λ (i : ℕ). Told i (drop m l) (content_from (suc o) m l)) (suc-add o m ∙ sym (add-suc o m) ∙ ap (λ (i : ℕ). o + i) (sym n)) (ih m)))

told_step : (o a : ℕ) (l : List ℕ) (x : Option Point) → x ≡ step_of (a ∷ l) → ((k : ℕ) → Told (suc o + k) (drop k l) (content_from (suc o) k l))
    → Told o (a ∷ l) (on_step x (λ c n. with_first (record { at = o; code = c; bytes = take n (a ∷ l) }) (content_from (suc o) (n - 1) l)))
told_step o a l None e ih = tt
told_step o a l (Some p) e ih = told_point o a l p.code p.len e ih

told : (l : List ℕ) (o k : ℕ) → Told (o + k) (drop k l) (content_from o k l)
unfolding content_from bytes_of
told [] o k = record { sound = tt; bytes = sym (drop-nil k); places = refl }
told (a ∷ l) o zero = rw add-zero (told_step o a l (step_of (a ∷ l)) refl (told l (suc o)))
told (a ∷ l) o (suc k) = rw (add-suc, ← suc-add) (told l (suc o) k)

pub read : (s : List ℕ) (ps : List Piece) → content_of s ≡ content ps → Read 0 s ps
unfolding content_of
read s ps e = subst (Told 0 s) e (told s 0 0)
