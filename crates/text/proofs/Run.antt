-- A run of bytes that goes to the area one by one.
use mathlib.Core.Path.{◌≡◌, refl, sym, ap, ◌∙◌}
use mathlib.Core.List.{List, [], ◌∷◌, ◌++◌}
use mathlib.Core.Bool.{Bool, true}
use Prim.Native.Nat.{ℕ, ◌+◌, ◌≤◌, ◌<◌}
use native.Mathlib.Numerals.{add-one}
use native.Mathlib.Omega.{arith}
use lib.ListN.{length, take, get_or, set}
use lib.Seq.{length-take-le, take-suc}
use Rattle.ascii.specs.Area.{put}
use Rattle.ascii.specs.Class.{all, within}
use Rattle.ascii.proofs.Area.{put_nil, put_sets, put_then, length_put}
use Rattle.ascii.proofs.Class.{all_first, all_rest, all_cons}
use Rattle.text.specs.Inner.{IsRun}

pub run_none : (s old : List ℕ) (n : ℕ) → IsRun s old n 0 old
unfolding all
run_none s old n = record { few = omega arith; dark = refl; stored = sym (put_nil old n) }

all_behind : (p : ℕ → Bool) (l : List ℕ) (b : ℕ) → all p l ≡ true → p b ≡ true → all p (l ++ (b ∷ [])) ≡ true
unfolding all
all_behind p [] b e f = all_cons p b [] f refl
all_behind p (a ∷ l) b e f = all_cons p a (l ++ (b ∷ [])) (all_first p a l e) (all_behind p l b (all_rest p a l e) f)

-- a byte, and others right behind it
pub put_behind : (old : List ℕ) (n b : ℕ) (l : List ℕ) → n + 1 ≤ length old → put (set old n b) (n + 1) l ≡ put old n (b ∷ l)
put_behind old n b l h = ap (λ (a : List ℕ). put a (n + 1) l) (put_sets old n (b ∷ []) h) ∙ put_then old n (b ∷ []) l h

-- one more of the bytes s
pub put_next : (s old out : List ℕ) (n k : ℕ) → out ≡ put old n (take k s) → k < length s → n + k < length old
    → set out (n + k) (get_or s k 0) ≡ put old n (take (k + 1) s)
put_next s old out n k e h f =
    let b = get_or s k 0 in
    let m : length (take k s) ≡ k = length-take-le k s (omega arith) in
    let v : n + length (take k s) ≤ length old = omega arith in
    let w : length (put old n (take k s)) ≡ length old = length_put old n (take k s) v in
    rw (add-one, e, take-suc s k 0 h, put_sets (put old n (take k s)) (n + k) (b ∷ []) (omega arith))
    (rw m at (put_then old n (take k s) (b ∷ []) v))

pub run_next : {s old out : List ℕ} {n k : ℕ} → IsRun s old n k out → k < length s → within 0x21 0x7f (get_or s k 0) ≡ true → n + k < length old
    → IsRun s old n (k + 1) (set out (n + k) (get_or s k 0))
run_next {s} {old} {out} {n} {k} r h e f =
    record {
      few = omega arith;
      dark = rw (add-one, take-suc s k 0 h) (all_behind (within 0x21 0x7f) (take k s) (get_or s k 0) r.dark e);
      stored = put_next s old out n k r.stored h f;
    }
