-- Laws of areas: entries that stand at a place. Assumes nothing.
use mathlib.Core.Path.{◌≡◌, sym, ap, ◌∙◌}
use mathlib.Core.List.{List, [], ◌++◌, append_assoc}
use Prim.Native.Nat.{ℕ, ◌+◌, ◌≤◌}
use native.Mathlib.Nat.{add-zero, zero-add}
use native.Mathlib.Omega.{arith}
use lib.ListN.{length, take, drop, length-append, length-take, length-drop, take-append-drop}
use lib.Seq.{take_at, drop_at, drop-drop, length-take-le, sets, sets-eq, paste}
use Rattle.ascii.specs.Area.{put, Put}

pub put_nil : (a : List ℕ) (at : ℕ) → put a at [] ≡ a
unfolding put
put_nil a at = simp (add-zero) (take-append-drop at a)

-- at the start
pub put_start : (a b : List ℕ) → put a 0 b ≡ b ++ drop (length b) a
unfolding put
put_start a b = simp zero-add

-- entries, and then others right behind them
pub put_then : (a : List ℕ) (at : ℕ) (x y : List ℕ) → at + length x ≤ length a → put (put a at x) (at + length x) y ≡ put a at (x ++ y)
unfolding put
put_then a at x y h =
    let p = take at a in
    let d = drop (at + length x) a in
    let lp : length p ≡ at = length-take-le at a (omega arith) in
    let lx : length (p ++ x) ≡ at + length x = length-append p x ∙ ap (λ (k : ℕ). k + length x) lp in
    let e : p ++ (x ++ d) ≡ (p ++ x) ++ d = sym (append_assoc p x d) in
    let f : drop (at + length x + length y) ((p ++ x) ++ d) ≡ drop (at + length x + length y) a =
    sym (drop-drop (length y) (at + length x) ((p ++ x) ++ d)) ∙ ap (drop (length y)) (drop_at (p ++ x) d (at + length x) lx) ∙ drop-drop (length y) (at + length x) a in
    let g : at + length x + length y ≡ at + length (x ++ y) = simp length-append (omega arith) in
    rw (e, take_at (p ++ x) d (at + length x) lx, f, g) (simp append_assoc)

pub length_put : (a : List ℕ) (at : ℕ) (b : List ℕ) → at + length b ≤ length a → length (put a at b) ≡ length a
unfolding put
length_put a at b h = simp (length-append, length-take, length-drop) (omega arith)

-- what a run of stores leaves
pub put_sets : (a : List ℕ) (at : ℕ) (b : List ℕ) → at + length b ≤ length a → sets a at b ≡ put a at b
unfolding put
put_sets a at b h = sets-eq b a at h ∙ append_assoc (take at a) b (drop (at + length b) a)

-- what a copy of n entries leaves
pub put_paste : (a : List ℕ) (at : ℕ) (s : List ℕ) (n : ℕ) → n ≤ length s → paste a at s n ≡ put a at (take n s)
unfolding put
put_paste a at s n h =
    let e : length (take n s) ≡ n = length-take-le n s h in
    rw e (append_assoc (take at a) (take n s) (drop (at + n) a))

-- ---- the record

module _ {most : ℕ} {old : List ℕ} {at : ℕ} {b : List ℕ} {end : ℕ} {new : List ℕ} (p : Put most old at b end new) where
  -- the area keeps its length
  pub put_size : at + length b ≤ length old → length new ≡ length old
  put_size h = ap length p.now ∙ length_put old at b h

  -- and then entries right behind
  pub put_more : {m : ℕ} {c : List ℕ} {end2 : ℕ} {new2 : List ℕ} → Put m new end c end2 new2 → at + length b ≤ length old → Put (most + m) old at (b ++ c) end2 new2
  put_more {m} {c} {end2} {new2} q h = record {
    now = q.now ∙ rw (p.now, p.ends) (put_then old at b c h);
    ends = rw (length-append b c) (omega (arith, p.ends, q.ends));
    few = rw (length-append b c) (omega (arith, p.few, q.few));
  }

  -- what is left behind it
  pub put_room : (left : ℕ) → at + (most + left) ≤ length old → end + left ≤ length new
  put_room left h = omega (arith, p.ends, p.few, put_size (omega (arith, p.few)))

  -- what `&new[..end]` is, and asks of its caller
  pub put_front : at ≡ 0 → take end new ≡ b
  put_front z =
      let e : end ≡ length b = rw z at p.ends ∙ zero-add (length b) in
      rw (p.now, z, put_start old b) (take_at b (drop (length b) old) end (sym e))

  -- with another bound
  pub put_most : {bound : ℕ} → length b ≤ bound → Put bound old at b end new
  put_most h = record { now = p.now; ends = p.ends; few = h }

-- stores one behind the other
pub put_stores : {most : ℕ} {old : List ℕ} {at : ℕ} {b : List ℕ} {end : ℕ} {new : List ℕ}
    → new ≡ sets old at b → end ≡ at + length b → length b ≤ most → at + length b ≤ length old → Put most old at b end new
put_stores {most} {old} {at} {b} e f g h = record { now = e ∙ put_sets old at b h; ends = f; few = g }

-- nothing
pub put_none : (most : ℕ) (a : List ℕ) (at : ℕ) → Put most a at [] at a
put_none most a at = record { now = sym (put_nil a at); ends = omega arith; few = omega arith }
