-- The rows of RFC 3629's table as laws of `step_of`, `two`, `three` and `four`, each under the tests that pick it.
use mathlib.Core.Path.{◌≡◌, refl, ◌∙◌}
use mathlib.Core.List.{List, [], ◌∷◌}
use mathlib.Core.Bool.{true, false, ◌&&◌}
use mathlib.Core.Logic.{◌⊎◌, inl, inr}
use Prim.Native.Nat.{ℕ, ◌+◌, ◌*◌, ◌%◌, ◌≤◌, ◌<◌}
use native.Mathlib.Omega.{arith}
use lib.ListN.{length, get_or, drop, drop_of_length-le}
use Rattle.ascii.proofs.Class.{inside, below, above}
use borrow.Author.Tests.{ltb-true}
use lib.Dec.{ltb}
use Rattle.std.specs.Prelude.{None}
use Rattle.ascii.specs.Class.{within}
use Rattle.ascii.specs.Pick.{pick}
use Rattle.text.specs.Utf8.{point, two, three, four, step_of}

-- a byte from n on is past every row that ends before n
past : (a n : ℕ) → n ≤ a → (low high : ℕ) → ltb high n ≡ true → within low high a ≡ false
past a n h low high e = let k = ltb-true high n e in above low high a (omega arith)

module _ (a : ℕ) (l : List ℕ) where
  pub row_1 : a ≤ 0x7f → step_of (a ∷ l) ≡ point a 1
  unfolding step_of pick
  row_1 h = rw (inside 0 0x7f a (omega arith) h)

  pub row_gap : 0x7f < a → a < 0xc2 → step_of (a ∷ l) ≡ None
  unfolding step_of pick
  row_gap h k =
      let before : (low high : ℕ) → 0xc2 ≤ low → within low high a ≡ false = λ low high j. below low high a (omega arith) in
      rw (above 0 0x7f a h, before 0xc2 0xdf (omega arith), before 0xe0 0xe0 (omega arith), before 0xe1 0xec (omega arith))
      (rw (before 0xed 0xed (omega arith), before 0xee 0xef (omega arith), before 0xf0 0xf0 (omega arith), before 0xf1 0xf3 (omega arith))
      (rw (before 0xf4 0xf4 (omega arith))))

  pub row_2 : 0xc2 ≤ a → a ≤ 0xdf → step_of (a ∷ l) ≡ two a l
  unfolding step_of pick
  row_2 h k = rw (above 0 0x7f a (omega arith), inside 0xc2 0xdf a h k)

  pub row_e0 : a ≡ 0xe0 → step_of (a ∷ l) ≡ three a 0xa0 0xbf l
  unfolding step_of within pick
  row_e0 e = rw e

  pub row_e1 : 0xe1 ≤ a → a ≤ 0xec → step_of (a ∷ l) ≡ three a 0x80 0xbf l
  unfolding step_of pick
  row_e1 h k = let p = past a 0xe1 h in rw (p 0 0x7f refl, p 0xc2 0xdf refl, p 0xe0 0xe0 refl, inside 0xe1 0xec a h k)

  pub row_ed : a ≡ 0xed → step_of (a ∷ l) ≡ three a 0x80 0x9f l
  unfolding step_of within pick
  row_ed e = rw e

  pub row_ee : 0xee ≤ a → a ≤ 0xef → step_of (a ∷ l) ≡ three a 0x80 0xbf l
  unfolding step_of pick
  row_ee h k =
      let p = past a 0xee h in
      rw (p 0 0x7f refl, p 0xc2 0xdf refl, p 0xe0 0xe0 refl, p 0xe1 0xec refl, p 0xed 0xed refl, inside 0xee 0xef a h k)

  pub row_f0 : a ≡ 0xf0 → step_of (a ∷ l) ≡ four a 0x90 0xbf l
  unfolding step_of within pick
  row_f0 e = rw e

  -- the rows before that of 0xf1
  past_f0 : 0xf1 ≤ a → step_of (a ∷ l) ≡ pick (within 0xf1 0xf3 a) (four a 0x80 0xbf l) (pick (within 0xf4 0xf4 a) (four a 0x80 0x8f l) None)
  unfolding step_of pick
  past_f0 h =
      let p = past a 0xf1 h in
      rw (p 0 0x7f refl, p 0xc2 0xdf refl, p 0xe0 0xe0 refl, p 0xe1 0xec refl, p 0xed 0xed refl, p 0xee 0xef refl, p 0xf0 0xf0 refl)

  pub row_f1 : 0xf1 ≤ a → a ≤ 0xf3 → step_of (a ∷ l) ≡ four a 0x80 0xbf l
  unfolding pick
  row_f1 h k = past_f0 h ∙ rw (inside 0xf1 0xf3 a h k)

  pub row_f4 : a ≡ 0xf4 → step_of (a ∷ l) ≡ four a 0x80 0x8f l
  unfolding step_of within pick
  row_f4 e = rw e

  pub row_f5 : 0xf4 < a → step_of (a ∷ l) ≡ None
  unfolding pick
  row_f5 h = past_f0 (omega arith) ∙ rw (above 0xf1 0xf3 a (omega arith), above 0xf4 0xf4 a h)

-- all but the first
pub ruleset rows = (row_gap, row_2, row_e0, row_e1, row_ed, row_ee, row_f0, row_f1, row_f4, row_f5)

-- no bytes begin with a code point
pub past_end : (s : List ℕ) (at : ℕ) → (length s < at) ⊎ (length s < length s) → None ≡ step_of (drop at s)
unfolding step_of
past_end s at (inl h) = let k : length s ≤ at = omega arith in rw (drop_of_length-le s k)
past_end s at (inr h) = absurd (omega arith)

-- What follows a first byte, by the bytes that stand there.
module _ (a : ℕ) where
  pub two_good : (l : List ℕ) (x y : ℕ) → 1 ≤ length l → within 0x80 0xbf (get_or l 0 0) ≡ true → x ≡ a → y ≡ get_or l 0 0
      → point (x % 32 * 64 + y % 64) 2 ≡ two a l
  unfolding two pick
  two_good [] x y h e p q = absurd (omega arith)
  two_good (b ∷ l) x y h e p q = rw (e, p, q)

  pub two_bad : (l : List ℕ) → 1 ≤ length l → within 0x80 0xbf (get_or l 0 0) ≡ false → None ≡ two a l
  unfolding two pick
  two_bad [] h e = absurd (omega arith)
  two_bad (b ∷ l) h e = rw e

  module _ (low high : ℕ) where
    pub three_good : (l : List ℕ) (x y z : ℕ) → 2 ≤ length l → within low high (get_or l 0 0) && within 0x80 0xbf (get_or l 1 0) ≡ true
        → x ≡ a → y ≡ get_or l 0 0 → z ≡ get_or l 1 0 → point (x % 16 * 4096 + y % 64 * 64 + z % 64) 3 ≡ three a low high l
    unfolding three pick
    three_good [] x y z h e p q r = absurd (omega arith)
    three_good (b ∷ []) x y z h e p q r = absurd (omega arith)
    three_good (b ∷ c ∷ l) x y z h e p q r = rw (e, p, q, r)

    pub three_bad : (l : List ℕ) → 2 ≤ length l → within low high (get_or l 0 0) && within 0x80 0xbf (get_or l 1 0) ≡ false → None ≡ three a low high l
    unfolding three pick
    three_bad [] h e = absurd (omega arith)
    three_bad (b ∷ []) h e = absurd (omega arith)
    three_bad (b ∷ c ∷ l) h e = rw e

    pub four_good : (l : List ℕ) (x y z w : ℕ) → 3 ≤ length l
        → within low high (get_or l 0 0) && within 0x80 0xbf (get_or l 1 0) && within 0x80 0xbf (get_or l 2 0) ≡ true
        → x ≡ a → y ≡ get_or l 0 0 → z ≡ get_or l 1 0 → w ≡ get_or l 2 0
        → point (x % 8 * 262144 + y % 64 * 4096 + z % 64 * 64 + w % 64) 4 ≡ four a low high l
    unfolding four pick
    four_good [] x y z w h e p q r t = absurd (omega arith)
    four_good (b ∷ []) x y z w h e p q r t = absurd (omega arith)
    four_good (b ∷ c ∷ []) x y z w h e p q r t = absurd (omega arith)
    four_good (b ∷ c ∷ d ∷ l) x y z w h e p q r t = rw (e, p, q, r, t)

    pub four_bad : (l : List ℕ) → 3 ≤ length l
        → within low high (get_or l 0 0) && within 0x80 0xbf (get_or l 1 0) && within 0x80 0xbf (get_or l 2 0) ≡ false → None ≡ four a low high l
    unfolding four pick
    four_bad [] h e = absurd (omega arith)
    four_bad (b ∷ []) h e = absurd (omega arith)
    four_bad (b ∷ c ∷ []) h e = absurd (omega arith)
    four_bad (b ∷ c ∷ d ∷ l) h e = rw e
