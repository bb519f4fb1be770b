-- A byte of 0x21 to 0x7F is a code point by itself, and not white; the space is one, and is.
use mathlib.Core.Path.{◌≡◌, refl, sym}
use mathlib.Core.List.{List, [], ◌∷◌}
use mathlib.Core.Bool.{true, false}
use Prim.Native.Nat.{ℕ, ◌≤◌}
use lib.ListN.{length, get_or}
use borrow.Author.Tests.{tests}
use Rattle.std.proofs.Common.{arith}
use Rattle.ascii.specs.Class.{within, among}
use Rattle.ascii.proofs.Class.{bounds}
use Rattle.text.specs.Utf8.{point, step_of}
use Rattle.text.specs.White.{white_points, is_white}
use Rattle.text.proofs.Rows.{row_1}

pub dark_byte : (b : ℕ) → within 0x21 0x7f b ≡ true → is_white b ≡ false
unfolding is_white white_points among
dark_byte b e = let r = bounds 0x21 0x7f b e in grind (arith, tests)

pub dark_step : (b : ℕ) (l : List ℕ) → within 0x21 0x7f b ≡ true → point b 1 ≡ step_of (b ∷ l)
dark_step b l e = let r = bounds 0x21 0x7f b e in sym (row_1 b l r.1)

-- the space is a code point by itself, and white

pub space_white : is_white 0x20 ≡ true
unfolding is_white white_points among
space_white = refl

pub space_step : (l : List ℕ) → 1 ≤ length l → get_or l 0 0 ≡ 0x20 → point 0x20 1 ≡ step_of l
space_step [] h e = absurd (omega arith)
space_step (b ∷ l) h e = rw e (sym (row_1 0x20 l (omega arith)))
