-- The words in which the laws of the normalised and the stripped text are said.
use Rattle.std.specs.Prelude.{◌≡◌, ℕ, suc, ◌<◌, List, [], ◌∷◌, ◌++◌, true, false, length, slice_index}
use Rattle.text.specs.White.{is_white}
use Rattle.text.specs.Content.{Piece}

-- every entry of a list
abbrev pub All : {A : Type 0} → (A → Type 0) → List A → Type 0
All P [] = Unit {0}
All P (x ∷ xs) = P x × All P xs

-- the bytes of points
unfoldable pub bytes_of : List Piece → List ℕ
bytes_of [] = []
bytes_of (p ∷ ps) = p.bytes ++ bytes_of ps

-- a point that is not white
abbrev pub Dark : Piece → Type 0
Dark p = is_white p.code ≡ false

-- at i stands a space, and the points before and behind it are there and are not white
pub record Lone (cs : List ℕ) (i : ℕ) : Type 0 where
  pub space : slice_index cs i ≡ 0x20
  pub prior : ℕ
  pub first : i ≡ suc prior
  pub left : is_white (slice_index cs prior) ≡ false
  pub inner : suc i < length cs
  pub right : is_white (slice_index cs (suc i)) ≡ false

-- so each white point: none stands at an end, no two stand together, and each is a space
abbrev pub Neat : List ℕ → Type 0
Neat cs = (i : ℕ) → i < length cs → is_white (slice_index cs i) ≡ true → Lone cs i
