-- An area that a caller lends, and texts that stand in it.
use Rattle.std.specs.Prelude.{◌≡◌, List, [], ◌∷◌, ◌++◌, ℕ, ◌+◌, ◌≤◌, length, take, drop}

-- an area with the entries b from place `at` on; every other entry stays
unfoldable pub put : List ℕ → ℕ → List ℕ → List ℕ
put area at b = take at area ++ (b ++ drop (at + length b) area)

-- `old` has become `new`: b stands from `at` on and ends at `end`, every other entry stays; b has at most `most` entries
pub record Put (most : ℕ) (old : List ℕ) (at : ℕ) (b : List ℕ) (end : ℕ) (new : List ℕ) : Type 0 where
  pub now : new ≡ put old at b
  pub ends : end ≡ at + length b
  pub few : length b ≤ most

-- texts one after another
unfoldable pub joined : List (List ℕ) → List ℕ
joined [] = []
joined (s ∷ ss) = s ++ joined ss
