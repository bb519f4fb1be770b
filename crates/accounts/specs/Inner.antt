-- What inner functions promise on the way; no rule cites this: what a step of the remainder keeps.
use Rattle.std.specs.Prelude.{◌≡◌, List, ◌++◌, ℕ, ◌+◌, ◌*◌, ◌%◌, ◌^◌, length}
use Rattle.figures.specs.Total.{number}
use Rattle.accounts.specs.Spelled.{value_of, written}

-- what the digits of r, followed by the digits ds, leave by 97
unfoldable pub after : ℕ → List ℕ → ℕ
after r ds = (r * 10 ^ length ds + number ds) % 97

-- r stands for what acc and the byte b after it stand for, whatever follows
pub record Steps (acc b r : ℕ) : Type 0 where
  pub on : (ds : List ℕ) → after r ds ≡ after acc (written (value_of b) ++ ds)
