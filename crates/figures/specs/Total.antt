-- What the digits of a number add up to.
use Rattle.std.specs.Prelude.{List, [], ◌∷◌, ℕ, ◌+◌, ◌-◌, ◌*◌, ◌^◌, length, get_or}

-- the total, where a digit d with k digits to its right adds f k d
abbrev pub total : (ℕ → ℕ → ℕ) → List ℕ → ℕ
total f [] = 0
total f (b ∷ bs) = f (length bs) (b - 48) + total f bs

-- the digit at place i, counted from 0 at the left
abbrev pub digit_at : List ℕ → ℕ → ℕ
digit_at s i = get_or s i 0 - 48

-- the number that decimal digits write
abbrev pub number : List ℕ → ℕ
number s = total (λ k d. 10 ^ k * d) s
