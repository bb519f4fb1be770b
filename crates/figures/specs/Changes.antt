-- Numbers with a mistake in them, and what a rule makes of it.
use Rattle.std.specs.Prelude.{◌≡◌, Bool, true, false, ◌&&◌, ◌||◌, List, ℕ, ◌+◌, ◌<◌, eqb, length, get_or, set}
use Rattle.figures.specs.Total.{digit_at}

-- the digits at i and i + 1 exchanged (the one at i replaced by v is `set s i v`)
abbrev pub exchanged : List ℕ → ℕ → List ℕ
exchanged s i = set (set s i (get_or s (i + 1) 0)) (i + 1) (get_or s i 0)

-- an accepted number with one digit replaced by another, or by any other byte, is refused
abbrev pub RefusesReplaced : (List ℕ → Bool) → Type 0
RefusesReplaced accepts =
    (s : List ℕ) (i v : ℕ) → accepts s ≡ true → i < length s → (get_or s i 0 ≡ v → ⊥) → accepts (set s i v) ≡ false

-- an accepted number with two unequal neighbours exchanged is accepted exactly where `stays` holds of the two digits
abbrev pub AcceptsExchanged : (List ℕ → Bool) → (ℕ → ℕ → Bool) → Type 0
AcceptsExchanged accepts stays =
    (s : List ℕ) (i : ℕ) → accepts s ≡ true → i + 1 < length s → (get_or s i 0 ≡ get_or s (i + 1) 0 → ⊥)
    → accepts (exchanged s i) ≡ stays (digit_at s i) (digit_at s (i + 1))

abbrev pub never : ℕ → ℕ → Bool
never a b = false

abbrev pub by_five : ℕ → ℕ → Bool
by_five a b = eqb a (b + 5) || eqb b (a + 5)

abbrev pub zero_and_nine : ℕ → ℕ → Bool
zero_and_nine a b = eqb a 0 && eqb b 9 || eqb a 9 && eqb b 0
