-- A check figure is data: weights, and a modulus of which the weighted total is a multiple.
use Rattle.std.specs.Prelude.{Bool, true, false, List, [], ◌∷◌, ℕ, ◌+◌, ◌-◌, ◌*◌, ◌/◌, ◌%◌, eqb, length, get_or}
use Rattle.figures.specs.Total.{total}

pub record Figure : Type 0 where
  -- whether a product counts by the sum of its digits
  pub fold : Bool
  -- from the right, over and over
  pub weights : List ℕ
  pub modulus : ℕ

abbrev pub figure : Bool → List ℕ → ℕ → Figure
figure fold weights modulus = record { fold = fold; weights = weights; modulus = modulus }

-- the weight of a digit with k digits to its right
abbrev pub weight_at : List ℕ → ℕ → ℕ
weight_at ws k = get_or ws (k % length ws) 0

-- a product as it counts
abbrev pub counted : Bool → ℕ → ℕ
counted true n = n / 10 + n % 10
counted false n = n

-- what the digit d adds with k digits to its right
abbrev pub adds : Bool → List ℕ → ℕ → ℕ → ℕ
adds fold ws k d = counted fold (weight_at ws k * d)

abbrev pub total_by : Figure → List ℕ → ℕ
total_by f s = total (adds f.fold f.weights) s

abbrev pub right : Figure → List ℕ → Bool
right f s = eqb (total_by f s % f.modulus) 0

-- 40: the check digit weighs 1, the digit before it 3, and so on in turn; a multiple of 10 (GS1)
abbrev pub figure40 : Figure
figure40 = figure false (1 ∷ 3 ∷ []) 10

-- 41: the check digit weighs 1, those before it 2 to 7 and again 2, 3; a multiple of 11
abbrev pub figure41 : Figure
figure41 = figure false (1 ∷ 2 ∷ 3 ∷ 4 ∷ 5 ∷ 6 ∷ 7 ∷ 2 ∷ 3 ∷ []) 11

-- 43: the pair of a body, 97 minus what the body leaves by 97, so that it runs from 01 to 97
abbrev pub belgian_pair : ℕ → ℕ
belgian_pair n = 97 - n % 97

-- 47, 49: every second digit doubled, with the digits of the double added; a multiple of 10 (Luhn, ISO/IEC 7812-1)
abbrev pub luhn : Figure
luhn = figure true (1 ∷ 2 ∷ []) 10

-- 50: weights 10, 1, 3 .. 19 from the left; of the total with the first digit reduced by one, a multiple of 89
abbrev pub figure50 : Figure
figure50 = figure false (19 ∷ 17 ∷ 15 ∷ 13 ∷ 11 ∷ 9 ∷ 7 ∷ 5 ∷ 3 ∷ 1 ∷ 10 ∷ []) 89
