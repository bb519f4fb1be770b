-- What the code finds its answers from. No rule cites this; that it says what the rules say is proved.
use Rattle.std.specs.Prelude.{Bool, false, not, ◌&&◌, Result, Ok, Err, ⊤, List, [], ◌∷◌, ◌++◌, ℕ, zero, suc, ◌+◌, ◌*◌, ◌/◌, ◌%◌, ◌==◌, nat_le, length, get_or}
use Rattle.ascii.specs.Pick.{pick}
use Rattle.answer.specs.declared.reason.Reason.{Reason}
use Rattle.answer.specs.declared.reason.Reason.TheVariants.{Zero, NoFigure}
use Rattle.forms.specs.Form.{Form, fault_of}
use Rattle.forms.specs.declared.form.Fault.{Fault}
use Rattle.forms.specs.declared.form.Fault.TheVariants.{Length}
use Rattle.figures.specs.Total.{total}
use Rattle.figures.specs.Figures.{Figure, weight_at, counted, figure, figure40, figure41, belgian_pair, luhn, figure50}
use Rattle.figures.specs.Completing.{complement, abn_pair}
use Rattle.figures.specs.declared.kind.Kind.{Kind}
use Rattle.figures.specs.declared.kind.Kind.TheVariants.{Mod10, Mod11, Mod97, Luhn, Mod89}

-- the powers of ten
abbrev pub powers : List ℕ
powers =
    1 ∷ 10 ∷ 100 ∷ 1000 ∷ 10000 ∷ 100000 ∷ 1000000 ∷ 10000000 ∷ 100000000 ∷ 1000000000 ∷ []

-- how the digits of a number add up; for 0208 the total is the number itself
abbrev pub figure_by : Kind → Figure
figure_by Mod10 = figure40
figure_by Mod11 = figure41
figure_by Mod97 = figure false powers 97
figure_by Luhn = luhn
figure_by Mod89 = figure50

-- the weight of a digit with k digits to its right: two weights alternate for ever, a table has one for each digit of a number, and past it 0
abbrev pub weight_by : Kind → ℕ → ℕ
weight_by Mod10 k = weight_at (figure_by Mod10).weights k
weight_by Mod11 k = get_or (figure_by Mod11).weights k 0
weight_by Mod97 k = get_or (figure_by Mod97).weights k 0
weight_by Luhn k = weight_at (figure_by Luhn).weights k
weight_by Mod89 k = get_or (figure_by Mod89).weights k 0

-- the weights of n places, from the right
unfoldable pub placed : ℕ → (ℕ → ℕ) → List ℕ
placed zero weight = []
placed (suc n) weight = placed n weight ++ (weight n ∷ [])

-- whether a number of the right form is accepted, by its total
abbrev pub total_passes : Kind → ℕ → Bool
total_passes Mod10 t = t % figure40.modulus == 0
total_passes Mod11 t = not (t == 0) && t % figure41.modulus == 0
total_passes Mod97 t = t % 100 == belgian_pair (t / 100)
total_passes Luhn t = t % luhn.modulus == 0
total_passes Mod89 t = t % figure50.modulus == 10

-- the check figure, by a body's total; 10 where a body of 0192 has none
abbrev pub lacking : Kind → ℕ → ℕ
lacking Mod10 t = complement figure40.modulus t
lacking Mod11 t = complement figure41.modulus t
lacking Mod97 t = belgian_pair t
lacking Luhn t = complement luhn.modulus t
lacking Mod89 t = abn_pair t

-- the same, or why there is none: ZERO for a total of 0192 that is 0, NO_FIGURE where its check would be 10
abbrev pub figure_for : Kind → ℕ → Result ℕ Reason
figure_for Mod10 t = Ok (lacking Mod10 t)
figure_for Mod11 t = pick (t == 0) (Err Zero) (pick (lacking Mod11 t == 10) (Err NoFigure) (Ok (lacking Mod11 t)))
figure_for Mod97 t = Ok (lacking Mod97 t)
figure_for Luhn t = Ok (lacking Luhn t)
figure_for Mod89 t = Ok (lacking Mod89 t)

-- what the digit d adds by the weights of the places, with k digits and `after` more to come to its right
abbrev pub adds_from : ℕ → Bool → List ℕ → ℕ → ℕ → ℕ
adds_from after fold places k d = counted fold (get_or places (k + after) 0 * d)

-- a total, where nothing is wrong with the form
abbrev pub summed : Result ⊤ Fault → ℕ → Result ℕ Fault
summed (Ok fit) t = Ok t
summed (Err fault) t = Err fault

-- the form of a number and then its total, by the weights of the places and with `after` digits still to come; LENGTH too where these are
-- more digits than places
unfoldable pub summed_by : Bool → List ℕ → Form → ℕ → List ℕ → Result ℕ Fault
summed_by fold places form after s =
    pick (nat_le (length s + after) (length places)) (summed (fault_of form s) (total (adds_from after fold places) s)) (Err Length)
