-- What the code's inner functions promise. No rule cites this.
use Rattle.std.specs.Prelude.{◌≡◌, Option, Some, None, Ok, List, [], ◌∷◌, ℕ}
use Rattle.forms.specs.Form.{fault_of}
use Rattle.figures.specs.Figures.{Figure, adds, total_by}
use Rattle.figures.specs.Inner.{figure_by, weight_by, placed}
use Rattle.corrections.specs.declared.five.Five.{Five}
use Rattle.corrections.specs.Five.{row, number_form}
use Rattle.corrections.specs.Corrections.{replaced}

-- how the digits of a number add up
abbrev pub adds_by : Five → Figure
adds_by k = figure_by (row k).figure

-- what the digit d adds with j digits to its right
abbrev pub sharing : Five → ℕ → ℕ → ℕ
sharing k j d = adds (adds_by k).fold (adds_by k).weights j d

-- the weights of its places, of which there are at most 20
abbrev pub places_of : Five → List ℕ
places_of k = placed 20 (weight_by (row k).figure)

-- a number of the right form, and its total
pub record Summed (k : Five) (s : List ℕ) (sum : ℕ) : Type 0 where
  pub formed : fault_of (number_form k) s ≡ Ok tt
  pub sum_is : sum ≡ total_by (adds_by k) s

-- the number with the digit that was found for place i, if there is one
abbrev pub mended : List ℕ → ℕ → Option ℕ → List (List ℕ)
mended s i None = []
mended s i (Some d) = replaced s i d ∷ []
