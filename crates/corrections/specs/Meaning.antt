-- What completing and listing mean, said without them.
use Rattle.std.specs.Prelude.{◌≡◌, true, false, Some, None, ◌↔◌, ◌⊎◌, ℕ, length, slice_index}
use Rattle.std.specs.Prelude.{◌+◌, ◌-◌, ◌*◌, ◌≤◌, ◌<◌}
use mathlib.Core.List.{List, [], ◌∷◌, Memᴰ}
use Rattle.text.specs.declared.reading.Reading.TheVariants.{Normalised}
use Rattle.text.specs.Answer.{text_by}
use Rattle.figures.specs.Completing.{Completes}
use Rattle.rules.specs.declared.rule.Rule.{Rule}
use Rattle.rules.specs.Finding.{accepts}
use Rattle.corrections.specs.declared.five.Five.{Five}
use Rattle.corrections.specs.Five.{row, rule_of, five_of}
use Rattle.corrections.specs.Outcome.{success}
use Rattle.corrections.specs.Completing.{figure_for, number_with, no_figure, completing}
use Rattle.ascii.specs.Area.{joined}
use Rattle.corrections.specs.Listing.{room_for, listing}

-- ---- completing

-- ZERO and NO_FIGURE stand exactly when no figure completes the body
abbrev pub NoneCompletes : Five → List ℕ → Type 0
NoneCompletes k body =
    (no_figure k body ≡ None → ⊥)
    ↔ ((y : List ℕ) → length y ≡ length (figure_for k body) → accepts (rule_of k) (number_with k body y) ≡ false)

-- a completion that is done: of one of the five; it writes the figure that completes the body
pub record CompletedAs (scheme body : List ℕ) (room : ℕ) : Type 0 where
  pub kind : Five
  pub known : five_of scheme ≡ Some kind
  pub completed : Completes (accepts (rule_of kind)) (number_with kind body) (row kind).lowest (figure_for kind body)
  pub outcome : completing scheme body room ≡ success (length (figure_for kind body)) (figure_for kind body)

-- ---- listing

-- t differs from s at exactly one place
pub record OneDigit (s t : List ℕ) : Type 0 where
  pub place : ℕ
  pub within : place < length s
  pub other : slice_index t place ≡ slice_index s place → ⊥
  pub rest : (j : ℕ) → (j ≡ place → ⊥) → slice_index t j ≡ slice_index s j

-- t is s with two unequal neighbours exchanged
pub record Neighbours (s t : List ℕ) : Type 0 where
  pub place : ℕ
  pub within : place + 1 < length s
  pub unequal : slice_index s place ≡ slice_index s (place + 1) → ⊥
  pub left : slice_index t place ≡ slice_index s (place + 1)
  pub right : slice_index t (place + 1) ≡ slice_index s place
  pub rest : (j : ℕ) → (j ≡ place → ⊥) → (j ≡ place + 1 → ⊥) → slice_index t j ≡ slice_index s j

-- t is a correction of s: as long, accepted, and one such mistake away
pub record Correction (r : Rule) (s t : List ℕ) : Type 0 where
  pub long : length t ≡ length s
  pub accepted : accepts r t ≡ true
  pub near : OneDigit s t ⊎ Neighbours s t

-- no entry stands twice
abbrev pub Once : List (List ℕ) → Type 0
Once [] = Unit
Once (t ∷ ts) = (Memᴰ t ts → ⊥) × Once ts

-- a list of every correction of s and nothing else, each once, at most 2n - 1, so that the required room suffices
pub record Whole (r : Rule) (s : List ℕ) (entries : List (List ℕ)) : Type 0 where
  pub every : (t : List ℕ) → Memᴰ t entries ↔ Correction r s t
  pub once : Once entries
  pub few : length entries ≤ 2 * length s - 1
  pub room : length (joined entries) ≤ room_for (length s)

-- a listing that is done: of one of the five, of a number that its rule refuses; it counts and writes all its corrections
pub record Listed (scheme content : List ℕ) (room : ℕ) : Type 0 where
  pub kind : Five
  pub known : five_of scheme ≡ Some kind
  pub refused : accepts (rule_of kind) (text_by Normalised content) ≡ false
  pub entries : List (List ℕ)
  pub whole : Whole (rule_of kind) (text_by Normalised content) entries
  pub outcome : listing scheme content room ≡ success (length entries) (joined entries)
