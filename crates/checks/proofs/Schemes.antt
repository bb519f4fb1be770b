-- A scheme by its length and its bytes. Assumes nothing.
use mathlib.Core.Path.{◌≡◌, ap}
use mathlib.Core.List.{List, [], ◌∷◌}
use Prim.Native.Nat.{ℕ}
use lib.ListN.{length, get_or}
use Rattle.ascii.specs.Pick.{pick}
use Rattle.ascii.specs.Written.{bytes}
use Rattle.ascii.proofs.Same.{same_length, four}
use Rattle.answer.specs.Answers.{no_rule}
use Rattle.checks.specs.Check.{eas_answer}

module _ (s content : List ℕ) where
  pub at_four : length s ≡ 4 → eas_answer s content ≡ eas_answer (get_or s 0 0 ∷ get_or s 1 0 ∷ get_or s 2 0 ∷ get_or s 3 0 ∷ []) content
  at_four n = ap (λ t. eas_answer t content) (four s n)

  pub at_none : (length s ≡ 4 → ⊥) → eas_answer s content ≡ no_rule
  unfolding eas_answer pick
  at_none n = rw (same_length s (bytes "0088") n)
