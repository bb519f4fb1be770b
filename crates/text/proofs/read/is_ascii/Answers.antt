use mathlib.Core.Path.{◌≡◌, sym, ◌∙◌}
use mathlib.Core.List.{List, [], ◌∷◌}
use mathlib.Core.Bool.{Bool, true, ◌&&◌, and-true, and_assoc}
use Prim.Native.Nat.{ℕ}
use Rattle.std.specs.List.{fold}
use Rattle.std.proofs.Common.{rules}
use Rattle.std.proofs.lemmas.Iterator.{YieldsList-from_slice}
use Rattle.std.proofs.lemmas.Iterator.Consumers.{fold_from_yields_List}
use Rattle.ascii.specs.Class.{all}
use Rattle.text.proofs.Points.{single}
use Rattle.text.proofs.read.is_ascii.Goals as goal

abbrev step : Bool → ℕ → Bool
step t b = t && single b

folded : (t : Bool) (l : List ℕ) → fold step t l ≡ t && all single l
unfolding all
folded t [] = sym (and-true t)
folded t (b ∷ l) = folded (step t b) l ∙ and_assoc t (single b) (all single l)

pub returns : goal.returns
returns c =
    fold_from_yields_List _ step _ _ c.fold.ensures.ran (YieldsList-from_slice c.args.s.now cc) (λ a x b q k. search rules) ∙ folded true c.args.s.now
