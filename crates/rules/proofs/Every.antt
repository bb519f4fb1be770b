-- What holds of every rule, by computing; a rule's place and its published number lead back to it. Assumes nothing.
use mathlib.Core.Path.{◌≡◌, refl}
use mathlib.Core.Bool.{Bool, true, ◌&&◌}
use mathlib.Core.List.{List, [], ◌∷◌}
use Prim.Native.Nat.{ℕ, zero, suc, ◌<◌}
use borrow.Author.Tests.{ltb-true}
use lib.Dec.{ltb}
use lib.ListN.{get_or}
use Rattle.ascii.specs.Pick.{pick}
use Rattle.ascii.proofs.Tests.{and_true}
use Rattle.rules.specs.declared.rule.Rule.{Rule}
use Rattle.rules.specs.declared.rule.Rule.TheVariants.{R40, R41, R42, R43, R44, R45, R46, R47, R49, R50, R52, R53, R54, R55, R57, R561, R562}
use Rattle.std.specs.Prelude.{Some}
use Rattle.rules.specs.Facts.{facts, rules}
use Rattle.rules.specs.Choice.{rule_numbered}

leads_back : (r : Rule) → (get_or rules (facts r).index R40 ≡ r) × (rule_numbered (facts r).number ≡ Some r)
unfolding rule_numbered pick
leads_back R40 = (refl, refl)
leads_back R41 = (refl, refl)
leads_back R42 = (refl, refl)
leads_back R43 = (refl, refl)
leads_back R44 = (refl, refl)
leads_back R45 = (refl, refl)
leads_back R46 = (refl, refl)
leads_back R47 = (refl, refl)
leads_back R49 = (refl, refl)
leads_back R50 = (refl, refl)
leads_back R52 = (refl, refl)
leads_back R53 = (refl, refl)
leads_back R54 = (refl, refl)
leads_back R55 = (refl, refl)
leads_back R57 = (refl, refl)
leads_back R561 = (refl, refl)
leads_back R562 = (refl, refl)

-- a rule stands at its index
pub at_index : (r : Rule) → get_or rules (facts r).index R40 ≡ r
at_index r = (leads_back r).0

-- a published number leads back to its rule
pub number_back : (r : Rule) → rule_numbered (facts r).number ≡ Some r
number_back r = (leads_back r).1

abbrev each : (Rule → Bool) → List Rule → Bool
each p [] = true
each p (r ∷ rs) = p r && each p rs

each_at : (p : Rule → Bool) (rs : List Rule) (i : ℕ) → each p rs ≡ true → p R40 ≡ true → p (get_or rs i R40) ≡ true
each_at p [] i e n = n
each_at p (r ∷ rs) zero e n = (and_true (p r) (each p rs) e).0
each_at p (r ∷ rs) (suc i) e n = each_at p rs i (and_true (p r) (each p rs) e).1 n

-- a test that passes at each of them, by computing
pub every_rule : (p : Rule → Bool) → each p rules ≡ true → (r : Rule) → p r ≡ true
every_rule p e r = rw (at_index r) at (each_at p rules (facts r).index e (and_true (p R40) _ e).0)

pub index_small : (r : Rule) → (facts r).index < 17
index_small r = ltb-true _ _ (every_rule (λ r. ltb (facts r).index 17) refl r)

pub number_small : (r : Rule) → (facts r).number < 1000
number_small r = ltb-true _ _ (every_rule (λ r. ltb (facts r).number 1000) refl r)
