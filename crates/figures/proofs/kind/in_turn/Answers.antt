-- `figures::kind::in_turn` meets its contract. Assumes nothing.
use Rattle.std.proofs.Common.{rules, tests}
use mathlib.Core.List.{[], ◌∷◌}
use native.Mathlib.Omega.{arith}
use Rattle.figures.specs.Figures.{weight_at}
use Rattle.figures.proofs.Adding.{placed_by, given_by}
use Rattle.figures.proofs.kind.in_turn.Goals as goal

pub returns : goal.returns
returns c =
    let f = weight_at (c.args.last ∷ c.args.before ∷ []) in
    placed_by f c.from_fn.result c.from_fn.ensures.items.long
    (λ j l. given_by _ _ f c.from_fn.result (λ k y d h. search (rules, tests)) 20 0 c.from_fn.ensures.items.each j (omega arith) l)
