-- `figures::rules::partita_iva` meets its contract. Assumes nothing.
use Prim.Native.Nat.{◌%◌}
use mathlib.Core.Path.{◌∙◌, sym, ap}
use native.Mathlib.Omega.{arith}
use lib.Dec.{eqb}
use lib.ListN.{length-drop}
use Rattle.figures.specs.Figures.{luhn, total_by}
use Rattle.figures.specs.Rules.{partita_iva}
use Rattle.figures.proofs.Digits.{cut}
use Rattle.figures.proofs.Italian.{italian_digits}
use Rattle.figures.proofs.Judging.{unmet, met}
use Rattle.figures.proofs.rules.partita_iva.Goals as goal

pub returns-in_err-italian : goal.returns-in_err-italian
unfolding partita_iva
returns-in_err-italian c = unmet c.from_residual.ensures c.in_err-italian.ensures _

pub slice_bounds-alternating-end : goal.slice_bounds-alternating-end
slice_bounds-alternating-end c = omega (arith, italian_digits c.args.s.now (sym c.in_ok-italian.ensures))

pub alternating-requires : goal.alternating-requires
alternating-requires c =
    let s = c.args.s.now in
    let d = italian_digits s (sym c.in_ok-italian.ensures) in
    rw (cut 2 13 s d.0) record { digits = d.1; few = omega (arith, length-drop 2 s); last_small = omega arith; before_small = omega arith }

pub returns : goal.returns
unfolding partita_iva
returns c =
    let s = c.args.s.now in
    let f = c.in_ok-italian.ensures in
    met _ f (ap (λ t. eqb (t % 10) 0) (c.from.ensures ∙ c.alternating.ensures ∙ ap (total_by luhn) (cut 2 13 s (italian_digits s (sym f)).0)))
    c.decided.ensures
