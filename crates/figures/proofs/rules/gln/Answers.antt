-- `figures::rules::gln` meets its contract. Assumes nothing.
use mathlib.Core.Path.{◌∙◌, ap}
use native.Mathlib.Omega.{arith}
use lib.Seq.{take_all}
use Rattle.figures.specs.Rules.{gln}
use Rattle.figures.proofs.rules.gln.Goals as goal

pub returns-then-s-eq13 : goal.returns-then-s-eq13
returns-then-s-eq13 c = c.gln_of.ensures ∙ ap gln (take_all 13 c.args.s.now (omega arith))
