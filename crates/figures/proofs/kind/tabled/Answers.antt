-- `figures::kind::tabled` meets its contract. Assumes nothing.
use Rattle.figures.proofs.Adding.{tabled_by}
use Rattle.figures.proofs.kind.tabled.Goals as goal

pub returns : goal.returns
returns c = rw c.copy_from_slice.ensures.after (tabled_by c.args.weights.now c.requires)
