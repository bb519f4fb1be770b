use Rattle.std.proofs.Common.{refl}
use Rattle.ascii.specs.Class.{within, is_letter}
use Rattle.ascii.proofs.is_letter.Goals as goal

pub returns : goal.returns
unfolding within is_letter
returns c = refl
