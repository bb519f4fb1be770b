use Rattle.std.proofs.Common.{refl}
use Rattle.ascii.specs.Class.{within, is_digit}
use Rattle.ascii.proofs.is_digit.Goals as goal

pub returns : goal.returns
unfolding within is_digit
returns c = refl
