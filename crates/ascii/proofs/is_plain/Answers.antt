use Rattle.ascii.specs.Class.{is_plain}
use Rattle.ascii.proofs.is_plain.Goals as goal

pub returns : goal.returns
unfolding is_plain
returns c = rw (c.is_digit.ensures, c.is_letter.ensures)
