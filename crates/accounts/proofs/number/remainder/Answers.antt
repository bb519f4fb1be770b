-- `accounts::number::remainder` meets its contract. Assumes nothing.
use Rattle.ascii.specs.Class.{is_plain}
use Rattle.ascii.proofs.Class.{all_take}
use Rattle.accounts.proofs.number.remainder.Goals as goal

pub leave-requires : goal.leave-requires
leave-requires c = all_take is_plain 4 c.args.text.now c.requires.2
