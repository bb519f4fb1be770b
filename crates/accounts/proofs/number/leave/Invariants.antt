-- `accounts::number::leave` meets its contract: what is left of the text, behind the sum, leaves what the whole leaves.
use Rattle.std.proofs.Common.{◌≡◌, drop}
use Rattle.accounts.specs.Spelled.{spell}
use Rattle.accounts.specs.Inner.{after}
use Rattle.accounts.proofs.number.leave.Given as goal

abbrev pub invariant-loop-b : goal.invariant-loop-b
invariant-loop-b l = after l.start (spell l.text) ≡ after l.acc (spell (drop l.b-index l.text))
