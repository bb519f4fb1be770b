use Rattle.std.proofs.Common.{rules}
use Rattle.checks.proofs.Found.{found_stripped}
use Rattle.checks.proofs.reading.stripped.Goals as goal

pub returns-in_err-n : goal.returns-in_err-n
returns-in_err-n g c = rw (found_stripped (g.J.Judge.finds c.args.judge) _ _ _ c.strip_into.ensures) (search rules)

pub returns : goal.returns
returns g c = rw (found_stripped (g.J.Judge.finds c.args.judge) _ _ _ c.strip_into.ensures) (search rules)
