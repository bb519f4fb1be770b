-- `corrections::number::Number::digit` meets its contract.
use Rattle.corrections.proofs.Exact.{digit_bound}
use Rattle.corrections.proofs.number.Number.digit.Goals as goal

pub overflow_sub-result : goal.overflow_sub-result
overflow_sub-result c = (digit_bound _ _ _ c.args.self.now.summed c.args.i c.requires).0
