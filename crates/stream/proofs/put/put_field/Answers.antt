-- `stream::put::put_field` stores a number and the byte behind it.
use native.Mathlib.Omega.{arith}
use Rattle.answer.proofs.Numerals.{put_behind}
use Rattle.stream.proofs.put.put_field.Goals as goal

pub returns : goal.returns
returns c = put_behind c.args.n c.args.behind (omega arith) c.put_number-k.ensures
