-- `stream::put::put_line` feeds a line and stores its answer.
use Rattle.stream.proofs.Small.{reply_small}
use Rattle.stream.proofs.put.put_line.Goals as goal

pub put_answer-requires : goal.put_answer-requires
put_answer-requires c = record { room = c.requires; small = reply_small _ c.args.counts.now c.args.line.now c.count-a.ensures }

pub returns : goal.returns
returns c = record { answer = c.count-a.result; fed = c.count-a.ensures; written = c.put_answer.ensures }
