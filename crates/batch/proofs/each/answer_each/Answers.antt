-- `batch::each::answer_each` keeps what the loop says.
use Rattle.std.proofs.Common.{◌-◌, length, take, drop, refl, arith, rules, of_calls}
use Rattle.lines.proofs.Feeding.{rest_any}
use Rattle.batch.proofs.Batches.{batching_none, batching_line, batching_right}
use Rattle.batch.proofs.each.answer_each.Goals as goal

pub loop-used-init : goal.loop-used-init
loop-used-init g c = record { callable = c.requires; batching = batching_none _ c.args.answer.now c.args.s.now c.args.out.now }

pub loop-used-preserved : goal.loop-used-preserved
loop-used-preserved g c =
    let s = c.args.s.now in
    let used = c.loop-used.used in
    let n = c.line_len-n.result in
    let rest = take (length s - used) (drop used s) in
    let f = rest_any s rest used n refl c.line_len-n.ensures.exact c.min-used.result c.min-used.ensures (omega arith) in
    record {
      callable = search (of_calls);
      batching = batching_line c.loop-used.invariant.batching (take n rest) _ c.answer.result c.answer.new.self f (omega arith) (search rules) c.put_numbers-put.ensures;
    }

pub returns : goal.returns
returns g c = batching_right c.loop-used.invariant.batching (grind arith)
