-- `batch::tallied::tally_lines` feeds the lines for which there is room.
use Rattle.std.proofs.Common.{rules}
use Rattle.tally.proofs.Running.{running_none}
use Rattle.batch.proofs.Batches.{each_keeps, each_tallied}
use Rattle.batch.proofs.tallied.tally_lines.Goals as goal

pub returns : goal.returns
returns c =
    let same = each_keeps c.answer_each.ensures (λ p. p.0.ghost_name) (λ p q l a h. search rules) in
    each_tallied c.answer_each.ensures (λ p. p.0.now) (λ p. p.1.now) (λ p q l a h. search rules) (search rules)
    (running_none c.args.counts.now c.left-more.result c.left-more.ensures.exact c.left-more.ensures.size)
