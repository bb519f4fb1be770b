-- `batch::answers::answer_lines` answers the lines for which there is room.
use Rattle.std.proofs.Common.{rules}
use Rattle.batch.proofs.Batches.{each_alone}
use Rattle.batch.proofs.answers.answer_lines.Goals as goal

pub returns : goal.returns
returns c = each_alone c.answer_each.ensures (λ p q l a h. search rules)
