-- `tally::counts_text::put_text` stores the text of a tally where it fits.
use Rattle.std.proofs.Common.{arith}
use Rattle.tally.proofs.Texts.{text_none, text_some}
use Rattle.tally.proofs.counts_text.put_text.Goals as goal

pub returns-then-fits : goal.returns-then-fits
returns-then-fits c = text_some c.args.counts.now (omega arith) c.put_lines.ensures

pub returns : goal.returns
returns c = text_none c.args.counts.now c.args.out.now c.args.at (omega arith)
