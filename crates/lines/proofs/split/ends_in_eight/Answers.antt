-- `lines::split::ends_in_eight`: where it answers no, eight bytes stand before the next newline.
use Rattle.lines.proofs.Splits.{past_eight}
use Rattle.lines.proofs.split.ends_in_eight.Goals as goal

pub returns : goal.returns
returns c = λ e. past_eight c.args.s.now c.args.i c.requires e
