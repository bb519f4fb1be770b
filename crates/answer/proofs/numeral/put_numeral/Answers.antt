use Rattle.ascii.proofs.Area.{put_none}
use Rattle.answer.proofs.numeral.put_numeral.Goals as goal

pub returns-then-not-fits-clause-no_room : goal.returns-then-not-fits-clause-no_room
returns-then-not-fits-clause-no_room c h = put_none 0 c.args.out.now c.args.at
