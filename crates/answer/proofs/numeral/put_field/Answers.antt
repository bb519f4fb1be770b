use Rattle.std.proofs.Common.{arith, rules}
use Rattle.ascii.proofs.Area.{put_none}
use Rattle.answer.proofs.Numerals.{numeral_few, field_long, put_behind_it}
use Rattle.answer.proofs.numeral.put_field.Goals as goal

pub overflow_add-numeral_len : goal.overflow_add-numeral_len
overflow_add-numeral_len c = omega (arith, c.numeral_len.ensures, numeral_few c.args.n)

pub returns-then-not-fits-clause-stored : goal.returns-then-not-fits-clause-stored
returns-then-not-fits-clause-stored c h = let l = field_long c.args.n c.args.behind in search rules

pub returns-then-not-fits-clause-no_room : goal.returns-then-not-fits-clause-no_room
returns-then-not-fits-clause-no_room c h = put_none 0 c.args.out.now c.args.at

pub returns-clause-stored : goal.returns-clause-stored
returns-clause-stored c room = put_behind_it c.args.n c.args.behind room c.put_digits-k.ensures

pub returns-clause-no_room : goal.returns-clause-no_room
returns-clause-no_room c h = let l = field_long c.args.n c.args.behind in search rules
