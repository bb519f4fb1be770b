use Rattle.std.proofs.Common.{arith}
use Rattle.answer.proofs.Numerals.{field_long, behind_fits, put_behind_it}
use Rattle.tally.proofs.numeral.put_field.Goals as goal

pub put_numeral-k-requires : goal.put_numeral-k-requires
put_numeral-k-requires c = omega (arith, c.requires, field_long c.args.n c.args.behind)

pub bounds-out-k : goal.bounds-out-k
bounds-out-k c = behind_fits c.args.n c.args.behind c.requires c.put_numeral-k.ensures

pub overflow_add-result : goal.overflow_add-result
overflow_add-result c = omega (arith, behind_fits c.args.n c.args.behind c.requires c.put_numeral-k.ensures, c.put_numeral-k.auto.out)

pub returns : goal.returns
returns c = put_behind_it c.args.n c.args.behind c.requires c.put_numeral-k.ensures
