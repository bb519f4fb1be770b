-- `stream::put::put_answer` stores an answer.
use Rattle.std.proofs.Common.{arith}
use Rattle.ascii.proofs.Area.{put_room}
use Rattle.stream.proofs.Small.{number_small}
use Rattle.stream.proofs.Texts.{put_fields}
use Rattle.stream.proofs.put.put_answer.Goals as goal

pub put_field-k-requires : goal.put_field-k-requires
put_field-k-requires c = record { room = omega arith; small = omega (arith, number_small c.args.a c.numbers.result c.numbers.ensures c.requires.small) }

pub put_field-m-requires : goal.put_field-m-requires
put_field-m-requires c = record { room = put_room c.put_field-k.ensures 4 (omega arith); small = omega (arith, number_small c.args.a c.numbers.result c.numbers.ensures c.requires.small) }

pub put_field-n-requires : goal.put_field-n-requires
put_field-n-requires c = record { room = put_room c.put_field-m.ensures 4 (put_room c.put_field-k.ensures 8 (omega arith)); small = omega (arith, number_small c.args.a c.numbers.result c.numbers.ensures c.requires.small) }

pub put_field-requires : goal.put_field-requires
put_field-requires c = record { room = put_room c.put_field-n.ensures 4 (put_room c.put_field-m.ensures 8 (put_room c.put_field-k.ensures 12 (omega arith))); small = omega (arith, number_small c.args.a c.numbers.result c.numbers.ensures c.requires.small) }

pub returns : goal.returns
returns c = put_fields c.args.a _ c.requires.room c.numbers.ensures c.put_field-k.ensures c.put_field-m.ensures c.put_field-n.ensures c.put_field.ensures
