-- `tally::counts_text::put_others` stores the two other counts.
use Rattle.std.proofs.Common.{arith}
use Rattle.tally.proofs.Texts.{count_fits, room_behind, put_two}
use Rattle.tally.proofs.counts_text.put_others.Goals as goal

pub put_field-k-requires : goal.put_field-k-requires
put_field-k-requires c = count_fits _ _ _ _ (omega (arith, c.type_inv.others 0)) (omega arith)

pub put_field-requires : goal.put_field-requires
put_field-requires c =
    count_fits _ _ _ _ (omega (arith, c.type_inv.others 1)) (room_behind _ _ (omega (arith, c.type_inv.others 0)) c.put_field-k.ensures 11 (omega arith))

pub returns : goal.returns
returns c =
    put_two c.args.others.now c.requires.two c.requires.room (λ i. omega (arith, c.type_inv.others i)) c.put_field-k.ensures c.put_field.ensures
