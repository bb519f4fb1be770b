-- `tally::counts_text::put_line` stores a rule's number and its three counts.
use Rattle.std.proofs.Common.{arith}
use Rattle.tally.proofs.Texts.{count_fits, room_behind, put_row}
use Rattle.tally.proofs.counts_text.put_line.Goals as goal

pub put_field-k-requires : goal.put_field-k-requires
put_field-k-requires c = count_fits c.args.number _ _ _ (omega arith) (omega arith)

pub put_field-m-requires : goal.put_field-m-requires
put_field-m-requires c =
    count_fits _ _ _ _ (omega (arith, c.type_inv.counts 0)) (room_behind _ _ (omega arith) c.put_field-k.ensures 11 (omega arith))

pub put_field-n-requires : goal.put_field-n-requires
put_field-n-requires c =
    let left = room_behind _ _ (omega arith) c.put_field-k.ensures 22 (omega arith) in
    count_fits _ _ _ _ (omega (arith, c.type_inv.counts 1)) (room_behind _ _ (omega (arith, c.type_inv.counts 0)) c.put_field-m.ensures 11 left)

pub put_field-requires : goal.put_field-requires
put_field-requires c =
    let left = room_behind _ _ (omega arith) c.put_field-k.ensures 33 (omega arith) in
    let less = room_behind _ _ (omega (arith, c.type_inv.counts 0)) c.put_field-m.ensures 22 left in
    count_fits _ _ _ _ (omega (arith, c.type_inv.counts 2)) (room_behind _ _ (omega (arith, c.type_inv.counts 1)) c.put_field-n.ensures 11 less)

pub returns : goal.returns
returns c =
    put_row c.args.number c.args.counts.now c.requires.three c.requires.room (omega arith) (λ i. omega (arith, c.type_inv.counts i))
    c.put_field-k.ensures c.put_field-m.ensures c.put_field-n.ensures c.put_field.ensures
