use Rattle.std.proofs.Common.{rules, refl, sym, ◌∙◌, [], None}
use Rattle.guard.specs.Codes.{withdrawn_of}
use Rattle.guard.proofs.Rows.{row_hit, row_miss, row_end}
use Rattle.guard.proofs.code.withdrawn.Goals as goal

pub loop-old-init : goal.loop-old-init
unfolding withdrawn_of
loop-old-init c = refl

pub returns-then-same_bytes : goal.returns-then-same_bytes
returns-then-same_bytes c =
    let e = row_hit _ c.loop-old.old-index _ _ c.loop-old-test.true (sym c.same_bytes.ensures ∙ c.if-same_bytes.true) ∙ sym c.loop-old.invariant in
    search rules

pub loop-old-preserved : goal.loop-old-preserved
loop-old-preserved c =
    c.loop-old.invariant ∙ row_miss _ c.loop-old.old-index _ _ c.loop-old-test.true (sym c.same_bytes.ensures ∙ c.if-same_bytes.false)

pub returns : goal.returns
returns c = sym (c.loop-old.invariant ∙ row_end _ c.loop-old.old-index ([], None) _ c.loop-old-test.false)
