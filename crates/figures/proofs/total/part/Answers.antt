-- `figures::total::part` meets its contract. Assumes nothing.
use mathlib.Core.Path.{refl}
use native.Mathlib.Omega.{arith}
use Rattle.ascii.proofs.Class.{digit_bounds}
use Rattle.figures.proofs.Steps.{product}
use Rattle.figures.proofs.total.part.Goals as goal

pub overflow_sub-b : goal.overflow_sub-b
overflow_sub-b c = omega (arith, digit_bounds c.args.b c.requires.digit)

pub overflow_mul-p : goal.overflow_mul-p
overflow_mul-p c =
    let d = digit_bounds c.args.b c.requires.digit in
    omega (arith, product c.args.w c.wide.result (omega arith))

pub overflow_add-result : goal.overflow_add-result
overflow_add-result c =
    let d = digit_bounds c.args.b c.requires.digit in
    omega (arith, product c.args.w c.wide.result (omega arith))

pub returns-then-fold : goal.returns-then-fold
returns-then-fold c =
    let a = c.args in
    let d = digit_bounds a.b c.requires.digit in
    record { exact = rw (c.if-fold.true, c.wide.ensures) refl; bound = omega (arith, product a.w c.wide.result (omega arith)) }

pub returns : goal.returns
returns c =
    let a = c.args in
    let d = digit_bounds a.b c.requires.digit in
    record { exact = rw (c.if-fold.false, c.wide.ensures) refl; bound = omega (arith, product a.w c.wide.result (omega arith)) }
