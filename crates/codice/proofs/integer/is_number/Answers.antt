-- `codice::integer::is_number` meets its contract. Assumes nothing.
use mathlib.Core.Path.{◌∙◌, refl}
use borrow.Author.Tests.{lt-ltb, le-ltb}
use Rattle.std.proofs.Common.{rules}
use Rattle.ascii.specs.Class.{is_digit}
use Rattle.text.specs.White.{is_white}
use Rattle.codice.proofs.Trim.{number_read}
use Rattle.codice.proofs.integer.is_number.Goals as goal

pub returns-then-behind-p : goal.returns-then-behind-p
returns-then-behind-p c =
    rw (lt-ltb _ _ c.if-behind-p.true) at
    (number_read _ _ _ (c.past-behind.ensures is_digit (λ x r h t. search rules)) (c.past.ensures is_white (λ x r h t. search rules)))

pub returns-else-behind-p : goal.returns-else-behind-p
returns-else-behind-p c =
    let e = le-ltb _ _ c.if-behind-p.false in
    e ∙ rw e at (number_read _ _ _ (c.past-behind.ensures is_digit (λ x r h t. search rules)) refl)
