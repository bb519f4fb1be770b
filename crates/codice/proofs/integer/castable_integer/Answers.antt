-- `codice::integer::castable_integer` meets its contract. Assumes nothing.
use mathlib.Core.Path.{◌∙◌, sym, ap}
use mathlib.Core.List.{List}
use Prim.Native.Nat.{ℕ}
use Rattle.std.proofs.Common.{rules}
use Rattle.text.specs.White.{is_white}
use Rattle.codice.specs.Integer.{unsigned, trim_end, one_or_more_digits}
use Rattle.codice.proofs.Trim.{integer_read}
use Rattle.codice.proofs.integer.castable_integer.Goals as goal

pub returns : goal.returns
returns c =
    c.is_number.ensures
    ∙ ap (λ (l : List ℕ). one_or_more_digits (trim_end l)) (c.unsigned.ensures ∙ ap unsigned (c.past-trimmed.ensures is_white (λ x r h t. search rules)))
    ∙ sym (integer_read _)
