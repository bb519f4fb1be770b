-- The strict GLN: exactly 13 digits with rule 40's total.
use Rattle.std.specs.Prelude.{List, ℕ}
use Rattle.forms.specs.Form.{fault_of}
use Rattle.forms.specs.Table.{digits}
use Rattle.figures.specs.Findings.{Finding, judged}
use Rattle.figures.specs.Figures.{right, figure40}

unfoldable pub strict_gln : List ℕ → Finding
strict_gln s = judged (fault_of (digits 13 13) s) (right figure40 s)
