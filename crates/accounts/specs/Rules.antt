-- The rules of the IBAN (ISO 13616, ISO 7064) and of the creditor identifier (EPC AT-02), on the stripped text.
use Rattle.std.specs.Prelude.{List, ℕ, ◌==◌}
use Rattle.forms.specs.Form.{fault_of}
use Rattle.forms.specs.Table.{iban, creditor}
use Rattle.figures.specs.Findings.{Finding, judged, form_only}
use Rattle.accounts.specs.Spelled.{remainder}

unfoldable pub iban_finding : List ℕ → Finding
iban_finding s = judged (fault_of iban s) (remainder 4 s == 1)

-- a creditor identifier has no check figure here
unfoldable pub creditor_finding : List ℕ → Finding
creditor_finding s = form_only (fault_of creditor s)
