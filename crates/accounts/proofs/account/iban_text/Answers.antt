-- `accounts::account::iban_text` meets its contract. Assumes nothing.
use Rattle.std.specs.Prelude.{is_ok}
use mathlib.Core.Path.{sym, ap}
use native.Mathlib.Omega.{arith}
use Rattle.forms.specs.Form.{fits}
use Rattle.forms.proofs.Named.{account_fits}
use Rattle.accounts.proofs.account.iban_text.Goals as goal

pub remainder-requires : goal.remainder-requires
unfolding fits
remainder-requires c =
    let s = c.args.text.now in
    let a = account_fits 5 34 s (omega arith) (ap is_ok (sym c.in_ok-iban_form.ensures)) in
    let l = a.least in
    (omega arith, omega arith, a.plain)
