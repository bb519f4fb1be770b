-- `corrections::listing::list` meets its contract.
use mathlib.Core.Path.{◌≡◌, sym, ◌∙◌}
use Rattle.std.specs.Prelude.{Err}
use Rattle.std.proofs.Common.{rules}
use Rattle.answer.specs.declared.reason.Reason.TheVariants.{Scheme}
use Rattle.corrections.specs.Listing.{listing}
use Rattle.corrections.proofs.Outcomes.{works_refused, scheme_unknown, scheme_known}
use Rattle.corrections.proofs.listing.list.Goals as goal

pub returns-in_err-kind : goal.returns-in_err-kind
unfolding listing
returns-in_err-kind c =
    let n = scheme_unknown c.five_of.result {r = c.in_err-kind.field-0.0} (sym c.ok_or.ensures.value ∙ c.in_err-kind.was) in
    let e : c.from_residual.result ≡ Err c.in_err-kind.field-0.0 = search rules in
    works_refused Scheme _ (rw (sym c.five_of.ensures ∙ n.0)) (rw (e, n.1))

pub returns : goal.returns
unfolding listing
returns c = rw (sym c.five_of.ensures ∙ scheme_known _ (sym c.ok_or.ensures.value ∙ c.in_ok-kind.was)) c.list_by.ensures
