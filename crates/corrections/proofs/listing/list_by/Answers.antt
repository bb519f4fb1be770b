-- `corrections::listing::list_by` meets its contract.
use mathlib.Core.Path.{◌≡◌, sym, ap, ◌∙◌}
use lib.ListN.{take}
use Rattle.std.specs.Prelude.{Err}
use Rattle.std.proofs.Common.{rules}
use Rattle.text.specs.declared.area.Text.{Text}
use Rattle.text.specs.declared.reading.Reading.TheVariants.{Normalised}
use Rattle.text.specs.Answer.{readable_of, len_of, without_len, text_of, text_by}
use Rattle.text.proofs.Laws.{reason_normal}
use Rattle.checks.specs.Reading.{found_in}
use Rattle.corrections.specs.Listing.{listed_for}
use Rattle.corrections.proofs.Outcomes.{works_refused}
use Rattle.corrections.proofs.listing.list_by.Goals.{After-normalize_into}
use Rattle.corrections.proofs.listing.list_by.Goals as goal

read : (t : After-normalize_into) → readable_of t.args.content.now ≡ without_len t.normalize_into.result
read t = sym (reason_normal t.args.content.now) ∙ ap (λ (x : Text). without_len x.kept) (sym t.normalize_into.ensures)

pub returns-in_err-n : goal.returns-in_err-n
unfolding listed_for found_in
returns-in_err-n c =
    let why = c.in_err-n.field-0.0 in
    let e : c.from_residual.result ≡ Err why = search rules in
    works_refused why _ (rw (read (goal.at.returns-in_err-n c).After-normalize_into ∙ ap without_len c.in_err-n.was)) e

pub returns : goal.returns
unfolding listed_for found_in
returns c =
    let s : c.first_bytes.result.now ≡ text_by Normalised c.args.content.now = c.first_bytes.ensures ∙ ap (λ k. take (len_of k) c.normalize_into.new.out) (sym c.in_ok-n.was) ∙ ap (λ (x : Text). text_of x) c.normalize_into.ensures in
    rw (read (goal.at.returns c).After-normalize_into ∙ ap without_len c.in_ok-n.was, ← s) c.list_text.ensures
