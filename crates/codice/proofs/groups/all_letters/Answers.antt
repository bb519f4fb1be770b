-- `codice::groups::all_letters` meets its contract. Assumes nothing.
use mathlib.Core.Path.{◌∙◌}
use Rattle.std.proofs.Common.{rules, tests}
use Rattle.std.proofs.lemmas.Iterator.{YieldsList-from_slice}
use Rattle.std.proofs.lemmas.Iterator.Search.{all_from_yields_List}
use Rattle.ascii.specs.Class.{is_letter}
use Rattle.codice.proofs.Laws.{all_list}
use Rattle.codice.proofs.groups.all_letters.Goals as goal

pub returns : goal.returns
returns c =
    all_from_yields_List is_letter _ _ _ c.all.ensures.ran (YieldsList-from_slice c.args.p.now cc) (λ x b q k. search (rules, tests))
    ∙ all_list is_letter c.args.p.now
