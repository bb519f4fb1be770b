-- `codice::groups::failing_group` meets its contract: the groups one after another. Assumes nothing.
use mathlib.Core.Path.{refl, ◌∙◌}
use Rattle.std.proofs.Common.{arith}
use Rattle.std.proofs.lemmas.Result.{err_from_is_err_and}
use Rattle.std.specs.Prelude.{Result, ⊤}
use lib.ListN.{drop}
use Rattle.ascii.specs.Class.{is_digit, is_letter}
use Rattle.forms.specs.declared.form.Fault.{Fault}
use Rattle.codice.specs.Codice.{group, anything, groups_of16}
use Rattle.codice.specs.Inner.{Answered}
use Rattle.codice.proofs.Laws.{one_point, group_free, group_passed, group_failed, group_last}
use Rattle.codice.proofs.groups.failing_group.Goals.{In_ok-passes-2, In_ok-passes-4}
use Rattle.codice.proofs.groups.failing_group.Goals as goal

-- what the groups that are left answer is the answer, once the first two have passed
then2 : (c : In_ok-passes-2) {x : Result ⊤ Fault} → Answered (drop 2 groups_of16) c.args.p.now c.args.places.now x → Answered groups_of16 c.args.p.now c.args.places.now x
then2 c r =
    group_passed _ _ _ _ c.all_letters.ensures c.passes.ensures c.in_ok-passes.was
    (group_passed _ _ _ _ c.castable_integer.ensures c.passes-2.ensures c.in_ok-passes-2.was r)

-- the group in which anything may stand passes with the one before it
then4 : (c : In_ok-passes-4) {x : Result ⊤ Fault} → Answered (drop 5 groups_of16) c.args.p.now c.args.places.now x → Answered groups_of16 c.args.p.now c.args.places.now x
then4 c r =
    group_passed _ _ _ _ c.all_letters.ensures c.passes.ensures c.in_ok-passes.was
    (group_passed _ _ _ _ c.castable_integer.ensures c.passes-2.ensures c.in_ok-passes-2.was
    (group_passed _ _ _ _ (c.is_letter.ensures ∙ one_point is_letter c.args.p.now 8 (omega arith)) c.passes-3.ensures c.in_ok-passes-3.was
    (group_passed _ _ _ _ c.castable_integer-2.ensures c.passes-4.ensures c.in_ok-passes-4.was (group_free (group 11 13 anything) _ _ _ refl refl r))))

pub returns-in_err-passes : goal.returns-in_err-passes
returns-in_err-passes c =
    let p = err_from_is_err_and c.from_residual.result c.from_residual.ensures.1 in
    rw (p.1, p.2) (group_failed _ _ _ _ c.all_letters.ensures c.passes.ensures c.in_err-passes.was)

pub returns-in_err-passes-2 : goal.returns-in_err-passes-2
returns-in_err-passes-2 c =
    let p = err_from_is_err_and c.from_residual-in_err-passes-2.result c.from_residual-in_err-passes-2.ensures.1 in
    rw (p.1, p.2)
    (group_passed _ _ _ _ c.all_letters.ensures c.passes.ensures c.in_ok-passes.was
    (group_failed _ _ _ _ c.castable_integer.ensures c.passes-2.ensures c.in_err-passes-2.was))

pub returns-in_err-passes-3 : goal.returns-in_err-passes-3
returns-in_err-passes-3 c =
    let p = err_from_is_err_and c.from_residual-in_err-passes-3.result c.from_residual-in_err-passes-3.ensures.1 in
    rw (p.1, p.2)
    (then2 (goal.at.returns-in_err-passes-3 c).In_ok-passes-2
    (group_failed _ _ _ _ (c.is_letter.ensures ∙ one_point is_letter c.args.p.now 8 (omega arith)) c.passes-3.ensures c.in_err-passes-3.was))

pub returns-in_err-passes-4 : goal.returns-in_err-passes-4
returns-in_err-passes-4 c =
    let p = err_from_is_err_and c.from_residual-in_err-passes-4.result c.from_residual-in_err-passes-4.ensures.1 in
    rw (p.1, p.2)
    (then2 (goal.at.returns-in_err-passes-4 c).In_ok-passes-2
    (group_passed _ _ _ _ (c.is_letter.ensures ∙ one_point is_letter c.args.p.now 8 (omega arith)) c.passes-3.ensures c.in_ok-passes-3.was
    (group_failed _ _ _ _ c.castable_integer-2.ensures c.passes-4.ensures c.in_err-passes-4.was)))

pub returns-in_err-passes-5 : goal.returns-in_err-passes-5
returns-in_err-passes-5 c =
    let p = err_from_is_err_and c.from_residual-in_err-passes-5.result c.from_residual-in_err-passes-5.ensures.1 in
    rw (p.1, p.2)
    (then4 (goal.at.returns-in_err-passes-5 c).In_ok-passes-4
    (group_failed _ _ _ _ (c.is_digit.ensures ∙ one_point is_digit c.args.p.now 14 (omega arith)) c.passes-5.ensures c.in_err-passes-5.was))

pub returns : goal.returns
returns c =
    then4 (goal.at.returns c).In_ok-passes-4
    (group_passed _ _ _ _ (c.is_digit.ensures ∙ one_point is_digit c.args.p.now 14 (omega arith)) c.passes-5.ensures c.in_ok-passes-5.was
    (group_last _ _ _ _ (c.is_letter-2.ensures ∙ one_point is_letter c.args.p.now 15 (omega arith)) c.passes-6.ensures refl))
