-- `forms::form::first_wrong` meets its contract. Assumes nothing.
use Rattle.std.proofs.Common.{rules, tests, ◌≡◌, true, false}
use Rattle.std.specs.Prelude.{zip}
use mathlib.Core.Path.{◌∙◌}
use native.Mathlib.Omega.{arith}
use Prim.Native.Nat.{◌-◌}
use lib.ListN.{length, drop, length-drop}
use lib.Seq.{take_all}
use Rattle.std.proofs.lemmas.Iterator.{IsFirst-from_position, YieldsList-from_slice, YieldsList-from_zip}
use Rattle.forms.specs.Form.{of_class}
use Rattle.forms.proofs.First.{Found, fits_class, in_head, in_rest, nowhere}
use Rattle.forms.proofs.form.first_wrong.Goals as goal
use Rattle.forms.proofs.form.first_wrong.Goals.{After-position, After-position-2}

-- what the search over the head finds
in_zip : (c : After-position) → Found fits_class (zip c.args.head.now c.args.text.now) c.position.result
in_zip c =
    IsFirst-from_position c.position.new.self _ c.position.result (λ p. fits_class p ≡ false) (λ p. fits_class p ≡ true) c.position.ensures.ran
    (YieldsList-from_zip (YieldsList-from_slice c.args.head.now cc) (YieldsList-from_slice c.args.text.now cc))
    (λ x q k. search (rules, tests)) (λ x q k. search (rules, tests))

-- and the one over the rest
in_drop : (c : After-position-2) → Found (of_class c.args.rest) (drop c.min-front.result c.args.text.now) c.position-2.result
in_drop c =
    let s = drop c.min-front.result c.args.text.now in
    let e = c.iter-2.ensures.rest ∙ take_all (length c.args.text.now - c.min-front.result) s (omega (arith, length-drop c.min-front.result c.args.text.now)) in
    IsFirst-from_position c.position-2.new.self _ c.position-2.result (λ b. of_class c.args.rest b ≡ false) (λ b. of_class c.args.rest b ≡ true)
    c.position-2.ensures.ran (YieldsList-from_slice s e) (λ x q k. search (rules, tests)) (λ x q k. search (rules, tests))

pub returns-in-Some : goal.returns-in-Some
returns-in-Some c = in_head _ _ _ (in_zip (goal.at.returns-in-Some c).After-position) c.in-Some.k c.in-Some.is

pub returns-in-Some-position : goal.returns-in-Some-position
returns-in-Some-position c = in_rest _ _ _ (in_zip (goal.at.returns-in-Some-position c).After-position) c.in_default.not-Some c.min-front.result (search rules) (in_drop (goal.at.returns-in-Some-position c).After-position-2) c.in-Some-position.k c.in-Some-position.is

pub returns-in-None : goal.returns-in-None
returns-in-None c = nowhere _ _ _ (in_zip (goal.at.returns-in-None c).After-position) c.in_default.not-Some c.min-front.result (search rules) (in_drop (goal.at.returns-in-None c).After-position-2) c.in-None.is
