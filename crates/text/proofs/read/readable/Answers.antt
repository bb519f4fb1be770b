use mathlib.Core.Path.{◌≡◌, sym, ◌∙◌}
use mathlib.Core.List.{List}
use mathlib.Core.Bool.{true}
use Prim.Native.Nat.{ℕ, ◌+◌, ◌≤◌, ◌<◌}
use native.Mathlib.Omega.{arith}
use borrow.Author.Tests.{le-leb, lt-leb, eqb-true, tests}
use lib.ListN.{length}
use Rattle.std.specs.Prelude.{Ok, Err}
use Rattle.answer.specs.declared.reason.Reason.TheVariants.{Long}
use Rattle.ascii.specs.Pick.{pick}
use Rattle.ascii.specs.Class.{all}
use Rattle.text.specs.Utf8.{point, step_of}
use Rattle.text.specs.Content.{content_of, content_from}
use Rattle.text.specs.Answer.{why_refused, readable_of}
use Rattle.text.proofs.Points.{point_good, stuck, none_left, unread_on, single, unread_ascii}
use Rattle.text.proofs.read.readable.Goals.{In-Some}
use Rattle.text.proofs.read.readable.Goals as goal

too_long : (s : List ℕ) → 1024 < length s → Err Long ≡ readable_of s
unfolding readable_of pick
too_long s h = rw (lt-leb (length s) 1024 h)

short : (s : List ℕ) → length s ≤ 1024 → why_refused (content_from 0 0 s) ≡ readable_of s
unfolding readable_of content_of pick
short s h = rw (le-leb (length s) 1024 h)

ascii : (s : List ℕ) → length s ≤ 1024 → all single s ≡ true → Ok tt ≡ readable_of s
ascii s h e = sym (unread_ascii 0 s e) ∙ short s h

pub returns-then-s-gt1024 : goal.returns-then-s-gt1024
returns-then-s-gt1024 c = too_long _ c.if-s-gt1024.true

pub returns-then-is_ascii : goal.returns-then-is_ascii
returns-then-is_ascii c = ascii _ c.if-s-gt1024.false (sym c.is_ascii.ensures ∙ c.if-is_ascii.true)

pub loop-point-init : goal.loop-point-init
loop-point-init c = (0, short _ c.if-s-gt1024.false)

read : (c : In-Some) → point c.in-Some.point.code c.in-Some.point.len ≡ step_of c.loop-point.rest.now
read c = sym c.in-Some.is ∙ c.first_point.ensures

fit : (c : In-Some) → (1 ≤ c.in-Some.point.len) × (c.in-Some.point.len ≤ length c.loop-point.rest.now)
fit c = point_good _ _ _ (read c)

pub split_at-requires : goal.split_at-requires
split_at-requires c = (fit (goal.at.split_at-requires c).In-Some).1

pub loop-point-smaller : goal.loop-point-smaller
loop-point-smaller c =
    let f = fit (goal.at.loop-point-smaller c).In-Some in
    let b = c.split_at.ensures.back_len in
    omega arith

pub loop-point-preserved : goal.loop-point-preserved
loop-point-preserved c =
    let i = c.loop-point.invariant in
    (i.0 + c.in-Some.point.len, rw c.split_at.ensures.back (unread_on _ _ _ _ (read (goal.at.loop-point-preserved c).In-Some) ∙ i.1))

pub returns-then-is_empty : goal.returns-then-is_empty
returns-then-is_empty c =
    let i = c.loop-point.invariant in
    let z = eqb-true _ _ (sym c.is_empty.ensures ∙ c.if-is_empty.true) in
    rw (none_left i.0 c.loop-point.rest.now (omega arith)) at i.1

pub returns-else-is_empty : goal.returns-else-is_empty
returns-else-is_empty c =
    let i = c.loop-point.invariant in
    let z : 1 ≤ length c.loop-point.rest.now = grind (arith, tests, c.is_empty.ensures, c.if-is_empty.false) in
    rw (stuck i.0 c.loop-point.rest.now z (sym c.in_default.is ∙ c.first_point.ensures)) at i.1
