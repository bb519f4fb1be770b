use mathlib.Core.Path.{◌≡◌, sym, ap, ◌∙◌}
use Prim.Native.Nat.{◌≤◌}
use native.Mathlib.Omega.{arith}
use borrow.Author.Tests.{eqb-true, tests}
use lib.ListN.{length}
use Rattle.text.specs.Utf8.{point, step_of}
use Rattle.text.proofs.Byte.{space_white, space_step}
use Rattle.text.proofs.Walk.{State, long, begin_behind, area_long, add_run, stop, finish, fits, pass, add, add_spaced}
use Rattle.text.proofs.space.put_words.Goals.{After-first_point, After-rest-in-loop-due-1, In-Some, then-not-due, else-not-due, then-due, else-due}
use Rattle.text.proofs.space.put_words.Goals as goal

pub returns-then-s-gt1024 : goal.returns-then-s-gt1024
returns-then-s-gt1024 c = c.refuse.ensures ∙ long _ _ c.if-s-gt1024.true

pub loop-due-init : goal.loop-due-init
loop-due-init c = rw c.split_at.ensures.back (begin_behind _ _ _ c.if-s-gt1024.false c.spaces.ensures)

pub put_dark-k-requires : goal.put_dark-k-requires
put_dark-k-requires c = let i = c.loop-due.invariant in (i.room, area_long i)

-- behind the run
run : (c : After-first_point) → State c.args.spaced c.args.s.now c.loop-due.due c.if-not-due.n c.if-not-due.rest.now c.if-not-due.out
run c =
    elim c.if-not-due.branch [
      | then-not-due w ↦ rw (w.out-is, w.n-is, ap (λ r. r.now) w.rest-is, w.split_at-then-not-due.ensures.back) (add_run c.loop-due.invariant w.if-not-due.true w.put_dark-k.ensures)
      | else-not-due w ↦ rw (w.out-is, w.n-is, ap (λ r. r.now) w.rest-is) c.loop-due.invariant
    ]

less : (c : After-first_point) → length c.if-not-due.rest.now ≤ length c.loop-due.rest.now
less c =
    elim c.if-not-due.branch [
      | then-not-due w ↦ rw (ap (λ r. r.now) w.rest-is) (let b = w.split_at-then-not-due.ensures.back_len in omega arith)
      | else-not-due w ↦ rw (ap (λ r. r.now) w.rest-is) (omega arith)
    ]

read : (c : In-Some) → point c.in-Some.point.code c.in-Some.point.len ≡ step_of c.if-not-due.rest.now
read c = sym c.in-Some.is ∙ c.first_point.ensures

pub split_at-requires-in-loop-due-2 : goal.split_at-requires-in-loop-due-2
split_at-requires-in-loop-due-2 c =
    let a = goal.at.split_at-requires-in-loop-due-2 c in
    (fits (run a.After-first_point) _ _ (read a.In-Some)).1

pub loop-due-smaller-then-is_white : goal.loop-due-smaller-then-is_white
loop-due-smaller-then-is_white c =
    let a = goal.at.loop-due-smaller-then-is_white c in
    let f = fits (run a.After-first_point) _ _ (read a.In-Some) in
    let h = less a.After-first_point in
    let b = c.split_at-in-loop-due-2.ensures.back_len in
    omega arith

pub loop-due-preserved-then-is_white : goal.loop-due-preserved-then-is_white
loop-due-preserved-then-is_white c =
    let a = goal.at.loop-due-preserved-then-is_white c in
    rw c.split_at-in-loop-due-2.ensures.back
    (pass (run a.After-first_point) _ _ (read a.In-Some) (sym c.is_white.ensures ∙ c.if-is_white.true))

pub loop-due-smaller : goal.loop-due-smaller
loop-due-smaller c =
    let a = goal.at.loop-due-smaller c in
    let f = fits (run a.After-first_point) _ _ (read a.In-Some) in
    let h = less a.After-first_point in
    let b = c.split_at-in-loop-due-2.ensures.back_len in
    omega arith

pub loop-due-preserved : goal.loop-due-preserved
loop-due-preserved c =
    let a = goal.at.loop-due-preserved c in
    let i = run a.After-first_point in
    let e = read a.In-Some in
    let w = sym c.is_white.ensures ∙ c.if-is_white.false in
    let p = c.split_at-in-loop-due-2.ensures in
    rw (p.front_len, p.back, c.put.ensures, p.front)
    (elim c.if-due.branch [
      | then-due v ↦ rw (v.out-is, v.n-is) (add_spaced i _ _ e v.if-due.true w)
      | else-due v ↦ rw (v.out-is, v.n-is) (add i _ _ e v.if-due.false w)
    ])

pub returns-then-is_empty : goal.returns-then-is_empty
returns-then-is_empty c =
    let z = eqb-true _ _ (sym c.is_empty.ensures ∙ c.if-is_empty.true) in
    finish (run (goal.at.returns-then-is_empty c).After-first_point) (omega arith)

pub returns-else-is_empty : goal.returns-else-is_empty
returns-else-is_empty c =
    let z : 1 ≤ length c.if-not-due.rest.now = grind (arith, tests, c.is_empty.ensures, c.if-is_empty.false) in
    c.refuse-else-is_empty.ensures
    ∙ stop (run (goal.at.returns-else-is_empty c).After-first_point) z (sym c.in_default.is ∙ c.first_point.ensures)

-- the same before a space
before_space : (c : After-rest-in-loop-due-1) → State c.args.spaced c.args.s.now c.loop-due.due c.if-not-due.n c.if-not-due.rest.now c.if-not-due.out
before_space c =
    elim c.if-not-due.branch [
      | then-not-due w ↦ rw (w.out-is, w.n-is, ap (λ r. r.now) w.rest-is, w.split_at-then-not-due.ensures.back) (add_run c.loop-due.invariant w.if-not-due.true w.put_dark-k.ensures)
      | else-not-due w ↦ rw (w.out-is, w.n-is, ap (λ r. r.now) w.rest-is) c.loop-due.invariant
    ]

pub loop-due-preserved-in-loop-due : goal.loop-due-preserved-in-loop-due
loop-due-preserved-in-loop-due c =
    rw c.split_at-in-loop-due.ensures.back
    (pass (before_space c) 0x20 1 (space_step c.if-not-due.rest.now c.in-len1-up.len_at_least c.if-first-eq32.true) space_white)
