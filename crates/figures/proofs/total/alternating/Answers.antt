-- `figures::total::alternating` meets its contract. Assumes nothing.
use Prim.Native.Nat.{◌+◌, ◌-◌, ◌*◌, ◌%◌}
use mathlib.Core.Path.{◌≡◌, ◌∙◌, ap}
use native.Mathlib.Omega.{arith}
use lib.ListN.{length}
use Rattle.ascii.specs.Class.{is_digit}
use Rattle.ascii.proofs.Class.{all_at}
use Rattle.figures.specs.Figures.{counted}
use Rattle.figures.proofs.Steps.{pair_step, pair_of}
use Rattle.figures.proofs.total.alternating.Goals as goal

pub part-requires-clause-digit : goal.part-requires-clause-digit
part-requires-clause-digit c =
    let s = c.args.s.now in
    let p = pair_of s c.as_rchunks.result.1.now c.loop-a.a-index c.as_rchunks.ensures.back (omega (arith, c.as_rchunks.ensures.back_len)) in
    rw p.0 (all_at is_digit s (length s % 2 + 2 * c.loop-a.a-index) c.requires.digits (omega (arith, c.as_rchunks.ensures.back_len)))

pub part-requires-in-loop-a-clause-digit : goal.part-requires-in-loop-a-clause-digit
part-requires-in-loop-a-clause-digit c =
    let s = c.args.s.now in
    let p = pair_of s c.as_rchunks.result.1.now c.loop-a.a-index c.as_rchunks.ensures.back (omega (arith, c.as_rchunks.ensures.back_len)) in
    rw p.1 (all_at is_digit s (length s % 2 + 2 * c.loop-a.a-index + 1) c.requires.digits (omega (arith, c.as_rchunks.ensures.back_len)))

pub loop-a-preserved : goal.loop-a-preserved
loop-a-preserved c =
    let a = c.args in
    let s = a.s.now in
    let i = c.loop-a.a-index in
    let j = length s % 2 + 2 * i in
    let p = pair_of s c.as_rchunks.result.1.now i c.as_rchunks.ensures.back (omega (arith, c.as_rchunks.ensures.back_len)) in
    let z : length s % 2 + 2 * (i + 1) ≡ j + 2 = omega arith in (
      omega (arith, c.part.ensures.bound, c.part-in-loop-a.ensures.bound),
      rw z
          (omega (
            arith,
            c.loop-a.invariant.1,
            pair_step a.fold a.last a.before s j (omega (arith, c.as_rchunks.ensures.back_len)) (omega arith),
            c.part.ensures.exact ∙ ap (λ b. counted a.fold (a.before * (b - 48))) p.0,
            c.part-in-loop-a.ensures.exact ∙ ap (λ b. counted a.fold (a.last * (b - 48))) p.1,
          )),
    )
