-- `corrections::number::Number::share` meets its contract.
use Prim.Native.Nat.{◌-◌}
use native.Mathlib.Omega.{arith}
use lib.ListN.{length}
use Rattle.corrections.proofs.Exact.{short, shared}
use Rattle.corrections.proofs.number.Number.share.Goals as goal

pub offset_bounds-self-k : goal.offset_bounds-self-k
offset_bounds-self-k c = omega (arith, short _ _ _ c.args.self.now.summed)

pub bounds-self-k : goal.bounds-self-k
bounds-self-k c = omega (arith, short _ _ _ c.args.self.now.summed, c.requires)

pub returns : goal.returns
returns c =
    let n = c.args.self.now in
    shared n.kind _ n.weights.now (length n.digits.now - 1 - c.args.i) c.args.d c.figure.ensures n.placed (omega (arith, short _ _ _ n.summed, c.requires)) c.share.ensures
