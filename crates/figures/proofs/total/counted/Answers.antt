-- `figures::total::counted` meets its contract. Assumes nothing.
use Prim.Native.Nat.{ℕ, ◌*◌, ◌≤◌}
use native.Mathlib.Nat.{mul-le-mul}
use native.Mathlib.Omega.{arith}
use Rattle.figures.proofs.total.counted.Goals as goal

small : (w d : ℕ) → w ≤ 4294967296 → d ≤ 255 → w * d ≤ 1095216660480
small w d h l = mul-le-mul {n₁ = w} {m₁ = d} {n₂ = 4294967296} {m₂ = 255} h l

pub overflow_mul-p : goal.overflow_mul-p
overflow_mul-p c = omega (arith, small c.from.result c.from-2.result (omega arith) (omega arith))

pub overflow_add-result : goal.overflow_add-result
overflow_add-result c = omega (arith, small c.from.result c.from-2.result (omega arith) (omega arith))
