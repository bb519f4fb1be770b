-- `corrections::number::Number::digit_at` meets its contract.
use mathlib.Core.Path.{◌≡◌}
use mathlib.Core.Bool.{false}
use Prim.Native.Nat.{ℕ, ◌<◌}
use Rattle.rules.specs.Finding.{accepts}
use Rattle.corrections.specs.Five.{rule_of}
use Rattle.corrections.specs.Corrections.{replaced}
use Rattle.corrections.proofs.number.Number.digit_at.Given as goal

-- no digit below d is accepted
abbrev pub invariant-loop-d : goal.invariant-loop-d
invariant-loop-d l = (x : ℕ) → x < l.d → accepts (rule_of l.self.kind) (replaced l.self.digits.now l.i x) ≡ false
