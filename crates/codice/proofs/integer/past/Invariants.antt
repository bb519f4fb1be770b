-- `codice::integer::past` meets its contract: by any test that the closure gives, what is left is to be read on. Assumes nothing.
use Rattle.std.proofs.Common.{◌≡◌, Bool, ℕ, length}
use Rattle.codice.specs.Integer.{past}
use Rattle.codice.specs.Inner.{Tests}
use Rattle.codice.proofs.integer.past.Given as goal

abbrev pub invariant-loop-rest : goal.invariant-loop-rest
invariant-loop-rest g l =
    goal.F-IsAlwaysCallable g l.test × ((q : ℕ → Bool) → Tests (goal.F-post g l.test) q → past q l.fn.p ≡ past q l.rest)

abbrev pub decreases-loop-rest : goal.decreases-loop-rest
decreases-loop-rest g l = length l.rest
