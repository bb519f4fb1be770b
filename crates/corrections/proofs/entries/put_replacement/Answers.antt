-- `corrections::entries::put_replacement` meets its contract.
use mathlib.Core.Path.{sym}
use mathlib.Core.List.{[], ◌∷◌}
use Prim.Native.Nat.{◌+◌}
use native.Mathlib.Omega.{arith}
use Rattle.ascii.proofs.Area.{put_sets}
use Rattle.corrections.proofs.Areas.{put_one_row, put_no_row}
use Rattle.corrections.proofs.entries.put_replacement.Goals as goal

pub overflow_add-d : goal.overflow_add-d
overflow_add-d c = omega (arith, c.in-Some.ensures.digit)

pub returns-in-Some : goal.returns-in-Some
returns-in-Some c =
    put_one_row _ _ c.in-Some.ensures.found (sym (put_sets c.args.number.now.digits.now c.args.i ((48 + c.in-Some.d) ∷ []) (omega (arith, c.requires.inside)))) c.put_changed.ensures

pub returns-in-None : goal.returns-in-None
returns-in-None c = put_no_row _ _ _ _ c.in-None.ensures.found
