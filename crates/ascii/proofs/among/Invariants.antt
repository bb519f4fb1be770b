-- c was found before d, or is among the entries from d on, exactly when it is among all.
use Rattle.std.proofs.Common.{◌≡◌, drop}
use mathlib.Core.Bool.{◌||◌}
use Rattle.ascii.specs.Class.{among}
use Rattle.ascii.proofs.among.Given as goal

abbrev pub invariant-loop-d : goal.invariant-loop-d
invariant-loop-d l = (l.found || among l.c (drop l.d-index l.list)) ≡ among l.c l.list
