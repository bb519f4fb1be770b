-- The rows that are left answer for all.
use Rattle.std.specs.Prelude.{◌≡◌, map, drop}
use Rattle.guard.specs.Codes.{withdrawn_in, withdrawn_of}
use Rattle.guard.proofs.Rows.{row_of}
use Rattle.guard.proofs.code.withdrawn.Given as goal

abbrev pub invariant-loop-old : goal.invariant-loop-old
invariant-loop-old l = withdrawn_of l.code ≡ withdrawn_in (map row_of (drop l.old-index l.old-items)) l.code
