-- A text of rule 47's form is 13 bytes long, with digits from the third on. Assumes nothing.
use mathlib.Core.Path.{◌≡◌}
use mathlib.Core.Bool.{Bool, true, false}
use mathlib.Core.List.{List}
use Prim.Native.Nat.{ℕ}
use native.Mathlib.Omega.{arith}
use lib.Dec.{eqb}
use lib.ListN.{length, drop, get_or}
use Rattle.ascii.specs.Pick.{pick}
use Rattle.ascii.specs.Class.{is_digit, all}
use Rattle.forms.specs.Form.{fits, fault_of}
use Rattle.forms.specs.Table.{italian_of}
use Rattle.std.specs.Prelude.{Ok}
use Rattle.forms.proofs.Meaning.{fault_fits}
use Rattle.forms.proofs.Named.{headed, upper, lower}

by_case : (s : List ℕ) (t : Bool) → fits (pick t lower upper) s ≡ true → (length s ≡ 13) × (all is_digit (drop 2 s) ≡ true)
unfolding pick
by_case s true e = let h = headed _ 13 13 s e in (omega arith, h.digit)
by_case s false e = let h = headed _ 13 13 s e in (omega arith, h.digit)

pub italian_digits : (s : List ℕ) → fault_of (italian_of s) s ≡ Ok tt → (length s ≡ 13) × (all is_digit (drop 2 s) ≡ true)
italian_digits s e = by_case s (eqb (get_or s 0 0) 0x69) (fault_fits (italian_of s) s e)
