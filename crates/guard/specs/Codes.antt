-- The withdrawn codes of the EAS list.
use Rattle.std.specs.Prelude.{Option, Some, None, List, [], ◌∷◌, ℕ}
use Prim.Native.String.{String}
use Rattle.ascii.specs.Pick.{pick}
use Rattle.ascii.specs.Written.{bytes, same_bytes}
use Rattle.guard.specs.declared.code.Withdrawal.{Withdrawal}

pub record Row : Type 0 where
  pub code : List ℕ
  pub successor : Option (List ℕ)

-- a code with its successor, and one that has none
abbrev pub used_now : String → String → Row
used_now code successor = record { code = bytes code; successor = Some (bytes successor) }

abbrev pub not_used : String → Row
not_used code = record { code = bytes code; successor = None }

abbrev pub rows : List Row
rows =
    used_now "9901" "0096"
    ∷ used_now "9902" "0184"
    ∷ used_now "9904" "0198"
    ∷ not_used "9905"
    ∷ used_now "9906" "0211"
    ∷ used_now "9907" "0210"
    ∷ used_now "9917" "0196"
    ∷ used_now "9921" "0201"
    ∷ used_now "9954" "0190"
    ∷ used_now "9955" "0007"
    ∷ used_now "9956" "0208"
    ∷ used_now "9958" "0204"
    ∷ []

-- the answer of the row of a code
unfoldable pub withdrawn_in : List Row → List ℕ → Option Withdrawal
withdrawn_in [] code = None
withdrawn_in (row ∷ more) code = pick (same_bytes code row.code) (Some (record { successor = row.successor })) (withdrawn_in more code)

unfoldable pub withdrawn_of : List ℕ → Option Withdrawal
withdrawn_of code = withdrawn_in rows code
