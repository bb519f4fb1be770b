-- The corrections of a refused number: those that the rule accepts, single replacements first, and then exchanges.
use Rattle.std.specs.Prelude.{Bool, true, false, List, [], ◌∷◌, ◌++◌, ℕ, zero, suc, ◌+◌, ◌-◌, length, set}
use Rattle.figures.specs.Changes.{exchanged}
use Rattle.rules.specs.declared.rule.Rule.{Rule}
use Rattle.rules.specs.Finding.{accepts}

-- f 0, then f 1, .. then f (n - 1), one after another
unfoldable pub each : {A : Type 0} → ℕ → (ℕ → List A) → List A
each zero f = []
each (suc n) f = each n f ++ f n

-- the number alone where the test says yes, else nothing
unfoldable pub only : Bool → List ℕ → List (List ℕ)
only true t = t ∷ []
only false t = []

-- a candidate, where the rule accepts it
unfoldable pub if_accepted : Rule → List ℕ → List (List ℕ)
if_accepted r t = only (accepts r t) t

-- s with the digit d at place i
abbrev pub replaced : List ℕ → ℕ → ℕ → List ℕ
replaced s i d = set s i (48 + d)

-- with some digit at place i
unfoldable pub fixes_at : Rule → List ℕ → ℕ → List (List ℕ)
fixes_at r s i = each 10 (λ d. if_accepted r (replaced s i d))

-- by position from the left; s itself is refused, and so not among them
unfoldable pub replacements : Rule → List ℕ → List (List ℕ)
replacements r s = each (length s) (fixes_at r s)

-- by position; two equal neighbours give s again, which is refused
unfoldable pub exchanges : Rule → List ℕ → List (List ℕ)
exchanges r s = each (length s - 1) (λ i. if_accepted r (exchanged s i))

unfoldable pub corrections : Rule → List ℕ → List (List ℕ)
corrections r s = replacements r s ++ exchanges r s
