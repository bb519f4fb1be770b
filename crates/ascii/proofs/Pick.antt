-- One of two by a test t, which a function found to be the definition's test u. Assumes nothing.
use mathlib.Core.Path.{◌≡◌}
use mathlib.Core.Bool.{Bool, true, false}
use Rattle.ascii.specs.Pick.{pick}

module _ {A : Type 0} {t u : Bool} {r : A} (x y : A) (e : t ≡ u) where
  pub taken : t ≡ true → r ≡ x → r ≡ pick u x y
  unfolding pick
  taken h p = rw (← e, h) p

  pub left : t ≡ false → r ≡ y → r ≡ pick u x y
  unfolding pick
  left h p = rw (← e, h) p
