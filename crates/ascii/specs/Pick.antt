-- One of two by a test.
use Rattle.std.specs.Prelude.{Bool, true, false}

unfoldable pub pick : {A : Type 0} → Bool → A → A → A
pick true x y = x
pick false x y = y
