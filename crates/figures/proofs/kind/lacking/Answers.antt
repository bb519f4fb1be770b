-- `figures::kind::lacking` meets its contract. Assumes nothing.
use mathlib.Core.Path.{refl}
use Rattle.figures.proofs.kind.lacking.Goals as goal

pub returns-in-Mod10 : goal.returns-in-Mod10
returns-in-Mod10 c = rw c.in-Mod10.is refl

pub returns-in-Mod11 : goal.returns-in-Mod11
returns-in-Mod11 c = rw c.in-Mod11.is refl

pub returns-in-Mod97 : goal.returns-in-Mod97
returns-in-Mod97 c = rw c.in-Mod97.is c.belgian_pair.ensures

pub returns-in-Luhn : goal.returns-in-Luhn
returns-in-Luhn c = rw c.in-Luhn.is refl

pub returns-in-Mod89 : goal.returns-in-Mod89
returns-in-Mod89 c = rw c.in-Mod89.is refl
