-- Laws of the definitions, for the code's proofs. Assumes nothing.
use mathlib.Core.Path.{◌≡◌, refl}
use mathlib.Core.Bool.{Bool, true, false}
use mathlib.Core.List.{List, [], ◌∷◌}
use Prim.Native.Nat.{ℕ, zero, suc, ◌≤◌, ◌<◌}
use native.Mathlib.Nat.{not-suc-le-zero, le_of_suc-le-suc}
use borrow.Author.Tests.{ne_eqb}
use lib.ListN.{length, get_or}
use lib.Dec.{eqb}
use Rattle.ascii.specs.Pick.{pick}
use Rattle.ascii.specs.Class.{within, is_digit, is_letter, is_plain}
use Rattle.ascii.proofs.Class.{inside, below, above}
use Rattle.std.specs.Prelude.{Result, Err, ⊤}
use Rattle.forms.specs.declared.form.Fault.{Fault}
use Rattle.forms.specs.declared.form.Fault.TheVariants.{Length}
use Rattle.forms.specs.Form.{Form, of_class, class_at, wrong, fault_of}
use Rattle.forms.specs.Table.{italian_of}

-- the classes by their bytes
pub class_digit : (k b : ℕ) → k ≡ 0x23 → of_class k b ≡ is_digit b
unfolding of_class pick
class_digit k b h = rw h refl

pub class_letter : (k b : ℕ) → k ≡ 0x26 → of_class k b ≡ is_letter b
unfolding of_class pick
class_letter k b h = rw h refl

pub class_plain : (k b : ℕ) → k ≡ 0x2a → of_class k b ≡ is_plain b
unfolding of_class pick
class_plain k b h = rw h refl

pub class_self : (k b : ℕ) → (k ≡ 0x23 → ⊥) → (k ≡ 0x26 → ⊥) → (k ≡ 0x2a → ⊥) → of_class k b ≡ eqb b k
unfolding of_class pick
class_self k b h g e = rw (ne_eqb k 0x23 h, ne_eqb k 0x26 g, ne_eqb k 0x2a e) refl

-- within a list it does not matter what stands past its end
pub get_d_any : (l : List ℕ) (i d e : ℕ) → i < length l → get_or l i d ≡ get_or l i e
get_d_any [] i d e h = absurd (not-suc-le-zero h)
get_d_any (a ∷ l) zero d e h = refl
get_d_any (a ∷ l) (suc i) d e h = get_d_any l i d e (le_of_suc-le-suc h)

-- the length first, and then the bytes
module _ (f : Form) (s : List ℕ) where
  pub fault_short : length s < f.least → fault_of f s ≡ Err Length
  unfolding fault_of pick
  fault_short h = rw (below f.least f.most (length s) h) refl

  pub fault_long : f.most < length s → fault_of f s ≡ Err Length
  unfolding fault_of pick
  fault_long h = rw (above f.least f.most (length s) h) refl

  pub fault_inside : f.least ≤ length s → length s ≤ f.most → fault_of f s ≡ wrong (class_at f.head f.rest) 0 s
  unfolding fault_of pick
  fault_inside h g = rw (inside f.least f.most (length s) h g) refl

-- a form that is picked by a test
module _ {t : Bool} {x : Result ⊤ Fault} (f g : Form) (s : List ℕ) where
  pub picked_first : t ≡ true → x ≡ fault_of f s → x ≡ fault_of (pick t f g) s
  unfolding pick
  picked_first h e = rw h e

  pub picked_second : t ≡ false → x ≡ fault_of g s → x ≡ fault_of (pick t f g) s
  unfolding pick
  picked_second h e = rw h e

pub fault_empty : (s : List ℕ) → length s ≡ 0 → Err Length ≡ fault_of (italian_of s) s
unfolding within fault_of pick
fault_empty [] h = refl
fault_empty (b ∷ s) h = cc
