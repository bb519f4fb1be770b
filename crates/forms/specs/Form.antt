-- A form: the classes of the first bytes, the class of every byte after them, the least and the most length.
-- A class is written as a byte: `#` a digit, `&` a letter, `*` a letter or a digit, any other byte itself.
use Rattle.std.specs.Prelude.{Bool, Result, Ok, Err, is_ok, ⊤, List, [], ◌∷◌, ℕ, suc, ◌==◌, length, get_or}
use Prim.Native.Char.{code}
use Rattle.ascii.specs.Pick.{pick}
use Rattle.ascii.specs.Class.{within, is_digit, is_letter, is_plain}
use Rattle.forms.specs.declared.form.Fault.{Fault}
use Rattle.forms.specs.declared.form.Fault.TheVariants.{Length, At}

pub record Form : Type 0 where
  pub head : List ℕ
  pub rest : ℕ
  pub least : ℕ
  pub most : ℕ

abbrev pub form_from : List ℕ → ℕ → ℕ → ℕ → Form
form_from head rest least most = record { head = head; rest = rest; least = least; most = most }

unfoldable pub of_class : ℕ → ℕ → Bool
of_class class b =
    pick (class == code "#") (is_digit b)
    (pick (class == code "&") (is_letter b)
    (pick (class == code "*") (is_plain b)
    (b == class)))

-- the class of the byte at place k
abbrev pub class_at : List ℕ → ℕ → ℕ → ℕ
class_at head rest k = get_or head k rest

-- the first place whose byte is not of its class, where the bytes begin at place k
unfoldable pub wrong : (ℕ → ℕ) → ℕ → List ℕ → Result ⊤ Fault
wrong class k [] = Ok tt
wrong class k (b ∷ bs) = pick (of_class (class k) b) (wrong class (suc k) bs) (Err (At k))

-- what is wrong with a text: its length first, and then the first place that fails
unfoldable pub fault_of : Form → List ℕ → Result ⊤ Fault
fault_of f s = pick (within f.least f.most (length s)) (wrong (class_at f.head f.rest) 0 s) (Err Length)

unfoldable pub fits : Form → List ℕ → Bool
fits f s = is_ok (fault_of f s)
