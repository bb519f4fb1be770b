-- Rules 45 and 46: 16 code points in groups, or 11 of an integer text.
use Rattle.std.specs.Prelude.{Bool, true, List, [], ◌∷◌, map, ℕ, suc, ◌-◌, ◌==◌, length, slice_index, take, drop, Result, Ok, Err, ⊤}
use Rattle.ascii.specs.Pick.{pick}
use Rattle.ascii.specs.Class.{is_digit, is_letter, all}
use Rattle.text.specs.Content.{Piece, Content, malformed, content, content_of, codes}
use Rattle.forms.specs.declared.form.Fault.{Fault}
use Rattle.forms.specs.declared.form.Fault.TheVariants.{Length, At}
use Rattle.codice.specs.Integer.{integer_text}

-- a group: the points from a first to a last, counted from 0, and the test that they must pass
pub record Group : Type 0 where
  pub first : ℕ
  pub last : ℕ
  pub test : List ℕ → Bool

abbrev pub group : ℕ → ℕ → (List ℕ → Bool) → Group
group first last test = record { first = first; last = last; test = test }

-- the points of a group
abbrev pub part : Group → List Piece → List Piece
part g ps = take (suc g.last - g.first) (drop g.first ps)

abbrev pub all_letters : List ℕ → Bool
all_letters cs = all is_letter cs

abbrev pub all_digits : List ℕ → Bool
all_digits cs = all is_digit cs

abbrev pub anything : List ℕ → Bool
anything cs = true

-- the groups of 16 points
abbrev pub groups_of16 : List Group
groups_of16 =
    group 0 5 all_letters
    ∷ group 6 7 integer_text
    ∷ group 8 8 all_letters
    ∷ group 9 10 integer_text
    ∷ group 11 13 anything
    ∷ group 14 14 all_digits
    ∷ group 15 15 all_letters
    ∷ []

-- the one group of 11
abbrev pub groups_of11 : List Group
groups_of11 = group 0 10 integer_text ∷ []

-- the places of the points' first bytes
abbrev pub places : List Piece → List ℕ
places ps = map (λ (p : Piece). p.at) ps

-- the place of the first group that fails
unfoldable pub failing : List Group → List Piece → Result ⊤ Fault
failing [] ps = Ok tt
failing (g ∷ gs) ps = pick (g.test (codes (part g ps))) (failing gs ps) (Err (At (slice_index (places ps) g.first)))

unfoldable pub codice_of : Content → Result ⊤ Fault
codice_of malformed = Err Length
codice_of (content ps) =
    pick (length ps == 16) (failing groups_of16 ps)
    (pick (length ps == 11) (failing groups_of11 ps)
    (Err Length))

-- what is wrong with a text: how many code points it has, or the place of the first group that fails
unfoldable pub codice_fault : List ℕ → Result ⊤ Fault
codice_fault s = codice_of (content_of s)
