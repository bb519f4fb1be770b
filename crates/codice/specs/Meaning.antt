-- What a codice fiscale is, in one test.
use Rattle.std.specs.Prelude.{Bool, true, ◌&&◌, List, [], ◌∷◌, ◌==◌, length}
use Rattle.ascii.specs.Pick.{pick}
use Rattle.text.specs.Content.{Piece, codes}
use Rattle.codice.specs.Integer.{integer_text}
use Rattle.codice.specs.Codice.{Group, part, groups_of16}

-- each group passes its test
unfoldable pub all_pass : List Group → List Piece → Bool
all_pass [] ps = true
all_pass (g ∷ gs) ps = g.test (codes (part g ps)) && all_pass gs ps

-- 16 points in groups, or 11 of an integer text
unfoldable pub is_codice : List Piece → Bool
is_codice ps = pick (length ps == 16) (all_pass groups_of16 ps) ((length ps == 11) && integer_text (codes ps))
