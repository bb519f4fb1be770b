-- Laws of the definitions, for the code's proofs. Assumes nothing.
use mathlib.Core.Path.{◌≡◌, refl, ◌∙◌, sym, ap}
use mathlib.Core.Bool.{Bool, true, false, ◌&&◌, and-true}
use mathlib.Core.List.{List, [], ◌∷◌}
use Prim.Native.Nat.{ℕ, zero, suc, ◌-◌, ◌<◌}
use lib.ListN.{length, get_or, take, drop}
use lib.Seq.{drop-cons}
use Rattle.ascii.specs.Pick.{pick}
use Rattle.std.specs.List.{list_all}
use Rattle.ascii.specs.Class.{all}
use Rattle.text.specs.Content.{Piece, codes}
use Rattle.forms.specs.declared.form.Fault.{Fault}
use Rattle.std.specs.Prelude.{Result, Ok, Err, ⊤}
use Rattle.forms.specs.declared.form.Fault.TheVariants.{At}
use Rattle.codice.specs.Codice.{Group, part, failing}
use Rattle.codice.specs.Inner.{Listed, Answered}

-- `all` of std
pub all_list : (p : ℕ → Bool) (l : List ℕ) → list_all p l ≡ all p l
unfolding all
all_list p [] = refl
all_list p (c ∷ l) = ap (λ (t : Bool). p c && t) (all_list p l)

-- one point
pub one_point : (p : ℕ → Bool) (s : List ℕ) (i : ℕ) → i < length s → p (get_or s i 0) ≡ all p (take 1 (drop i s))
unfolding all
one_point p s i h = rw (drop-cons s i 0 h) (sym (and-true (p (get_or s i 0))))

-- a part of the points has a part of their numbers
codes_take : (n : ℕ) (ps : List Piece) → codes (take n ps) ≡ take n (codes ps)
codes_take zero ps = refl
codes_take (suc n) [] = refl
codes_take (suc n) (p ∷ ps) = ap (λ (l : List ℕ). p.code ∷ l) (codes_take n ps)

codes_drop : (n : ℕ) (ps : List Piece) → codes (drop n ps) ≡ drop n (codes ps)
codes_drop zero ps = refl
codes_drop (suc n) [] = refl
codes_drop (suc n) (p ∷ ps) = codes_drop n ps

-- the groups one after another, each by what `passes` gives of it
pick_ok : (t : Bool) (d : Fault) → Ok tt ≡ pick {A = Result ⊤ Fault} t (Ok tt) (Err d) → t ≡ true
unfolding pick
pick_ok true d e = refl
pick_ok false d e = cc

module _ (g : Group) (gs : List Group) (cs ats : List ℕ) {t : Bool} (e : t ≡ g.test (take (suc g.last - g.first) (drop g.first cs))) where
  tested : {ps : List Piece} → Listed cs ats ps → g.test (codes (part g ps)) ≡ t
  tested {ps} l = rw (codes_take (suc g.last - g.first) (drop g.first ps), codes_drop g.first ps, l.number) (sym e)

  abbrev place : Fault
  place = At (get_or ats g.first 0)

  ok : t ≡ true → {y : Result ⊤ Fault} → Answered gs cs ats y → Answered (g ∷ gs) cs ats y
  unfolding failing pick
  ok h r = λ ps l. rw (tested l, h) (r ps l)

  -- the group of any points passes unasked
  pub group_free : t ≡ true → {y : Result ⊤ Fault} → Answered gs cs ats y → Answered (g ∷ gs) cs ats y
  group_free h r = ok h r

  module _ {x : Result ⊤ Fault} (q : x ≡ pick t (Ok tt) (Err place)) where
    pub group_passed : x ≡ Ok tt → {y : Result ⊤ Fault} → Answered gs cs ats y → Answered (g ∷ gs) cs ats y
    group_passed h r = ok (pick_ok t place (sym h ∙ q)) r

    failed : (u : Bool) → t ≡ u → {d : Fault} → Err d ≡ pick {A = Result ⊤ Fault} u (Ok tt) (Err place) → Answered (g ∷ gs) cs ats (Err d)
    unfolding failing pick
    failed true h w = cc
    failed false h w = λ ps l. rw (tested l, h, l.place) w

    pub group_failed : {d : Fault} → x ≡ Err d → Answered (g ∷ gs) cs ats (Err d)
    group_failed h = failed t refl (sym h ∙ q)

  pub group_last : {x : Result ⊤ Fault} → x ≡ pick t (Ok tt) (Err place) → gs ≡ [] → Answered (g ∷ gs) cs ats x
  unfolding failing
  group_last q n = λ ps l. rw (tested l, l.place, n) q
