-- A scheme by its length and its bytes. Assumes nothing.
use mathlib.Core.Path.{◌≡◌, refl, ap, ◌∙◌}
use mathlib.Core.Bool.{Bool, true, false, ◌&&◌}
use mathlib.Core.List.{List, [], ◌∷◌}
use Prim.Native.Nat.{ℕ}
use borrow.Author.Tests.{eqb-true}
use lib.Dec.{eqb}
use lib.ListN.{length, get_or}
use Rattle.std.specs.Prelude.{None}
use Rattle.ascii.specs.Pick.{pick}
use Rattle.ascii.specs.Written.{bytes, same_bytes}
use Rattle.ascii.proofs.Tests.{and_true}
use Rattle.ascii.proofs.Same.{same_length, four}
use Rattle.rules.specs.declared.rule.Rule.{Rule}
use Rattle.rules.specs.Facts.{facts, scheme_bytes, scheme_rules}
use Rattle.rules.specs.Choice.{with_scheme, by_scheme, at_term}

-- its four bytes, one by one
pub at_four : (s : List ℕ) (term : ℕ) → length s ≡ 4 → at_term s term ≡ at_term (get_or s 0 0 ∷ get_or s 1 0 ∷ get_or s 2 0 ∷ get_or s 3 0 ∷ []) term
at_four s term n = ap (λ t. at_term t term) (four s n)

-- every scheme has four
abbrev fours : List Rule → Bool
fours [] = true
fours (r ∷ rs) = eqb (length (scheme_bytes (facts r).scheme)) 4 && fours rs

all_four : fours scheme_rules ≡ true
all_four = refl

module _ (s : List ℕ) (n : length s ≡ 4 → ⊥) where
  not_same : (t : List ℕ) → eqb (length t) 4 ≡ true → same_bytes s t ≡ false
  not_same t e = same_length s t (λ g. n (g ∙ eqb-true _ _ e))

  none : (rs : List Rule) → fours rs ≡ true → with_scheme s rs ≡ None
  unfolding pick
  none [] e = refl
  none (r ∷ rs) e =
      let p = and_true (eqb (length (scheme_bytes (facts r).scheme)) 4) (fours rs) e in
      rw (not_same (scheme_bytes (facts r).scheme) p.0) (none rs p.1)

  by_none : by_scheme s ≡ None
  unfolding by_scheme
  by_none = none scheme_rules all_four

  pub at_none : (term : ℕ) → at_term s term ≡ None
  unfolding at_term pick
  at_none term = rw (not_same (bytes "9907") refl) by_none
