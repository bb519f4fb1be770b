-- At each place at most one digit makes the rule accept. Assumes nothing.
use mathlib.Core.Path.{◌≡◌, sym, ap, ◌∙◌}
use mathlib.Core.Bool.{true, false}
use mathlib.Core.List.{List, [], ◌∷◌}
use Prim.Native.Nat.{ℕ, ◌+◌, ◌<◌}
use native.Mathlib.Omega.{arith}
use native.Mathlib.Decide.{ℕ_discrete}
use lib.ListN.{length, length-set}
use lib.Seq.{get_or-set_same, set-set}
use Rattle.ascii.specs.Class.{is_digit, all}
use Rattle.ascii.proofs.Tests.{false_true, not_true}
use Rattle.figures.specs.Changes.{RefusesReplaced}
use Rattle.figures.proofs.Detect.{gln_replaced, mod11_replaced, mod97_replaced, se_orgnr_replaced, abn_replaced}
use Rattle.figures.proofs.Links.{gln_links, mod11_links, mod97_links, se_orgnr_links, abn_links}
use Rattle.rules.specs.declared.rule.Rule.{Rule}
use Rattle.rules.specs.Finding.{accepts}
use Rattle.corrections.specs.declared.five.Five.{Five}
use Rattle.corrections.specs.declared.five.Five.TheVariants.{Gln, Norway, Belgium, Sweden, Australia}
use Rattle.corrections.specs.Five.{rule_of}
use Rattle.corrections.specs.Corrections.{only, if_accepted, replaced, fixes_at}
use Rattle.corrections.proofs.Areas.{each_none, each_one}

pub accepted_no : (r : Rule) (t : List ℕ) → accepts r t ≡ false → if_accepted r t ≡ []
unfolding if_accepted only
accepted_no r t e = rw e

pub accepted_yes : (r : Rule) (t : List ℕ) → accepts r t ≡ true → if_accepted r t ≡ t ∷ []
unfolding if_accepted only
accepted_yes r t e = rw e

-- ---- what the five rules have in common

pub refuses : (k : Five) → RefusesReplaced (accepts (rule_of k))
unfolding accepts
refuses Gln = gln_replaced
refuses Norway = mod11_replaced
refuses Belgium = mod97_replaced
refuses Sweden = se_orgnr_replaced
refuses Australia = abn_replaced

pub accepted_digits : (k : Five) (t : List ℕ) → accepts (rule_of k) t ≡ true → all is_digit t ≡ true
unfolding accepts
accepted_digits Gln t h = (gln_links t h).form.digit
accepted_digits Norway t h = (mod11_links t h).form.digit
accepted_digits Belgium t h = (mod97_links t h).form.digit
accepted_digits Sweden t h = (se_orgnr_links t h).form.digit
accepted_digits Australia t h = (abn_links t h).form.digit

module _ (k : Five) (s : List ℕ) (i : ℕ) where
  replaced_one : (d e : ℕ) → i < length s → accepts (rule_of k) (replaced s i d) ≡ true → accepts (rule_of k) (replaced s i e) ≡ true → d ≡ e
  replaced_one d e h p q =
      elim (ℕ_discrete d e) [
        | yes w ↦ w
        | no ne ↦
            let t = replaced s i d in
            let g = get_or-set_same s i (48 + d) 0 h in
            let no = refuses k t i (48 + e) p (simp length-set h) (λ x. differ d e ne (sym g ∙ x)) in
            false_true (sym no ∙ ap (accepts (rule_of k)) (set-set s i (48 + d) (48 + e)) ∙ q)
      ]
    where
      differ : (a b : ℕ) → (a ≡ b → ⊥) → 48 + a ≡ 48 + b → ⊥
      differ a b ne x = ne (omega arith)

  pub fixes_hit : (d : ℕ) → i < length s → d < 10 → accepts (rule_of k) (replaced s i d) ≡ true → fixes_at (rule_of k) s i ≡ replaced s i d ∷ []
  unfolding fixes_at
  fixes_hit d h hd e =
      each_one 10 (λ x. if_accepted (rule_of k) (replaced s i x)) d hd
      (λ x hx ne. accepted_no (rule_of k) (replaced s i x) (not_true (accepts (rule_of k) (replaced s i x)) (λ y. ne (replaced_one x d h y e))))
      ∙ accepted_yes (rule_of k) (replaced s i d) e

  pub fixes_none : ((x : ℕ) → x < 10 → accepts (rule_of k) (replaced s i x) ≡ false) → fixes_at (rule_of k) s i ≡ []
  unfolding fixes_at
  fixes_none none = each_none 10 (λ x. if_accepted (rule_of k) (replaced s i x)) (λ x hx. accepted_no (rule_of k) (replaced s i x) (none x hx))
