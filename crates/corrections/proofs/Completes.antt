-- A completed number is accepted, by one figure alone; and a body is refused exactly when no figure completes it. Assumes nothing.
use mathlib.Core.Path.{◌≡◌, refl, sym, ◌∙◌}
use mathlib.Core.List.{List}
use Rattle.std.specs.Prelude.{None}
use Prim.Native.Nat.{ℕ}
use native.Mathlib.Omega.{arith}
use Rattle.ascii.specs.Pick.{pick}
use Rattle.ascii.proofs.Tests.{false_true}
use Rattle.forms.proofs.OfDigits.{Digits}
use Rattle.figures.specs.Completing.{Completes}
use Rattle.figures.proofs.Completing.{gln_completes, mod11_completes, mod11_none, mod97_completes, se_orgnr_completes, abn_completes}
use Rattle.rules.specs.Finding.{accepts}
use Rattle.corrections.specs.declared.five.Five.{Five}
use Rattle.corrections.specs.declared.five.Five.TheVariants.{Gln, Norway, Belgium, Sweden, Australia}
use Rattle.corrections.specs.Five.{row, rule_of}
use Rattle.corrections.specs.Completing.{figure_for, number_with, no_figure}
use Rattle.corrections.specs.Meaning.{NoneCompletes}

abbrev pub Completed : Five → List ℕ → Type 0
Completed k body = Completes (accepts (rule_of k)) (number_with k body) (row k).lowest (figure_for k body)

module _ (body : List ℕ) where
  pub completed : (k : Five) → Digits (row k).shortest (row k).longest body → no_figure k body ≡ None → Completed k body
  unfolding accepts pick
  completed Gln d e = gln_completes body d.digit (omega (arith, d.most))
  completed Norway d e = mod11_completes body d.digit (omega (arith, d.least, d.most)) e
  completed Belgium d e = mod97_completes body d.digit (omega (arith, d.least, d.most))
  completed Sweden d e = se_orgnr_completes body d.digit (omega (arith, d.least, d.most))
  completed Australia d e = abn_completes body d.digit (omega (arith, d.least, d.most))

  always : (k : Five) → Digits (row k).shortest (row k).longest body → no_figure k body ≡ None → NoneCompletes k body
  always k d e = (λ ne. absurd (ne e), λ none q. false_true (sym (none (figure_for k body) refl) ∙ (completed k d e).accepted))

  pub none_completes : (k : Five) → Digits (row k).shortest (row k).longest body → NoneCompletes k body
  unfolding accepts pick
  none_completes Gln d = always Gln d refl
  none_completes Norway d = mod11_none body d.digit (omega (arith, d.least, d.most))
  none_completes Belgium d = always Belgium d refl
  none_completes Sweden d = always Sweden d refl
  none_completes Australia d = always Australia d refl
