-- What is found in a content, by the text of it that stands in an area. Assumes nothing.
use mathlib.Core.Path.{◌≡◌, sym, ap, ◌∙◌}
use mathlib.Core.List.{List}
use Prim.Native.Nat.{ℕ}
use lib.ListN.{take}
use Rattle.std.specs.Prelude.{Result}
use Rattle.answer.specs.declared.reason.Reason.{Reason}
use Rattle.text.specs.declared.area.Text.{Text}
use Rattle.text.specs.declared.reading.Reading.TheVariants.{Normalised, Stripped}
use Rattle.text.specs.Answer.{normal_text, stripped_text, text_in, text_of, without_len, len_of}
use Rattle.text.proofs.Laws.{reason_normal, reason_stripped}
use Rattle.figures.specs.Findings.{Finding}
use Rattle.checks.specs.Reading.{when_read, found_in}

abbrev pub in_area : (List ℕ → Finding) → Text → Finding
in_area judge t = when_read (without_len t.kept) (judge (text_of t))

module _ (judge : List ℕ → Finding) (k : Result ℕ Reason) (area s : List ℕ) where
  pub found_normal : text_in k area ≡ normal_text s → found_in Normalised judge s ≡ when_read (without_len k) (judge (take (len_of k) area))
  unfolding found_in
  found_normal e = sym (ap (in_area judge) e ∙ rw (reason_normal s))

  pub found_stripped : text_in k area ≡ stripped_text s → found_in Stripped judge s ≡ when_read (without_len k) (judge (take (len_of k) area))
  unfolding found_in
  found_stripped e = sym (ap (in_area judge) e ∙ rw (reason_stripped s))
