-- The rules with a check figure (docs/RULES.md, Rule 40 .. Rule 50). A rule reads the bytes of a text.
use Rattle.std.specs.Prelude.{Bool, List, ℕ, ◌%◌, eqb, ℤ, pos, nat_abs, ◌+ℤ◌, ◌-ℤ◌, ◌*ℤ◌, take, drop}
use Prim.Native.Char.{code}
use Rattle.ascii.specs.Class.{all}
use Rattle.forms.specs.Form.{fault_of}
use Rattle.forms.specs.Table.{some_digits, norwegian, belgian, italian_of, swedish, australian}
use Rattle.figures.specs.Total.{digit_at, number}
use Rattle.figures.specs.Figures.{total_by, right, figure40, figure41, belgian_pair, luhn, figure50}
use Rattle.figures.specs.Findings.{Finding, judged, judged_zero}

-- 40 0088: one or more digits
unfoldable pub gln : List ℕ → Finding
gln s = judged (fault_of some_digits s) (right figure40 s)

abbrev pub all_zero : List ℕ → Bool
all_zero s = all (eqb (code "0")) s

-- 41 0192: 9 digits; all zeros is a reason of its own
unfoldable pub mod11 : List ℕ → Finding
mod11 s = judged_zero (fault_of norwegian s) (all_zero s) (right figure41 s)

-- 43 0208: 10 digits; the last two are the pair of the first eight
unfoldable pub mod97 : List ℕ → Finding
mod97 s = judged (fault_of belgian s) (eqb (number (drop 8 s)) (belgian_pair (number (take 8 s))))

-- 47 0211, where it is not let through: IT or it, and 11 digits
unfoldable pub partita_iva : List ℕ → Finding
partita_iva s = judged (fault_of (italian_of s) s) (right luhn (drop 2 s))

-- 49 0007: 10 digits
unfoldable pub se_orgnr : List ℕ → Finding
se_orgnr s = judged (fault_of swedish s) (right luhn s)

-- 50 0151: the first digit is reduced by one before weighting, so that a leading zero contributes -10
abbrev pub abn_total : List ℕ → ℤ
abn_total s = pos 10 *ℤ (pos (digit_at s 0) -ℤ pos 1) +ℤ pos (total_by figure50 (drop 1 s))

-- 11 digits; the total a multiple of the modulus
unfoldable pub abn : List ℕ → Finding
abn s = judged (fault_of australian s) (eqb (nat_abs (abn_total s) % figure50.modulus) 0)
