-- What contracts of inner functions say; no rule cites it.
use Rattle.std.specs.Prelude.{◌≡◌, Bool, List, ℕ, ◌<◌, ◌≤◌, length, take, Option, Some, None, Result, Err, ⊤}
use Rattle.text.specs.Content.{Piece, content, content_of, codes}
use Rattle.forms.specs.declared.form.Fault.{Fault}
use Rattle.forms.specs.declared.form.Fault.TheVariants.{Length}
use Rattle.codice.specs.Codice.{Group, places, failing, codice_fault}

-- what a function may give of a code point is what a test gives
abbrev pub Tests : (ℕ → Bool → Type 0) → (ℕ → Bool) → Type 0
Tests gives test = (c : ℕ) (r : Bool) → c < 4294967296 → gives c r → r ≡ test c

-- points by their numbers and their places
pub record Listed (cs ats : List ℕ) (ps : List Piece) : Type 0 where
  pub number : codes ps ≡ cs
  pub place : places ps ≡ ats

-- n points, listed from the start of two areas of 16
pub record Stand (s cs ats : List ℕ) (n : ℕ) : Type 0 where
  pub points : List Piece
  pub reads : content_of s ≡ content points
  pub listed : Listed (take n cs) (take n ats) points
  pub few : n ≤ 16
  pub room : length cs ≡ 16
  pub room2 : length ats ≡ 16

-- all of the points, or the text has no number of points that fits
abbrev pub Taken : List ℕ → List ℕ → List ℕ → Option ℕ → Type 0
Taken s cs ats (Some n) = Stand s cs ats n
Taken s cs ats None = codice_fault s ≡ Err Length

-- the answer by groups to points of these numbers and places
abbrev pub Answered : List Group → List ℕ → List ℕ → Result ⊤ Fault → Type 0
Answered gs cs ats x = (ps : List Piece) → Listed cs ats ps → x ≡ failing gs ps
