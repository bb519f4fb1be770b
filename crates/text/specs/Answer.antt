-- Which contents can be read, and what normalising and stripping hand back.
use Rattle.std.specs.Prelude.{ℕ, ◌-◌, List, [], ◌++◌, map, nat_le, length, take, replicate, Result, Ok, Err, ⊤}
use Rattle.ascii.specs.Pick.{pick}
use Rattle.text.specs.declared.area.Text.{Text}
use Rattle.text.specs.declared.reading.Reading.{Reading}
use Rattle.text.specs.declared.reading.Reading.TheVariants.{AsItStands, Normalised, Stripped}
use Rattle.answer.specs.declared.reason.Reason.{Reason}
use Rattle.answer.specs.declared.reason.Reason.TheVariants.{Long, Utf8}
use Rattle.text.specs.Content.{Content, malformed, content, content_of, Cell, Piece}
use Rattle.text.specs.Words.{normal, stripped}

abbrev pub why_refused : Content → Result ⊤ Reason
why_refused malformed = Err Utf8
why_refused (content ps) = Ok tt

-- whether a content can be read, and why not: it is too long, or else not well-formed
unfoldable pub readable_of : List ℕ → Result ⊤ Reason
readable_of s = pick (nat_le (length s) 1024) (why_refused (content_of s)) (Err Long)

-- a list in an area of 1,024 numbers, with zeros after it
unfoldable pub padded : List ℕ → List ℕ
padded l = l ++ replicate (1024 - length l) 0

unfoldable pub kept : List Cell → Text
kept cs = record { kept = Ok (length cs); bytes = padded (map (λ (c : Cell). c.byte) cs) }

unfoldable pub refusal : Reason → Text
refusal r = record { kept = Err r; bytes = padded [] }

abbrev pub on_content : Content → (List Piece → List Cell) → Text
on_content malformed f = refusal Utf8
on_content (content ps) f = kept (f ps)

unfoldable pub answer : (List Piece → List Cell) → List ℕ → Text
answer f s = pick (nat_le (length s) 1024) (on_content (content_of s) f) (refusal Long)

unfoldable pub normal_text : List ℕ → Text
normal_text s = answer normal s

unfoldable pub stripped_text : List ℕ → Text
stripped_text s = answer stripped s

-- what an area holds, as a text
abbrev pub text_in : Result ℕ Reason → List ℕ → Text
text_in k area = record { kept = k; bytes = area }

-- the length of a text that is kept, and 0 of one that is refused
abbrev pub len_of : Result ℕ Reason → ℕ
len_of (Ok n) = n
len_of (Err r) = 0

-- whether a text is kept, and why not
abbrev pub without_len : Result ℕ Reason → Result ⊤ Reason
without_len (Ok n) = Ok tt
without_len (Err r) = Err r

-- the bytes of a text, without the zeros after them
abbrev pub text_of : Text → List ℕ
text_of t = take (len_of t.kept) t.bytes

-- the text that is read of a content s: as it stands, normalised or stripped
abbrev pub text_by : Reading → List ℕ → List ℕ
text_by AsItStands s = s
text_by Normalised s = text_of (normal_text s)
text_by Stripped s = text_of (stripped_text s)
