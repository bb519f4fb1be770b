-- The laws of the normalised and of the stripped text, for every list of bytes.
use mathlib.Core.Path.{◌≡◌, refl, sym, ap, subst, ◌∙◌}
use mathlib.Core.List.{List, [], ◌∷◌, ◌++◌, map-append}
use mathlib.Core.Bool.{Bool, true, false}
use mathlib.Core.Logic.{◌⊎◌, inl, inr, ⊎_elim}
use Prim.Native.Nat.{ℕ, suc, ◌+◌, ◌-◌, ◌≤◌, ◌<◌}
use native.Mathlib.Nat.{add-zero}
use native.Mathlib.Omega.{arith}
use borrow.Author.Tests.{leb-true}
use lib.Dec.{leb}
use lib.ListN.{length, replicate, length-map}
use lib.Seq.{take_at}
use Rattle.ascii.specs.Pick.{pick}
use Rattle.answer.specs.declared.reason.Reason.{Reason}
use Rattle.answer.specs.declared.reason.Reason.TheVariants.{Long, Utf8}
use Rattle.text.specs.declared.reading.Reading.{Reading}
use Rattle.text.specs.declared.reading.Reading.TheVariants.{AsItStands, Normalised, Stripped}
use Rattle.text.specs.Content.{Piece, Cell, Content, malformed, content, content_from, content_of, cells, cells_of, codes}
use Rattle.text.specs.Words.{words, space_after, spaced, closed, normal, stripped}
use Rattle.text.specs.Answer.{why_refused, readable_of, padded, kept, refusal, on_content, answer, normal_text, stripped_text, len_of, without_len, text_of, text_by}
use Rattle.text.specs.Neat.{All, Dark, Neat, bytes_of}
use Rattle.text.proofs.Rows.{row_1}
use Rattle.text.proofs.Padded.{length_padded}
use Rattle.text.proofs.Points.{texts, texts_cells}
use Rattle.text.proofs.Sound.{Sound, placed, reread, read}
use Rattle.text.proofs.Walk.{answer_short}
use Rattle.text.proofs.Words.{all_append, all_words, all_spaced, all_closed, words_word, closed_dark, spaced_dark, Solid, solid, shorter, closed_shorter, neat_spaced, codes_placed}

-- ---- a text's bytes are those of its points

texts_pieces : (ps : List Piece) → texts (cells_of ps) ≡ bytes_of ps
unfolding cells_of bytes_of
texts_pieces [] = refl
texts_pieces (p ∷ ps) =
    map-append (λ (c : Cell). c.byte) (cells p.at p.bytes) (cells_of ps) ∙ rw (texts_cells p.at p.bytes, texts_pieces ps)

text_kept : (cs : List Cell) → text_of (kept cs) ≡ texts cs
unfolding kept padded
text_kept cs = take_at (texts cs) (replicate (1024 - length (texts cs)) 0) (length cs) (simp length-map)

-- a content that is neither too long nor malformed
pub record Taken (s : List ℕ) : Type 0 where
  pub short : length s ≤ 1024
  pub points : List Piece
  pub reads : content_of s ≡ content points

-- ---- normalising and stripping refuse what can't be read, by the same reason

reason_on : (c : Content) (f : List Piece → List Cell) → without_len (on_content c f).kept ≡ why_refused c
unfolding kept refusal
reason_on malformed f = refl
reason_on (content ps) f = refl

reason_at : (f : List Piece → List Cell) (s : List ℕ) (t : Bool) → leb (length s) 1024 ≡ t → without_len (answer f s).kept ≡ readable_of s
unfolding answer readable_of refusal pick
reason_at f s true e = rw e (reason_on (content_of s) f)
reason_at f s false e = rw e

pub reason_normal : (s : List ℕ) → without_len (normal_text s).kept ≡ readable_of s
unfolding normal_text
reason_normal s = reason_at normal s (leb (length s) 1024) refl

pub reason_stripped : (s : List ℕ) → without_len (stripped_text s).kept ≡ readable_of s
unfolding stripped_text
reason_stripped s = reason_at stripped s (leb (length s) 1024) refl

-- ---- what holds of every way to pick points of a content: g says which, and f what is kept of them

pub record Picks (f : List Piece → List Cell) (g : List Piece → List Piece) : Type 1 where
  pub cells : (ps : List Piece) → f ps ≡ cells_of (g ps)
  pub all : (P : Piece → Type 0) → ((w : List Piece) → P (space_after w)) → (ps : List Piece) → All P ps → All P (g ps)
  pub short : (ps : List Piece) → All Solid ps → length (bytes_of (g ps)) ≤ length (bytes_of ps)

space_sound : (w : List Piece) → Sound (space_after w)
space_sound w r = row_1 0x20 r (omega arith)

module _ (f : List Piece → List Cell) where
  outcome_at : (s : List ℕ) (t : Bool) (c : Content) → leb (length s) 1024 ≡ t → content_of s ≡ c
      → ((r : Reason) × (answer f s ≡ refusal r)) ⊎ Taken s
  unfolding answer pick
  outcome_at s false c e h = inl (Long, rw e)
  outcome_at s true malformed e h = inl (Utf8, rw (e, h))
  outcome_at s true (content ps) e h = inr (record { short = leb-true (length s) 1024 e; points = ps; reads = h })

  -- a content is refused, or it is taken
  outcome : (s : List ℕ) → ((r : Reason) × (answer f s ≡ refusal r)) ⊎ Taken s
  outcome s = outcome_at s (leb (length s) 1024) (content_of s) refl refl

  -- and where it is refused its text is empty
  taken : (s : List ℕ) → (text_of (answer f s) ≡ []) ⊎ Taken s
  unfolding refusal
  taken s = ⊎_elim (λ r. inl (ap text_of r.1)) inr (outcome s)

  answer_taken : (s : List ℕ) (t : Taken s) → answer f s ≡ kept (f t.points)
  answer_taken s t = sym (answer_short f s t.short) ∙ ap (λ (c : Content). on_content c f) t.reads

module _ (f : List Piece → List Cell) (g : List Piece → List Piece) (k : Picks f g) where
  pub text_taken : (s : List ℕ) (t : Taken s) → text_of (answer f s) ≡ bytes_of (g t.points)
  text_taken s t =
      ap text_of (answer_taken f s t ∙ ap kept (k.cells t.points)) ∙ text_kept (cells_of (g t.points)) ∙ texts_pieces (g t.points)

  no_longer : (s : List ℕ) → length (text_of (answer f s)) ≤ length s
  no_longer s =
      ⊎_elim
      (λ e. rw e (omega arith))
      (λ t. let r = read s t.points t.reads in rw (text_taken s t, ← r.bytes) (k.short t.points (solid t.points r.sound)))
      (taken f s)

  len_taken : (s : List ℕ) (t : Taken s) → len_of (answer f s).kept ≡ length (text_of (answer f s))
  unfolding kept
  len_taken s t = rw (answer_taken f s t, text_kept (f t.points)) (sym (simp length-map))

  -- its length is the answer's, and it fits the area
  len_text : (s : List ℕ) → len_of (answer f s).kept ≡ length (text_of (answer f s))
  unfolding refusal
  len_text s = ⊎_elim (λ r. rw r.1) (λ t. len_taken s t) (outcome f s)

  len_fits : (s : List ℕ) → (len_of (answer f s).kept ≤ length s) × (len_of (answer f s).kept ≤ 1024)
  unfolding refusal
  len_fits s =
      let a = len_text s in
      let b = no_longer s in
      (omega arith, ⊎_elim (λ r. rw r.1 (omega arith)) (λ t. let x = t.short in omega arith) (outcome f s))

  -- the area is whole, so the text is a part of it
  area_taken : (s : List ℕ) (t : Taken s) → length (answer f s).bytes ≡ 1024
  unfolding kept
  area_taken s t =
      let h = (len_fits s).1 in
      rw (answer_taken f s t) (length_padded (texts (f t.points)) (simp length-map (rw (answer_taken f s t) at h)))

  area_whole : (s : List ℕ) → length (answer f s).bytes ≡ 1024
  unfolding refusal
  area_whole s = ⊎_elim (λ r. rw r.1 (length_padded [] (omega arith))) (λ t. area_taken s t) (outcome f s)

  -- the text is read as the points that were picked
  again : (s : List ℕ) (t : Taken s) → content_of (bytes_of (g t.points)) ≡ content (placed 0 (g t.points))
  unfolding content_of
  again s t = reread (g t.points) 0 (k.all Sound space_sound t.points (read s t.points t.reads).sound)

  module _ (Q : ℕ → Type 0) where
    abbrev Of : Piece → Type 0
    Of p = All Q p.bytes

    all_split : (a b : List ℕ) → All Q (a ++ b) → All Q a × All Q b
    all_split [] b h = (tt, h)
    all_split (x ∷ a) b h = let r = all_split a b h.1 in ((h.0, r.0), r.1)

    bytes_of_lem : (ps : List Piece) → All Q (bytes_of ps) → All Of ps
    unfolding bytes_of
    bytes_of_lem [] h = tt
    bytes_of_lem (p ∷ ps) h = let r = all_split p.bytes (bytes_of ps) h in (r.0, bytes_of_lem ps r.1)

    of_bytes : (ps : List Piece) → All Of ps → All Q (bytes_of ps)
    unfolding bytes_of
    of_bytes [] h = tt
    of_bytes (p ∷ ps) h = all_append Q p.bytes (bytes_of ps) h.0 (of_bytes ps h.1)

    every_byte : Q 0x20 → (s : List ℕ) → All Q s → All Q (text_of (answer f s))
    every_byte q s h =
        ⊎_elim
        (λ e. rw e tt)
        (λ t.
        let r = read s t.points t.reads in
        rw (text_taken s t)
        (of_bytes (g t.points) (k.all Of (λ w. (q, tt)) t.points (bytes_of_lem t.points (subst (All Q) (sym r.bytes) h)))))
        (taken f s)

-- ---- normalising

abbrev pub tidy : List Piece → List Piece
tidy ps = spaced (words ps)

pub picks_normal : Picks normal tidy
unfolding normal
picks_normal =
    record {
      cells = λ ps. refl;
      all = λ P s ps h. all_spaced P s (words ps) (all_words P ps h);
      short = shorter;
    }

-- the text is the words with one space between them
pub text_words : (s : List ℕ) (t : Taken s) → text_of (normal_text s) ≡ bytes_of (spaced (words t.points))
unfolding normal_text
text_words s t = text_taken normal tidy picks_normal s t

-- it is well-formed; each white point in it is a space between two points that are not white
pub neat : (s : List ℕ) → (qs : List Piece) × (content_of (text_of (normal_text s)) ≡ content qs) × Neat (codes qs)
unfolding normal_text content_of content_from
neat s =
    ⊎_elim
    (λ e. ([], rw e, λ i h w. absurd (omega arith)))
    (λ t. (
      placed 0 (tidy t.points),
      ap content_of (text_words s t) ∙ again normal tidy picks_normal s t,
      rw codes_placed (neat_spaced (words t.points) (words_word t.points)),
    ))
    (taken normal s)

-- its length is the answer's, which fits the area
pub text_length : (s : List ℕ) → len_of (normal_text s).kept ≡ length (text_of (normal_text s))
unfolding normal_text
text_length s = len_text normal tidy picks_normal s

pub text_fits : (s : List ℕ) → (len_of (normal_text s).kept ≤ length s) × (len_of (normal_text s).kept ≤ 1024)
unfolding normal_text
text_fits s = len_fits normal tidy picks_normal s

pub text_area : (s : List ℕ) → length (normal_text s).bytes ≡ 1024
unfolding normal_text
text_area s = area_whole normal tidy picks_normal s

-- a content with no white point is its own normalised text
cells_append : (o : ℕ) (a b : List ℕ) → cells o (a ++ b) ≡ cells o a ++ cells (o + length a) b
unfolding cells
cells_append o [] b = rw add-zero
cells_append o (x ∷ a) b = rw (cells_append (suc o) a b) (ap (λ (i : ℕ). record { byte = x; from = o } ∷ (cells (suc o) a ++ cells i b)) (omega arith))

cells_placed : (ps : List Piece) (o : ℕ) → cells_of (placed o ps) ≡ cells o (bytes_of ps)
unfolding cells_of cells bytes_of
cells_placed [] o = refl
cells_placed (p ∷ ps) o =
    ap (λ (l : List Cell). cells o p.bytes ++ l) (cells_placed ps (o + length p.bytes)) ∙ sym (cells_append o p.bytes (bytes_of ps))

pub unchanged : (s : List ℕ) (t : Taken s) → All Dark t.points → normal_text s ≡ kept (cells 0 s)
unfolding normal_text normal
unchanged s t d =
    let r = read s t.points t.reads in
    let e : tidy t.points ≡ placed 0 t.points = spaced_dark t.points d ∙ sym r.places in
    answer_taken normal s t ∙ ap kept (ap cells_of e ∙ cells_placed t.points 0 ∙ ap (cells 0) r.bytes)

-- ---- stripping

abbrev pub dense : List Piece → List Piece
dense ps = closed (words ps)

pub picks_stripped : Picks stripped dense
unfolding stripped
picks_stripped =
    record {
      cells = λ ps. refl;
      all = λ P s ps h. all_closed P (words ps) (all_words P ps h);
      short = λ ps h. closed_shorter ps;
    }

-- the text is the words with nothing between them
pub strip_words : (s : List ℕ) (t : Taken s) → text_of (stripped_text s) ≡ bytes_of (closed (words t.points))
unfolding stripped_text
strip_words s t = text_taken stripped dense picks_stripped s t

dark_placed : (ps : List Piece) (o : ℕ) → All Dark ps → All Dark (placed o ps)
dark_placed [] o h = tt
dark_placed (p ∷ ps) o h = (h.0, dark_placed ps (o + length p.bytes) h.1)

-- a stripped text is well-formed and has no white point
pub strip_dark : (s : List ℕ) → (qs : List Piece) × (content_of (text_of (stripped_text s)) ≡ content qs) × All Dark qs
unfolding stripped_text content_of content_from
strip_dark s =
    ⊎_elim
    (λ e. ([], rw e, tt))
    (λ t. (
      placed 0 (dense t.points),
      ap content_of (strip_words s t) ∙ again stripped dense picks_stripped s t,
      dark_placed (dense t.points) 0 (closed_dark t.points),
    ))
    (taken stripped s)

-- its length is the answer's, which fits the area
pub strip_length : (s : List ℕ) → len_of (stripped_text s).kept ≡ length (text_of (stripped_text s))
unfolding stripped_text
strip_length s = len_text stripped dense picks_stripped s

pub strip_fits : (s : List ℕ) → (len_of (stripped_text s).kept ≤ length s) × (len_of (stripped_text s).kept ≤ 1024)
unfolding stripped_text
strip_fits s = len_fits stripped dense picks_stripped s

pub strip_area : (s : List ℕ) → length (stripped_text s).bytes ≡ 1024
unfolding stripped_text
strip_area s = area_whole stripped dense picks_stripped s

-- ---- every reading

-- a text is never longer than its content
pub never_longer : (r : Reading) (s : List ℕ) → length (text_by r s) ≤ length s
unfolding normal_text stripped_text
never_longer AsItStands s = omega arith
never_longer Normalised s = no_longer normal tidy picks_normal s
never_longer Stripped s = no_longer stripped dense picks_stripped s

-- what holds of each byte of a content and of the space holds of each byte of the text
pub every : (Q : ℕ → Type 0) → Q 0x20 → (r : Reading) (s : List ℕ) → All Q s → All Q (text_by r s)
unfolding normal_text stripped_text
every Q q AsItStands s h = h
every Q q Normalised s h = every_byte normal tidy picks_normal Q q s h
every Q q Stripped s h = every_byte stripped dense picks_stripped Q q s h

pub below_256 : (r : Reading) (s : List ℕ) → All (λ (b : ℕ). b < 256) s → All (λ (b : ℕ). b < 256) (text_by r s)
below_256 r s h = every (λ (b : ℕ). b < 256) (omega arith) r s h
