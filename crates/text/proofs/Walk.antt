-- The state of the loop that puts a content's words in an area, and what a turn does to it.
use mathlib.Core.Path.{◌≡◌, refl, sym, ap, ◌∙◌}
use mathlib.Core.List.{List, [], ◌∷◌, ◌++◌, append_assoc, append-nil, map-append}
use mathlib.Core.Bool.{Bool, true, false, ◌&&◌}
use Prim.Native.Nat.{ℕ, zero, suc, ◌+◌, ◌≤◌, ◌<◌}
use native.Mathlib.Nat.{add-zero}
use native.Mathlib.Omega.{arith}
use borrow.Author.Tests.{le-leb, lt-leb, ltb-true, lt-ltb}
use lib.ListN.{length, take, drop, set, get_or, replicate, length-append, length-drop, length-map}
use lib.Seq.{length-take-le}
use Rattle.ascii.specs.Pick.{pick}
use Rattle.ascii.specs.Area.{put}
use Rattle.ascii.specs.Class.{all, within}
use Rattle.ascii.proofs.Area.{put_nil, put_sets}
use Rattle.ascii.proofs.Class.{all_first, all_rest}
use Rattle.ascii.proofs.Tests.{false_true, and_true}
use Rattle.std.specs.Prelude.{None, Ok, nat_lt}
use Rattle.text.specs.declared.area.Text.{Text}
use Rattle.answer.specs.declared.reason.Reason.TheVariants.{Long, Utf8}
use Rattle.text.specs.Utf8.{point, step_of}
use Rattle.text.specs.White.{is_white}
use Rattle.text.specs.Content.{Piece, Cell, Content, malformed, content, content_from, content_of, cells, cells_of}
use Rattle.text.specs.Words.{words, parts, closed, normal, stripped}
use Rattle.text.specs.Answer.{padded, kept, refusal, on_content, answer, normal_text, stripped_text}
use Rattle.text.specs.Inner.{IsRun, Blank}
use Rattle.text.proofs.Run.{put_behind}
use Rattle.text.proofs.Byte.{dark_byte, dark_step, space_white, space_step}
use Rattle.text.proofs.Padded.{length_padded, padded_put}
use Rattle.text.proofs.Modes.{Mode, before, behind, apart, coming, space, walk_normal, stripped_white, stripped_dark}
use Rattle.text.proofs.Points.{point_good, stuck, none_left, advance, texts, texts_cells, length_cells}

pub answer_short : (f : List Piece → List Cell) (s : List ℕ) → length s ≤ 1024 → on_content (content_of s) f ≡ answer f s
unfolding answer pick
answer_short f s h = rw (le-leb (length s) 1024 h)

answer_long : (f : List Piece → List Cell) (s : List ℕ) → 1024 < length s → refusal Long ≡ answer f s
unfolding answer pick
answer_long f s h = rw (lt-leb (length s) 1024 h)

-- the answer for a whole content
abbrev pub whole : Bool → List ℕ → Text
whole spaced s = pick spaced (normal_text s) (stripped_text s)

pub long : (spaced : Bool) (s : List ℕ) → 1024 < length s → refusal Long ≡ whole spaced s
unfolding normal_text stripped_text pick
long true s h = answer_long normal s h
long false s h = answer_long stripped s h

-- ---- what is still to be kept of the points that are left, where n bytes are kept and the last point of them ends at e

abbrev mode_of : Bool → ℕ → ℕ → Mode
mode_of true n e = apart e
mode_of false zero e = before
mode_of false (suc n) e = behind e

abbrev to_come : (spaced due : Bool) (n e : ℕ) → List Piece → List Cell
to_come true due n e = coming (mode_of due n e)
to_come false due n e = stripped

module _ (e : ℕ) (p : Piece) (ps : List Piece) where
  come_white : (spaced due : Bool) (n : ℕ) → is_white p.code ≡ true → (due ≡ true → 0 < n)
      → to_come spaced due n e (p ∷ ps) ≡ to_come spaced (spaced && nat_lt 0 n) n e ps
  unfolding coming pick
  come_white true true zero w h = absurd (let k = h refl in omega arith)
  come_white true true (suc n) w h = rw (w, lt-ltb 0 (suc n) (omega arith))
  come_white true false zero w h = rw w
  come_white true false (suc n) w h = rw (w, lt-ltb 0 (suc n) (omega arith))
  come_white false due n w h = stripped_white p ps w

  come_dark : (spaced : Bool) (n m : ℕ) → is_white p.code ≡ false → 0 < m
      → to_come spaced false n e (p ∷ ps) ≡ cells p.at p.bytes ++ to_come spaced false m (p.at + length p.bytes) ps
  unfolding coming pick
  come_dark true n zero w h = absurd (omega arith)
  come_dark true zero (suc m) w h = rw w
  come_dark true (suc n) (suc m) w h = rw w
  come_dark false n m w h = stripped_dark p ps w

  come_due : (spaced : Bool) (n m : ℕ) → is_white p.code ≡ false → spaced ≡ true → 0 < m
      → to_come spaced true n e (p ∷ ps) ≡ (space e ∷ cells p.at p.bytes) ++ to_come spaced false m (p.at + length p.bytes) ps
  unfolding coming pick
  come_due true n zero w t h = absurd (omega arith)
  come_due true n (suc m) w t h = rw w
  come_due false n m w t h = false_true t

come_none : (spaced due : Bool) (n e : ℕ) → to_come spaced due n e [] ≡ []
unfolding coming stripped words parts closed cells_of
come_none true due n e = refl
come_none false due n e = refl

-- ---- the state: n bytes are kept, the bytes l are left, and a space is due or not

pub record State (spaced : Bool) (s : List ℕ) (due : Bool) (n : ℕ) (l out : List ℕ) : Type 0 where
  pub place : ℕ
  pub end : ℕ
  pub done : List Cell
  pub room : n + length l ≤ 1024
  pub owed : due ≡ true → (spaced ≡ true) × (0 < n) × (n + length l < 1024)
  pub count : length done ≡ n
  pub area : out ≡ padded (texts done)
  pub left : on_content (content_from place 0 l) (λ ps. done ++ to_come spaced due n end ps) ≡ whole spaced s

same_content : (c : Content) (f g : List Piece → List Cell) → ((ps : List Piece) → f ps ≡ g ps) → on_content c f ≡ on_content c g
same_content malformed f g e = refl
same_content (content ps) f g e = ap kept (e ps)

begin_left : (spaced : Bool) (s : List ℕ) → length s ≤ 1024 → on_content (content_from 0 0 s) (λ ps. [] ++ to_come spaced false 0 0 ps) ≡ whole spaced s
unfolding content_of normal_text stripped_text pick
begin_left true s h = same_content (content_of s) _ normal walk_normal ∙ answer_short normal s h
begin_left false s h = answer_short stripped s h

pub begin : (spaced : Bool) (s : List ℕ) → length s ≤ 1024 → State spaced s false 0 s (replicate 1024 0)
unfolding padded
begin spaced s h =
    record {
      place = 0;
      end = 0;
      done = [];
      room = omega arith;
      owed = λ e. absurd (false_true e);
      count = refl;
      area = refl;
      left = begin_left spaced s h;
    }

module _ {spaced due : Bool} {s l out : List ℕ} {n : ℕ} (i : State spaced s due n l out) where
  pub area_long : length out ≡ 1024
  area_long =
      let h = i.room in
      let c = i.count in
      let e : length (texts i.done) ≤ 1024 = simp length-map (omega arith) in
      rw i.area (length_padded (texts i.done) e)

  pub stop : 1 ≤ length l → None ≡ step_of l → refusal Utf8 ≡ whole spaced s
  stop h e = rw (stuck i.place l h e) at i.left

  pub finish : length l < 1 → ◌≡◌ {A = Text} (record { kept = Ok n; bytes = out }) (whole spaced s)
  unfolding kept
  finish h =
      let e : i.done ≡ i.done ++ to_come spaced due n i.end [] = sym (append-nil i.done) ∙ ap (λ (x : List Cell). i.done ++ x) (sym (come_none spaced due n i.end)) in
      rw (i.area, ← i.count) (ap kept e ∙ (rw (none_left i.place l h) at i.left))

  module _ (c k : ℕ) (e : point c k ≡ step_of l) where
    pub fits : (1 ≤ k) × (k ≤ length l)
    fits = point_good l c k e

    -- what is left is shorter
    left_over : length (drop k l) + k ≡ length l
    left_over = let z = fits in simp length-drop (omega arith)

    -- a white point
    pub pass : is_white c ≡ true → State spaced s (spaced && nat_lt 0 n) n (drop k l) out
    pass w =
        let z = fits in
        let q = left_over in
        let h = i.room in
        record {
          place = i.place + k;
          end = i.end;
          done = i.done;
          room = omega arith;
          owed = λ t. let p = and_true spaced (nat_lt 0 n) t in (p.0, ltb-true 0 n p.1, omega arith);
          count = i.count;
          area = i.area;
          left =
              advance i.place c k l _ _ e (λ ps. ap (λ (x : List Cell). i.done ++ x) (come_white i.end _ ps spaced due n w (λ t. (i.owed t).1)))
              ∙ i.left;
        }

    abbrev own : List ℕ
    own = take k l

    abbrev here : Piece
    here = record { at = i.place; code = c; bytes = own }

    size : length own ≡ k
    size = let z = fits in length-take-le k l z.1

    -- cells that are kept of a point that is not white
    keep : (cs : List Cell) (m : ℕ) → n + length cs ≡ m → 0 < m → m + length (drop k l) ≤ 1024
        → ((ps : List Piece) → to_come spaced due n i.end (here ∷ ps) ≡ cs ++ to_come spaced false m (i.place + length own) ps)
        → State spaced s false m (drop k l) (put out n (texts cs))
    keep cs m p o r h =
        let u : n ≡ length (texts i.done) = simp length-map (sym i.count) in
        let v : n + length (texts cs) ≤ 1024 = simp length-map (omega arith) in
        record {
          place = i.place + k;
          end = i.place + length own;
          done = i.done ++ cs;
          room = r;
          owed = λ t. false_true t;
          count = simp length-append (let w = i.count in omega arith);
          area = rw i.area (padded_put (texts i.done) n (texts cs) u v ∙ ap padded (sym (map-append (λ (x : Cell). x.byte) i.done cs)));
          left =
              advance i.place c k l _ _ e
              (λ ps. ap (λ (x : List Cell). i.done ++ x) (h ps) ∙ sym (append_assoc i.done cs (to_come spaced false m (i.place + length own) ps)))
              ∙ i.left;
        }

    -- its bytes, where no space is due
    pub add : due ≡ false → is_white c ≡ false → State spaced s false (n + k) (drop k l) (put out n own)
    add d w =
        let z = fits in
        let q = left_over in
        let h = i.room in
        let y : length (cells i.place own) ≡ k = length_cells i.place own ∙ size in
        rw (sym (ap (put out n) (texts_cells i.place own)))
        (keep (cells i.place own) (n + k) (omega arith) (omega arith) (omega arith) (λ ps. rw d (come_dark i.end here ps spaced n (n + k) w (omega arith))))

    -- a space and its bytes, where one is due
    pub add_spaced : due ≡ true → is_white c ≡ false → State spaced s false (n + 1 + k) (drop k l) (put (set out n 0x20) (n + 1) own)
    add_spaced d w =
        let z = fits in
        let q = left_over in
        let t = i.owed d in
        let y : length (cells i.place own) ≡ k = length_cells i.place own ∙ size in
        let x = area_long in
        let v : n + 1 ≤ length out = omega arith in
        rw (put_behind out n 0x20 own v ∙ ap (λ (b : List ℕ). put out n (0x20 ∷ b)) (sym (texts_cells i.place own)))
        (keep (space i.end ∷ cells i.place own) (n + 1 + k) (omega arith) (omega arith) (omega arith)
        (λ ps. rw d (come_due i.end here ps spaced n (n + 1 + k) w t.0 (omega arith))))

-- bytes that are code points by themselves and not white, where no space is due
add_bytes : {spaced : Bool} {s : List ℕ} (k : ℕ) (l out : List ℕ) (n : ℕ) → State spaced s false n l out → k ≤ length l
    → all (within 0x21 0x7f) (take k l) ≡ true → State spaced s false (n + k) (drop k l) (put out n (take k l))
add_bytes zero l out n i h e = rw (put_nil, add-zero) i
add_bytes (suc k) [] out n i h e = absurd (omega arith)
add_bytes (suc k) (b ∷ l) out n i h e =
    let z = area_long i in
    let r = i.room in
    let d = all_first (within 0x21 0x7f) b (take k l) e in
    let j = add i b 1 (dark_step b l d) refl (dark_byte b d) in
    let m : n + 1 + k ≡ n + suc k = omega arith in
    rw (← m, ← put_behind out n b (take k l) (omega arith), put_sets out n (b ∷ []) (omega arith))
    (add_bytes k l (put out n (b ∷ [])) (n + 1) j (omega arith) (all_rest (within 0x21 0x7f) b (take k l) e))

pub add_run : {spaced due : Bool} {s l out new : List ℕ} {n k : ℕ} → State spaced s due n l out → due ≡ false → IsRun l out n k new
    → State spaced s due (n + k) (drop k l) new
add_run {l = l} {out} {n = n} {k} i d r = rw (d, r.stored) (add_bytes k l out n (rw d at i) r.few r.dark)

-- spaces, which are white

pass_more : {spaced : Bool} {s out : List ℕ} {n : ℕ} (k : ℕ) (l : List ℕ) → State spaced s (spaced && nat_lt 0 n) n l out → k ≤ length l
    → ((i : ℕ) → i < k → get_or l i 0 ≡ 0x20) → State spaced s (spaced && nat_lt 0 n) n (drop k l) out
pass_more zero l i h b = i
pass_more (suc k) [] i h b = absurd (omega arith)
pass_more (suc k) (a ∷ l) i h b =
    pass_more k l (pass i 0x20 1 (space_step (a ∷ l) (omega arith) (b 0 (omega arith))) space_white) (omega arith) (λ j q. b (suc j) (omega arith))

-- those at the front
pub begin_behind : (spaced : Bool) (s : List ℕ) (k : ℕ) → length s ≤ 1024 → Blank s k → State spaced s false 0 (drop k s) (replicate 1024 0)
begin_behind true s k h b = pass_more k s (begin true s h) b.most b.blank
begin_behind false s k h b = pass_more k s (begin false s h) b.most b.blank
