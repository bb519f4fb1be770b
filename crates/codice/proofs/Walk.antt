-- The walk over a text's code points: those that were read stand in the areas, and what is left is the rest of the content. Assumes nothing.
use mathlib.Core.Path.{◌≡◌, refl, ◌∙◌, sym, ap}
use mathlib.Core.Bool.{Bool}
use mathlib.Core.List.{List, [], ◌∷◌, ◌++◌, append_assoc, append-nil, map, map-append}
use Prim.Native.Nat.{ℕ, ◌+◌, ◌≤◌, ◌<◌}
use native.Mathlib.Numerals.{add-one}
use native.Mathlib.Omega.{arith}
use borrow.Author.Tests.{eq-eqb, ne_eqb}
use lib.ListN.{length, take, drop, set, get_or, length-append, length-set, length-map}
use lib.Seq.{take-suc-set, length-take-le, take_all, get_or-take}
use Rattle.ascii.specs.Pick.{pick}
use Rattle.forms.specs.declared.form.Fault.{Fault}
use Rattle.forms.specs.declared.form.Fault.TheVariants.{Length, At}
use Rattle.std.specs.Prelude.{Result, Option, Some, None, Ok, Err, ⊤}
use Rattle.text.specs.declared.utf8.Point.{Point}
use Rattle.text.specs.Utf8.{point, step_of}
use Rattle.text.specs.Content.{Piece, Content, malformed, content, with_first, content_of, codes}
use Rattle.text.proofs.Points.{rest, point_fits, at_refused, at_last, unroll}
use Rattle.codice.specs.Integer.{integer_text}
use Rattle.codice.specs.Codice.{groups_of16, failing, codice_of, codice_fault}
use Rattle.codice.specs.Inner.{Listed, Stand, Answered}

-- points in front of those that are left
abbrev join : List Piece → Content → Content
join pre malformed = malformed
join pre (content ps) = content (pre ++ ps)

join_nil : (y : Content) → join [] y ≡ y
join_nil malformed = refl
join_nil (content ps) = refl

join_more : (pre : List Piece) (p : Piece) (y : Content) → join (pre ++ p ∷ []) y ≡ join pre (with_first p y)
join_more pre p malformed = refl
join_more pre p (content ps) = ap content (simp append_assoc)

-- more than 16 points are of no number that fits
many : (pre : List Piece) (p : Piece) (y : Content) → length pre ≡ 16 → codice_of (join pre (with_first p y)) ≡ Err Length
unfolding codice_of pick
many pre p malformed h = refl
many pre p (content ps) h =
    let e : length (pre ++ p ∷ ps) ≡ 17 + length ps = simp length-append (omega arith) in
    rw (ne_eqb (length (pre ++ p ∷ ps)) 16 (λ q. omega arith), ne_eqb (length (pre ++ p ∷ ps)) 11 (λ q. omega arith))

-- the list that one more point leaves in an area
one_more : (f : Piece → ℕ) (ps : List Piece) (p : Piece) (area : List ℕ) (n : ℕ) → n < length area → map f ps ≡ take n area
    → map f (ps ++ p ∷ []) ≡ take (n + 1) (set area n (f p))
one_more f ps p area n h e = rw (add-one n, take-suc-set area n (f p) h, map-append f ps (p ∷ []), e)

counted : (ps : List Piece) (area : List ℕ) (n : ℕ) → n ≤ length area → codes ps ≡ take n area → length ps ≡ n
counted ps area n h e = simp length-map at (ap length e ∙ length-take-le n area h)

pub record Walk (s cs ats : List ℕ) (n at : ℕ) : Type 0 where
  pub done : List Piece
  pub few : n ≤ 16
  pub room : length cs ≡ 16
  pub room2 : length ats ≡ 16
  pub inside : at ≤ length s
  pub listed : Listed (take n cs) (take n ats) done
  pub left : join done (rest s at) ≡ content_of s

pub begin : (s cs ats : List ℕ) → length cs ≡ 16 → length ats ≡ 16 → Walk s cs ats 0 0
unfolding content_of
begin s cs ats h g =
    record {
      done = [];
      few = omega arith;
      room = h;
      room2 = g;
      inside = omega arith;
      listed = record { number = refl; place = refl };
      left = join_nil (rest s 0);
    }

module _ (s cs ats : List ℕ) (n at : ℕ) (w : Walk s cs ats n at) where
  pub stop : at < length s → None ≡ step_of (drop at s) → codice_fault s ≡ Err Length
  unfolding codice_fault codice_of
  stop h e = rw (sym w.left ∙ ap (join w.done) (at_refused s at h e))

  pub finish : length s ≤ at → Stand s cs ats n
  finish h =
      record {
        points = w.done;
        reads = sym w.left ∙ ap (join w.done) (at_last s at h) ∙ ap content (append-nil w.done);
        listed = w.listed;
        few = w.few;
        room = w.room;
        room2 = w.room2;
      }

  module _ (c k : ℕ) (e : point c k ≡ step_of (drop at s)) where
    pub fits : (1 ≤ k) × (at + k ≤ length s)
    fits = point_fits s at w.inside c k e

    abbrev piece : Piece
    piece = record { at = at; code = c; bytes = take k (drop at s) }

    split : join w.done (with_first piece (rest s (at + k))) ≡ content_of s
    split = ap (join w.done) (sym (unroll s at c k e)) ∙ w.left

    over : n ≡ 16 → codice_fault s ≡ Err Length
    unfolding codice_fault
    over h =
        let l = w.room in
        let z : length w.done ≡ 16 = counted w.done cs n (omega arith) w.listed.number ∙ h in
        ap codice_of (sym split) ∙ many w.done piece (rest s (at + k)) z

    pub turn : n < 16 → Walk s (set cs n c) (set ats n at) (n + 1) (at + k)
    turn h =
        let z = fits in
        record {
          done = w.done ++ piece ∷ [];
          few = omega arith;
          room = simp length-set w.room;
          room2 = simp length-set w.room2;
          inside = z.1;
          listed = record {
            number = one_more (λ (p : Piece). p.code) w.done piece cs n (rw w.room h) w.listed.number;
            place = one_more (λ (p : Piece). p.at) w.done piece ats n (rw w.room2 h) w.listed.place;
          };
          left = join_more w.done piece (rest s (at + k)) ∙ split;
        }

  -- something is left behind 16 points
  pub full : n ≡ 16 → at < length s → codice_fault s ≡ Err Length
  full h l = next (step_of (drop at s)) refl
    where
      next : (x : Option Point) → x ≡ step_of (drop at s) → codice_fault s ≡ Err Length
      next None e = stop l e
      next (Some p) e = over p.code p.len e h

-- the answer by the number of code points
module _ (s cs ats : List ℕ) (n : ℕ) (t : Stand s cs ats n) where
  size : length t.points ≡ n
  size =
      let a = t.few in
      let b = t.room in
      counted t.points cs n (omega arith) t.listed.number

  pub sixteen : n ≡ 16 → {x : Result ⊤ Fault} → Answered groups_of16 cs ats x → x ≡ codice_fault s
  unfolding codice_fault codice_of pick
  sixteen h r =
      let a : length cs ≤ n = let b = t.room in omega arith in
      let d : length ats ≤ n = let b = t.room2 in omega arith in
      rw (t.reads, eq-eqb (length t.points) 16 (size ∙ h))
      (r t.points (record { number = t.listed.number ∙ take_all n cs a; place = t.listed.place ∙ take_all n ats d }))

  pub eleven : n ≡ 11 → {b : Bool} → b ≡ integer_text (take 11 cs) → pick b (Ok tt) (Err (At (get_or ats 0 0))) ≡ codice_fault s
  unfolding codice_fault codice_of failing pick
  eleven h q =
      let a : length t.points ≤ 11 = omega (arith, size) in
      rw (t.reads, ne_eqb (length t.points) 16 (λ p. omega (arith, size)), eq-eqb (length t.points) 11 (size ∙ h))
      (rw (q, take_all 11 t.points a, t.listed.number, t.listed.place, h, get_or-take 11 ats 0 0 (omega arith)))

  pub another : (n ≡ 16 → ⊥) → (n ≡ 11 → ⊥) → codice_fault s ≡ Err Length
  unfolding codice_fault codice_of pick
  another h g =
      rw (t.reads, ne_eqb (length t.points) 16 (λ p. h (sym size ∙ p)), ne_eqb (length t.points) 11 (λ p. g (sym size ∙ p)))
