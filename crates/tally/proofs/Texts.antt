-- The text of a tally as the code stores it. Assumes nothing.
use Rattle.std.proofs.Common.{◌≡◌, ℕ, zero, suc, ◌+◌, ◌*◌, ◌<◌, ◌≤◌, leb, List, [], ◌∷◌, ◌++◌, length, get_or, take, drop, sym, refl, ap, ◌∙◌, append_assoc, add-one, arith, drop_of_length-le, drop-cons, drop-drop, length-drop, take_all, le-leb}
use borrow.Author.Tests.{lt-leb}
use Rattle.ascii.specs.Area.{Put}
use Rattle.ascii.specs.Pick.{pick}
use Rattle.ascii.proofs.Area.{put_size, put_more, put_room, put_most, put_none}
use Rattle.answer.specs.Text.{field, numbers_text}
use Rattle.answer.proofs.Numerals.{field_within}
use Rattle.rules.specs.declared.rule.Rule.{Rule}
use Rattle.rules.specs.declared.rule.Rule.TheVariants.{R40}
use Rattle.rules.specs.Facts.{facts, rules}
use Rattle.tally.specs.Text.{lines_text, tally_text, tally_room}

-- ---- a line

-- a number of 32 bits and the byte behind it
count_long : (n b : ℕ) → n < 4294967296 → length (field n b) ≤ 11
count_long n b h = field_within 9 n b (omega arith)

pub count_fits : (n b at room : ℕ) → n < 4294967296 → at + 11 ≤ room → at + length (field n b) ≤ room
count_fits n b at room h e = omega (arith, count_long n b h)

module _ {o o' : List ℕ} {at k : ℕ} (n b : ℕ) (small : n < 4294967296) (p : Put (length (field n b)) o at (field n b) k o') where
  put_count : Put 11 o at (field n b) k o'
  put_count = put_most p (count_long n b small)

  pub room_behind : (left : ℕ) → at + (11 + left) ≤ length o → k + left ≤ length o'
  room_behind left h = put_room put_count left h

three : (counts : List ℕ) → length counts ≡ 3 → counts ≡ get_or counts 0 0 ∷ get_or counts 1 0 ∷ get_or counts 2 0 ∷ []
three counts h =
    let a = drop-cons counts 0 0 (omega arith) in
    let b = drop-cons counts 1 0 (omega arith) in
    let c = drop-cons counts 2 0 (omega arith) in
    let past : length counts ≤ 3 = omega arith in
    a ∙ rw (b, c, drop_of_length-le counts past)

pub put_row : (n : ℕ) (counts : List ℕ) {o o₁ o₂ o₃ o₄ : List ℕ} {at k l m r : ℕ} → length counts ≡ 3 → at + 44 ≤ length o
    → n < 4294967296 → ((i : ℕ) → get_or counts i 0 < 4294967296)
    → Put (length (field n 32)) o at (field n 32) k o₁
    → Put (length (field (get_or counts 0 0) 32)) o₁ k (field (get_or counts 0 0) 32) l o₂
    → Put (length (field (get_or counts 1 0) 32)) o₂ l (field (get_or counts 1 0) 32) m o₃
    → Put (length (field (get_or counts 2 0) 10)) o₃ m (field (get_or counts 2 0) 10) r o₄
    → Put 44 o at (numbers_text (n ∷ counts)) r o₄
unfolding numbers_text
put_row n counts h room small each p q x y =
    let p' = put_count n 32 small p in
    let pq = put_more p' (put_count _ 32 (each 0) q) (omega (arith, p'.few)) in
    let pqx = put_more pq (put_count _ 32 (each 1) x) (omega (arith, pq.few)) in
    rw (three counts h) (simp append_assoc at (put_more pqx (put_count _ 10 (each 2) y) (omega (arith, pqx.few))))

two : (counts : List ℕ) → length counts ≡ 2 → counts ≡ get_or counts 0 0 ∷ get_or counts 1 0 ∷ []
two counts h =
    let a = drop-cons counts 0 0 (omega arith) in
    let b = drop-cons counts 1 0 (omega arith) in
    let past : length counts ≤ 2 = omega arith in
    a ∙ rw (b, drop_of_length-le counts past)

pub put_two : (counts : List ℕ) {o o₁ o₂ : List ℕ} {at k r : ℕ} → length counts ≡ 2 → at + 22 ≤ length o
    → ((i : ℕ) → get_or counts i 0 < 4294967296)
    → Put (length (field (get_or counts 0 0) 32)) o at (field (get_or counts 0 0) 32) k o₁
    → Put (length (field (get_or counts 1 0) 10)) o₁ k (field (get_or counts 1 0) 10) r o₂
    → Put 22 o at (numbers_text counts) r o₂
unfolding numbers_text
put_two counts h room each p q =
    let p' = put_count _ 32 (each 0) p in
    rw (two counts h) (put_more p' (put_count _ 10 (each 1) q) (omega (arith, p'.few)))

-- ---- line by line

abbrev numbers : List Rule → List ℕ
numbers [] = []
numbers (r ∷ rs) = (facts r).number ∷ numbers rs

number_in : (rs : List Rule) (i : ℕ) → i < length rs → get_or (numbers rs) i 0 ≡ (facts (get_or rs i R40)).number
number_in [] i h = absurd (omega arith)
number_in (r ∷ rs) zero h = refl
number_in (r ∷ rs) (suc i) h = number_in rs i (omega arith)

pub number_at : (i : ℕ) → i < 17 → get_or (numbers rules) i 0 ≡ (facts (get_or rules i R40)).number
number_at i h = number_in rules i h

pub record Laying (counts old : List ℕ) (at : ℕ) (new : List ℕ) (end i : ℕ) : Type 0 where
  pub done : List ℕ
  pub laid : Put (44 * i) old at done end new
  pub says : tally_text counts ≡ done ++ lines_text (drop i rules) (drop (3 * i) counts)
  pub within : i ≤ 17

pub laying_none : (counts old : List ℕ) (at : ℕ) → Laying counts old at old at 0
unfolding tally_text
laying_none counts old at =
    record { done = []; laid = put_none 0 old at; says = refl; within = omega arith }

module _ {counts old new : List ℕ} {at end i : ℕ} (l : Laying counts old at new end i) (room : at + tally_room ≤ length old) where
  pub laying_size : length new ≡ length old
  laying_size = put_size l.laid (omega (arith, l.laid.few, l.within))

  pub laying_room : end + 22 ≤ length new
  laying_room = omega (arith, l.laid.ends, l.laid.few, l.within, laying_size)

  pub laying_line_room : i < 17 → end + 44 ≤ length new
  laying_line_room h = omega (arith, l.laid.ends, l.laid.few, laying_size)

  row : i < 17 → lines_text (drop i rules) (drop (3 * i) counts)
      ≡ numbers_text ((facts (get_or rules i R40)).number ∷ take 3 (drop (3 * i) counts)) ++ lines_text (drop (i + 1) rules) (drop (3 * (i + 1)) counts)
  unfolding lines_text
  row h =
      let d = drop-cons rules i R40 h in
      let e : 3 * i + 3 ≡ 3 * (i + 1) = omega arith in
      rw (d, ← e, ← drop-drop 3 (3 * i) counts, add-one i)

  pub laying_line : {n end' : ℕ} {cs new' : List ℕ} → i < 17 → n ≡ (facts (get_or rules i R40)).number → cs ≡ take 3 (drop (3 * i) counts)
      → Put 44 new end (numbers_text (n ∷ cs)) end' new' → Laying counts old at new' end' (i + 1)
  laying_line {n} {cs = cs} h en ec p =
      let more = put_more l.laid p (omega (arith, l.laid.few, l.within)) in
      record {
        done = l.done ++ numbers_text (n ∷ cs);
        laid = put_most more (omega (arith, more.few));
        says =
            l.says
            ∙ ap (λ (t : List ℕ). l.done ++ t) (row h)
            ∙ rw (en, ec) (sym (append_assoc l.done _ _));
        within = omega arith;
      }

  pub laying_others : {end' : ℕ} {new' : List ℕ} → length counts ≡ 53 → 17 ≤ i → Put 22 new end (numbers_text (take 2 (drop 51 counts))) end' new'
      → Put tally_room old at (tally_text counts) end' new'
  unfolding lines_text
  laying_others size h p =
      let e : i ≡ 17 = omega (arith, l.within) in
      let more = put_more l.laid p (omega (arith, l.laid.few, l.within)) in
      let all : take 2 (drop 51 counts) ≡ drop 51 counts = take_all 2 (drop 51 counts) (omega (arith, length-drop 51 counts)) in
      let t : tally_text counts ≡ l.done ++ numbers_text (take 2 (drop 51 counts)) = rw all (rw e at l.says) in
      rw t (put_most more (omega (arith, more.few, l.within)))

-- ---- where it fits

pub text_none : (counts o : List ℕ) (at : ℕ) → length o < at + tally_room
    → Put tally_room o at (pick (leb (at + tally_room) (length o)) (tally_text counts) []) at o
unfolding pick
text_none counts o at h = rw (lt-leb (at + tally_room) (length o) h) (put_none tally_room o at)

pub text_some : (counts : List ℕ) {o o' : List ℕ} {at end : ℕ} → at + tally_room ≤ length o → Put tally_room o at (tally_text counts) end o'
    → Put tally_room o at (pick (leb (at + tally_room) (length o)) (tally_text counts) []) end o'
unfolding pick
text_some counts h p = rw (le-leb _ _ h) p
