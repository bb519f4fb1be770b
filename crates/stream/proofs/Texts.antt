-- The text of an answer as the code stores it. Assumes nothing.
use mathlib.Core.Path.{◌≡◌, refl}
use mathlib.Core.List.{List, append_assoc}
use Prim.Native.Nat.{ℕ, ◌+◌, ◌/◌, ◌%◌, ◌≤◌, ◌<◌}
use native.Mathlib.Numerals.{add-one}
use native.Mathlib.Omega.{arith}
use lib.ListN.{length, set}
use Rattle.std.proofs.Common.{slice_index_or}
use Rattle.ascii.specs.Area.{Put}
use Rattle.ascii.proofs.Area.{put_more, put_stores}
use Rattle.answer.specs.declared.record.Answer.{Answer}
use Rattle.answer.specs.Answers.{answer_numbers}
use Rattle.answer.specs.Text.{numeral, field, numbers_text, answer_text, answer_room}
use Rattle.answer.proofs.Numerals.{numeral_one, numeral_more}

-- ---- a number of one to three digits

module _ (l : List ℕ) (at n : ℕ) (free : at + 3 ≤ length l) where
  pub put_one : n < 10 → Put 3 l at (numeral n) (at + 1) (set l at (48 + n))
  put_one h = rw (numeral_one n h) (put_stores refl refl (omega arith) (omega arith))

  pub put_two : 10 ≤ n → n / 10 < 10 → Put 3 l at (numeral n) (at + 1 + 1) (set (set l at (48 + n / 10)) (at + 1) (48 + n % 10))
  put_two h k =
      rw (numeral_more n h (omega arith), numeral_one (n / 10) k)
      (put_stores (simp add-one) (omega arith) (omega arith) (omega arith))

  pub put_three : 10 ≤ n → 10 ≤ n / 10 → n / 10 / 10 < 10
      → Put 3 l at (numeral n) (at + 1 + 1 + 1) (set (set (set l at (48 + n / 10 / 10)) (at + 1) (48 + n / 10 % 10)) (at + 1 + 1) (48 + n % 10))
  put_three h k m =
      rw (numeral_more n h (omega arith), numeral_more (n / 10) k (omega arith), numeral_one (n / 10 / 10) m)
      (put_stores (simp add-one) (omega arith) (omega arith) (omega arith))

-- the fields of an answer, one behind the other, are its text
pub put_fields : (a : Answer) (ns : List ℕ) {o o₁ o₂ o₃ o₄ : List ℕ} {at k m n r : ℕ} → at + answer_room ≤ length o → ns ≡ answer_numbers a
    → Put 4 o at (field (slice_index_or ns 0 0) 32) k o₁ → Put 4 o₁ k (field (slice_index_or ns 1 0) 32) m o₂
    → Put 4 o₂ m (field (slice_index_or ns 2 0) 32) n o₃ → Put 4 o₃ n (field (slice_index_or ns 3 0) 10) r o₄
    → Put answer_room o at (answer_text a) r o₄
unfolding answer_text answer_numbers numbers_text
put_fields a ns h e p q x y =
    let p' = rw e at p in
    let pq = put_more p' (rw e at q) (omega (arith, p'.few)) in
    let pqx = put_more pq (rw e at x) (omega (arith, pq.few)) in
    simp append_assoc at (put_more pqx (rw e at y) (omega (arith, pqx.few)))
