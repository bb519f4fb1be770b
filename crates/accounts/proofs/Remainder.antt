-- The number of a text, and the remainder that goes over it step by step. Assumes nothing.
use mathlib.Core.Path.{◌≡◌, refl, ◌∙◌, sym, ap}
use mathlib.Core.List.{List, [], ◌∷◌, ◌++◌, append_assoc}
use Prim.Native.Nat.{ℕ, suc, ◌+◌, ◌-◌, ◌*◌, ◌/◌, ◌%◌, ◌^◌, ◌≤◌, ◌<◌}
use native.Mathlib.Nat.{pow-suc, div-add-mod', mul-add-mod_self_right}
use native.Mathlib.Numerals.{add-one}
use native.Mathlib.Omega.{arith}
use borrow.Author.Tests.{lt-ltb, le-ltb}
use lib.ListN.{length, get_or, take, drop, length-drop, drop_of_length-le}
use lib.Seq.{drop-cons, take_all}
use Rattle.ascii.specs.Pick.{pick}
use Rattle.figures.specs.Total.{number}
use Rattle.accounts.specs.Spelled.{value_of, written, spell, spelled, remainder}
use Rattle.accounts.specs.Inner.{after, Steps}

-- ---- digits, one after another

pub after_nil : (r : ℕ) → after r [] ≡ r % 97
unfolding after
after_nil r = let e : r * 1 + 0 ≡ r = omega arith in ap (λ x. x % 97) e

-- a byte more, of which what it has above 48 counts
pub after_cons : (r b : ℕ) (ds : List ℕ) → after r (b ∷ ds) ≡ after (r * 10 + (b - 48)) ds
unfolding after
after_cons r b ds =
    let p : r * 10 ^ suc (length ds) ≡ (r * 10) * 10 ^ length ds = omega (arith, ap (λ x. r * x) (pow-suc 10 (length ds))) in
    let e : r * 10 ^ suc (length ds) + (10 ^ length ds * (b - 48) + number ds) ≡ (r * 10 + (b - 48)) * 10 ^ length ds + number ds = omega arith in
    ap (λ x. x % 97) e

-- a digit more
after_digit : (r d : ℕ) (ds : List ℕ) → after r ((d + 48) ∷ ds) ≡ after (r * 10 + d) ds
after_digit r d ds = let e : d + 48 - 48 ≡ d = omega arith in after_cons r (d + 48) ds ∙ ap (λ x. after (r * 10 + x) ds) e

pub after_mod : (r : ℕ) (ds : List ℕ) → after (r % 97) ds ≡ after r ds
unfolding after
after_mod r ds =
    let q = div-add-mod' r 97 in
    let p : r * 10 ^ length ds ≡ (r / 97 * 97 + r % 97) * 10 ^ length ds = ap (λ x. x * 10 ^ length ds) (sym q) in
    let e : r * 10 ^ length ds + number ds ≡ (r / 97 * 10 ^ length ds) * 97 + (r % 97 * 10 ^ length ds + number ds) = omega arith in
    sym (ap (λ x. x % 97) e ∙ mul-add-mod_self_right (r / 97 * 10 ^ length ds) 97 (r % 97 * 10 ^ length ds + number ds))

-- only the remainder of what went before counts
pub after_same : (r t : ℕ) (ds : List ℕ) → r % 97 ≡ t % 97 → after r ds ≡ after t ds
after_same r t ds h = sym (after_mod r ds) ∙ ap (λ x. after x ds) h ∙ after_mod t ds

pub after_append : (r : ℕ) (u v : List ℕ) → after r (u ++ v) ≡ after (after r u) v
after_append r [] v = sym (ap (λ x. after x v) (after_nil r) ∙ after_mod r v)
after_append r (b ∷ u) v = after_cons r b (u ++ v) ∙ after_append (r * 10 + (b - 48)) u v ∙ ap (λ x. after x v) (sym (after_cons r b u))

-- the number itself leaves what the steps from 0 leave
pub after_zero : (ds : List ℕ) → number ds % 97 ≡ after 0 ds
unfolding after
after_zero ds = let e : number ds ≡ 0 * 10 ^ length ds + number ds = omega arith in ap (λ x. x % 97) e

-- ---- one value more: one digit, or two

pub after_one : (r v : ℕ) (ds : List ℕ) → v < 10 → after r (written v ++ ds) ≡ after (r * 10 + v) ds
unfolding written pick
after_one r v ds h = rw (lt-ltb v 10 h) (after_digit r v ds)

pub after_two : (r v : ℕ) (ds : List ℕ) → 10 ≤ v → after r (written v ++ ds) ≡ after (r * 100 + v) ds
unfolding written pick
after_two r v ds h =
    let e : (r * 10 + v / 10) * 10 + v % 10 ≡ r * 100 + v = omega (arith, div-add-mod' v 10) in
    rw (le-ltb v 10 h)
    (after_digit r (v / 10) ((v % 10 + 48) ∷ ds) ∙ after_digit (r * 10 + v / 10) (v % 10) ds ∙ ap (λ x. after x ds) e)

-- the code's step, from a sum x that leaves what acc leaves
module _ (acc x b v : ℕ) (e : x % 97 ≡ acc % 97) (h : v ≡ value_of b) where
  moved : (ds : List ℕ) → after x (written v ++ ds) ≡ after acc (written (value_of b) ++ ds)
  moved ds = after_same x acc (written v ++ ds) e ∙ ap (λ n. after acc (written n ++ ds)) h

  pub step_one : v < 10 → Steps acc b (x * 10 + v)
  step_one l = record { on = λ ds. sym (after_one x v ds l) ∙ moved ds }

  pub step_two : 10 ≤ v → Steps acc b (x * 100 + v)
  step_two l = record { on = λ ds. sym (after_two x v ds l) ∙ moved ds }

-- ---- a text

pub spell_append : (u v : List ℕ) → spell (u ++ v) ≡ spell u ++ spell v
unfolding spell
spell_append [] v = refl
spell_append (b ∷ u) v =
    ap (λ t. written (value_of b) ++ t) (spell_append u v) ∙ sym (append_assoc (written (value_of b)) (spell u) (spell v))

-- one turn of a loop over a text, and its end
pub spell_step : (r : ℕ) (s : List ℕ) (i : ℕ) → i < length s
    → after r (spell (drop i s)) ≡ after r (written (value_of (get_or s i 0)) ++ spell (drop (i + 1) s))
unfolding spell
spell_step r s i h = rw (add-one, drop-cons s i 0 h)

pub spell_end : (r : ℕ) (s : List ℕ) (i : ℕ) → length s ≤ i → after r (spell (drop i s)) ≡ r % 97
unfolding spell
spell_end r s i h = rw (drop_of_length-le s h) (after_nil r)

-- the remainder of the number, by the two parts that are read
pub parts : (from : ℕ) (s : List ℕ) → remainder from s ≡ after (after 0 (spell (drop from s))) (spell (take 4 s))
unfolding remainder spelled
parts from s =
    after_zero (spell (drop from s ++ take 4 s))
    ∙ ap (λ t. after 0 t) (spell_append (drop from s) (take 4 s))
    ∙ after_append 0 (spell (drop from s)) (spell (take 4 s))

rest : (k : ℕ) (s : List ℕ) → take (length s - k) (drop k s) ≡ drop k s
rest k s = take_all (length s - k) (drop k s) (omega (arith, length-drop k s))

-- the same, as the code lends the parts: x and y leave what they must
pub leaves : (from : ℕ) (s : List ℕ) (x y : ℕ) → x % 97 ≡ after 0 (spell (take (length s - from) (drop from s)))
    → y % 97 ≡ after x (spell (take 4 s)) → y % 97 ≡ remainder from s
leaves from s x y ex ey =
    ey
    ∙ sym (after_mod x (spell (take 4 s)))
    ∙ ap (λ n. after n (spell (take 4 s))) (ex ∙ ap (λ t. after 0 (spell t)) (rest from s))
    ∙ sym (parts from s)
