-- A number in decimal, digit by digit, and as it is stored. Assumes nothing.
use mathlib.Core.Path.{◌≡◌, refl, sym, ◌∙◌, ap}
use mathlib.Core.Bool.{Bool, true, false}
use mathlib.Core.List.{List, [], ◌∷◌, ◌++◌}
use Prim.Native.Nat.{ℕ, zero, suc, ◌+◌, ◌/◌, ◌%◌, ◌^◌, ◌≤◌, ◌<◌}
use native.Mathlib.Nat.{pow-suc}
use native.Mathlib.Omega.{arith}
use lib.Dec.{ltb}
use lib.ListN.{length, set, length-append}
use borrow.Author.Tests.{lt-ltb, le-ltb, ltb-true, ltb-false}
use Rattle.ascii.specs.Area.{Put}
use Rattle.ascii.specs.Pick.{pick}
use Rattle.ascii.proofs.Area.{put_size, put_more, put_stores}
use Rattle.answer.specs.Text.{in_digits, numeral, field}

-- by whether it has one digit

last : (m n : ℕ) → n < 10 → in_digits (suc m) n ≡ (48 + n) ∷ []
unfolding in_digits pick
last m n h = rw (lt-ltb n 10 h)

further : (m n : ℕ) → 10 ≤ n → in_digits (suc m) n ≡ in_digits m (n / 10) ++ (48 + n % 10) ∷ []
unfolding in_digits pick
further m n h = rw (le-ltb n 10 h)

by : {P : Type 0} (n : ℕ) → (n < 10 → P) → (10 ≤ n → P) → P
by {P} n f g = at_test (ltb n 10) refl
  where
    at_test : (t : Bool) → ltb n 10 ≡ t → P
    at_test true e = f (ltb-true n 10 e)
    at_test false e = g (omega (arith, ltb-false n 10 e))

few_at : (m n : ℕ) → length (in_digits m n) ≤ m
unfolding in_digits
few_at zero n = omega arith
few_at (suc m) n =
    by n (λ h. omega (arith, ap length (last m n h)))
    (λ h. omega (arith, ap length (further m n h), length-append (in_digits m (n / 10)) ((48 + n % 10) ∷ []), few_at m (n / 10)))

-- more digits than a number has are none
enough : (m n : ℕ) → n < 10 ^ suc m → in_digits (suc (suc m)) n ≡ in_digits (suc m) n
enough zero n h = last 1 n (omega (arith, pow-suc 10 0)) ∙ sym (last 0 n (omega (arith, pow-suc 10 0)))
enough (suc m) n h =
    by n (λ k. last (suc (suc m)) n k ∙ sym (last (suc m) n k))
    (λ k.
    further (suc (suc m)) n k
    ∙ ap (λ (l : List ℕ). l ++ (48 + n % 10) ∷ []) (enough m (n / 10) (omega (arith, pow-suc 10 (suc m))))
    ∙ sym (further (suc m) n k))

-- a number below a power of ten has no more digits than its exponent says
short_at : (k m n : ℕ) → n < 10 ^ suc m → length (in_digits k n) ≤ suc m
unfolding in_digits
short_at zero m n h = omega arith
short_at (suc k) zero n h = by n (λ l. omega (arith, ap length (last k n l))) (λ l. omega (arith, h, l, pow-suc 10 0))
short_at (suc k) (suc m) n h =
    by n (λ l. omega (arith, ap length (last k n l)))
    (λ l.
    omega (
      arith,
      ap length (further k n l),
      length-append (in_digits k (n / 10)) ((48 + n % 10) ∷ []),
      short_at k m (n / 10) (omega (arith, h, pow-suc 10 (suc m))),
    ))

-- ---- numerals

pub numeral_one : (n : ℕ) → n < 10 → numeral n ≡ (48 + n) ∷ []
unfolding numeral
numeral_one n h = last 9 n h

pub numeral_more : (n : ℕ) → 10 ≤ n → n < 10000000000 → numeral n ≡ numeral (n / 10) ++ (48 + n % 10) ∷ []
unfolding numeral
numeral_more n h k =
    further 9 n h ∙ ap (λ (l : List ℕ). l ++ (48 + n % 10) ∷ []) (sym (enough 8 (n / 10) (omega arith)))

pub numeral_few : (n : ℕ) → length (numeral n) ≤ 10
unfolding numeral
numeral_few n = few_at 10 n

pub numeral_fewer : (n : ℕ) → n < 1000000000 → length (numeral n) ≤ 9
unfolding numeral
numeral_fewer n h = omega (arith, ap length (enough 8 n h), few_at 9 n)

-- a number and the byte behind it, as they are stored
pub put_behind : {most : ℕ} {old mid : List ℕ} {at k : ℕ} (n b : ℕ) → at + (most + 1) ≤ length old → Put most old at (numeral n) k mid
    → Put (most + 1) old at (field n b) (k + 1) (set mid k b)
unfolding field
put_behind {mid = mid} {k = k} n b h p =
    let one : Put 1 mid k (b ∷ []) (k + 1) (set mid k b) =
    put_stores refl refl (omega arith) (omega (arith, p.ends, p.few, put_size p (omega (arith, p.few)))) in
    put_more p one (omega (arith, p.few))

-- a number below a power of ten: that many digits are room enough
pub numeral_within : (most n : ℕ) → n < 10 ^ suc most → length (numeral n) ≤ suc most
unfolding numeral
numeral_within most n h = short_at 10 most n h

pub field_long : (n b : ℕ) → length (field n b) ≡ length (numeral n) + 1
unfolding field
field_long n b = length-append (numeral n) (b ∷ [])

pub field_within : (most n b : ℕ) → n < 10 ^ suc most → length (field n b) ≤ suc most + 1
field_within most n b h = omega (arith, field_long n b, numeral_within most n h)

-- ---- a number as it is stored, digit by digit

pub one_long : (n : ℕ) → n < 10 → length (numeral n) ≡ 1
one_long n h = ap length (numeral_one n h)

pub one_longer : (n : ℕ) → 10 ≤ n → n < 10000000000 → length (numeral n) ≡ length (numeral (n / 10)) + 1
one_longer n h k = ap length (numeral_more n h k) ∙ length-append (numeral (n / 10)) ((48 + n % 10) ∷ [])

pub put_digit : (l : List ℕ) (at n : ℕ) → at + length (numeral n) ≤ length l → n < 10
    → Put (length (numeral n)) l at (numeral n) (at + 1) (set l at (48 + n % 10))
put_digit l at n room h =
    let e : 48 + n % 10 ≡ 48 + n = omega arith in
    rw (numeral_one n h, e) (put_stores refl refl (omega arith) (omega (arith, room, one_long n h)))

pub tenth_fits : (old : List ℕ) (at n : ℕ) → 10 ≤ n → n < 10000000000 → at + length (numeral n) ≤ length old
    → at + length (numeral (n / 10)) ≤ length old
tenth_fits old at n g small room = omega (arith, room, one_longer n g small)

module _ {old mid : List ℕ} {at k : ℕ} (n : ℕ) (g : 10 ≤ n) (small : n < 10000000000) (room : at + length (numeral n) ≤ length old)
    (p : Put (length (numeral (n / 10))) old at (numeral (n / 10)) k mid) where
  pub digit_fits : k < length mid
  digit_fits = omega (arith, room, one_longer n g small, p.ends, put_size p (tenth_fits old at n g small room))

  pub put_next : Put (length (numeral n)) old at (numeral n) (k + 1) (set mid k (48 + n % 10))
  put_next =
      let one : Put 1 mid k ((48 + n % 10) ∷ []) (k + 1) (set mid k (48 + n % 10)) =
      put_stores refl refl (omega arith) (omega (arith, digit_fits)) in
      rw (numeral_more n g small, length-append (numeral (n / 10)) ((48 + n % 10) ∷ [])) (put_more p one (tenth_fits old at n g small room))

-- the byte behind a number

module _ {old mid : List ℕ} {at k : ℕ} (n b : ℕ) (room : at + length (field n b) ≤ length old) (p : Put (length (numeral n)) old at (numeral n) k mid)
  where
    pub behind_fits : k < length mid
    behind_fits = omega (arith, room, field_long n b, p.ends, put_size p (omega (arith, room, field_long n b)))

    pub put_behind_it : Put (length (field n b)) old at (field n b) (k + 1) (set mid k b)
    put_behind_it = rw (field_long n b) (put_behind n b (omega (arith, room, field_long n b)) p)
