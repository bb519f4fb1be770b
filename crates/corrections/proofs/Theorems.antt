-- The list is bounded, holds exactly the corrections, and each once. Assumes nothing.
use mathlib.Core.Path.{◌≡◌, refl, sym, ap, ◌∙◌}
use mathlib.Core.Bool.{Bool, true, false, true≢false}
use mathlib.Core.Logic.{◌↔◌, ◌⊎◌, inl, inr, ⊎_elim}
use mathlib.Core.List.Memᴰ
use mathlib.Core.List.{List, ◌++◌}
use Prim.Native.Nat.{ℕ, zero, suc, ◌+◌, ◌-◌, ◌*◌, ◌≤◌, ◌<◌}
use native.Mathlib.Nat.{mul-le-mul_right}
use native.Mathlib.Omega.{arith}
use native.Mathlib.Decide.{ℕ_discrete}
use lib.ListN.{length, get_or, set, length-append, length-set}
use lib.Seq.{get_or-set_same, get_or-set_other, set-get_or, ext_get_or}
use Rattle.ascii.specs.Class.{is_digit}
use Rattle.ascii.proofs.Class.{digit_bounds, all_at}
use Rattle.figures.specs.Changes.{exchanged}
use Rattle.rules.specs.Finding.{accepts}
use Rattle.corrections.specs.declared.five.Five.{Five}
use Rattle.corrections.specs.Five.{rule_of}
use Rattle.corrections.specs.Corrections.{each, only, if_accepted, replaced, fixes_at, replacements, exchanges, corrections}
use Rattle.corrections.specs.Meaning.{OneDigit, Neighbours, Correction, Once, Whole}
use Rattle.corrections.proofs.Fixes.{accepted_yes, fixes_hit, fixes_none, accepted_digits}
use Rattle.corrections.proofs.Rows.{corrections_rows}
use Rattle.corrections.proofs.Members.{In, in_each, each_in, once_append, once_each, each_length}

-- ---- how many

-- a number below n that a test accepts, or none
find : (p : ℕ → Bool) (n : ℕ) → ((x : ℕ) → x < n → p x ≡ false) ⊎ ((d : ℕ) × (d < n) × (p d ≡ true))
find p zero = inl (λ x h. absurd (omega arith))
find p (suc n) = ⊎_elim (λ none. last none (p n) refl) (λ r. inr (r.0, omega (arith, r.1), r.2)) (find p n)
  where
    last : ((x : ℕ) → x < n → p x ≡ false) → (b : Bool) → p n ≡ b → ((x : ℕ) → x < suc n → p x ≡ false) ⊎ ((d : ℕ) × (d < suc n) × (p d ≡ true))
    last none true e = inr (n, omega arith, e)
    last none false e = inl (λ x h. elim (ℕ_discrete x n) [ yes q ↦ ap p q ∙ e | no ne ↦ none x (less x n h ne) ])
      where
        less : (x k : ℕ) → x < suc k → (x ≡ k → ⊥) → x < k
        less x k l ne = omega arith

only_few : (b : Bool) (t : List ℕ) → length (only b t) ≤ 1
unfolding only
only_few true t = omega arith
only_few false t = omega arith

fixes_few : (c : Five) (s : List ℕ) (i : ℕ) → i < length s → length (fixes_at (rule_of c) s i) ≤ 1
fixes_few c s i h =
    ⊎_elim (λ none. rw (fixes_none c s i none) (omega arith)) (λ r. rw (fixes_hit c s i r.0 h r.1 r.2) (omega arith))
    (find (λ d. accepts (rule_of c) (replaced s i d)) 10)

accepted_few : (c : Five) (t : List ℕ) → length (if_accepted (rule_of c) t) ≤ 1
unfolding if_accepted
accepted_few c t = only_few (accepts (rule_of c) t) t

-- at most 2n - 1 entries
pub few : (c : Five) (s : List ℕ) → length (corrections (rule_of c) s) ≤ 2 * length s - 1
unfolding corrections replacements exchanges
few c s =
    let a = each_length (length s) (fixes_at (rule_of c) s) (fixes_few c s) in
    let b = each_length (length s - 1) (λ i. if_accepted (rule_of c) (exchanged s i)) (λ i h. accepted_few c (exchanged s i)) in
    rw (length-append (each (length s) (fixes_at (rule_of c) s)) (each (length s - 1) (λ i. if_accepted (rule_of c) (exchanged s i)))) (omega arith)

-- ---- which

in_accepted : (c : Five) (t u : List ℕ) → In t (if_accepted (rule_of c) u) → (t ≡ u) × (accepts (rule_of c) u ≡ true)
unfolding if_accepted only
in_accepted c t u m = go (accepts (rule_of c) u) refl m
  where
    go : (b : Bool) → accepts (rule_of c) u ≡ b → In t (only b u) → (t ≡ u) × (accepts (rule_of c) u ≡ true)
    go true e k = (Memᴰ.eq_of_singleton k, e)
    go false e k = absurd (Memᴰ.not-nil k)

accepted_in : (c : Five) (t u : List ℕ) → t ≡ u → accepts (rule_of c) u ≡ true → In t (if_accepted (rule_of c) u)
accepted_in c t u q e = rw (accepted_yes (rule_of c) u e) (Memᴰ.head q)

-- an entry of the replacements: its place and digit
in_replacements : (c : Five) (s t : List ℕ) → In t (replacements (rule_of c) s) → (i : ℕ) × (i < length s) × (d : ℕ) × (d < 10) × (t ≡ replaced s i d) × (accepts (rule_of c) t ≡ true)
unfolding replacements fixes_at
in_replacements c s t m =
    let r = in_each (length s) (fixes_at (rule_of c) s) t m in
    let q = in_each 10 (λ d. if_accepted (rule_of c) (replaced s r.0 d)) t r.2 in
    let k = in_accepted c t (replaced s r.0 q.0) q.2 in
    (r.0, r.1, q.0, q.1, k.0, ap (accepts (rule_of c)) k.0 ∙ k.1)

in_exchanges : (c : Five) (s t : List ℕ) → In t (exchanges (rule_of c) s) → (i : ℕ) × (i + 1 < length s) × (t ≡ exchanged s i) × (accepts (rule_of c) t ≡ true)
unfolding exchanges
in_exchanges c s t m =
    let r = in_each (length s - 1) (λ i. if_accepted (rule_of c) (exchanged s i)) t m in
    let k = in_accepted c t (exchanged s r.0) r.2 in
    (r.0, omega (arith, r.1), k.0, ap (accepts (rule_of c)) k.0 ∙ k.1)

exchanged_same : (s : List ℕ) (i : ℕ) → get_or s i 0 ≡ get_or s (i + 1) 0 → exchanged s i ≡ s
exchanged_same s i q = ap (λ (v : ℕ). set (set s i v) (i + 1) (get_or s i 0)) (sym q) ∙ ap (λ (l : List ℕ). set l (i + 1) (get_or s i 0)) (set-get_or s i 0) ∙ ap (set s (i + 1)) q ∙ set-get_or s (i + 1) 0

-- what stands at a place of an exchange
exchanged_left : (s : List ℕ) (i : ℕ) → i + 1 < length s → get_or (exchanged s i) i 0 ≡ get_or s (i + 1) 0
exchanged_left s i h = get_or-set_other (set s i (get_or s (i + 1) 0)) (i + 1) i _ 0 (λ q. omega arith) ∙ get_or-set_same s i (get_or s (i + 1) 0) 0 (omega arith)

exchanged_right : (s : List ℕ) (i : ℕ) → i + 1 < length s → get_or (exchanged s i) (i + 1) 0 ≡ get_or s i 0
exchanged_right s i h = get_or-set_same (set s i (get_or s (i + 1) 0)) (i + 1) (get_or s i 0) 0 (simp length-set h)

exchanged_rest : (s : List ℕ) (i j : ℕ) → (j ≡ i → ⊥) → (j ≡ i + 1 → ⊥) → get_or (exchanged s i) j 0 ≡ get_or s j 0
exchanged_rest s i j p q = get_or-set_other (set s i (get_or s (i + 1) 0)) (i + 1) j _ 0 q ∙ get_or-set_other s i j _ 0 p

module _ (c : Five) (s : List ℕ) (refused : accepts (rule_of c) s ≡ false) where
  differs : (t : List ℕ) → accepts (rule_of c) t ≡ true → t ≡ s → ⊥
  differs t e q = true≢false (sym e ∙ ap (accepts (rule_of c)) q ∙ refused)

  one_digit_lem : (t : List ℕ) → In t (replacements (rule_of c) s) → OneDigit s t
  one_digit_lem t m =
      let r = in_replacements c s t m in
      let i = r.0 in
      let d = r.2 in
      record {
        place = i;
        within = r.1;
        other = λ q. differs t r.5 (r.4 ∙ ap (set s i) (sym (get_or-set_same s i (48 + d) 0 r.1) ∙ sym (ap (λ (l : List ℕ). get_or l i 0) r.4) ∙ q) ∙ set-get_or s i 0);
        rest = λ j ne. ap (λ (l : List ℕ). get_or l j 0) r.4 ∙ get_or-set_other s i j (48 + d) 0 ne;
      }

  neighbours : (t : List ℕ) → In t (exchanges (rule_of c) s) → Neighbours s t
  neighbours t m =
      let r = in_exchanges c s t m in
      let i = r.0 in
      record {
        place = i;
        within = r.1;
        unequal = λ q. differs t r.3 (r.2 ∙ exchanged_same s i q);
        left = ap (λ (l : List ℕ). get_or l i 0) r.2 ∙ exchanged_left s i r.1;
        right = ap (λ (l : List ℕ). get_or l (i + 1) 0) r.2 ∙ exchanged_right s i r.1;
        rest = λ j p q. ap (λ (l : List ℕ). get_or l j 0) r.2 ∙ exchanged_rest s i j p q;
      }

-- and back
is_replaced : (s t : List ℕ) → length t ≡ length s → (p : OneDigit s t) → t ≡ set s p.place (get_or t p.place 0)
is_replaced s t l p = ext_get_or 0 t (set s p.place (get_or t p.place 0)) (l ∙ sym (length-set s p.place _)) at
  where
    at : (j : ℕ) → j < length t → get_or t j 0 ≡ get_or (set s p.place (get_or t p.place 0)) j 0
    at j h =
        elim (ℕ_discrete j p.place) [
          | yes q ↦ ap (λ (k : ℕ). get_or t k 0) q ∙ sym (get_or-set_same s p.place _ 0 p.within) ∙ sym (ap (λ (k : ℕ). get_or (set s p.place (get_or t p.place 0)) k 0) q)
          | no ne ↦ p.rest j ne ∙ sym (get_or-set_other s p.place j _ 0 ne)
        ]

is_exchanged : (s t : List ℕ) → length t ≡ length s → (p : Neighbours s t) → t ≡ exchanged s p.place
is_exchanged s t l p = ext_get_or 0 t (exchanged s i) (l ∙ sym (simp length-set)) at
  where
    i : ℕ
    i = p.place

    at : (j : ℕ) → j < length t → get_or t j 0 ≡ get_or (exchanged s p.place) j 0
    at j h =
        elim (ℕ_discrete j p.place) [
          | yes q ↦ ap (λ (k : ℕ). get_or t k 0) q ∙ p.left ∙ sym (exchanged_left s p.place p.within) ∙ sym (ap (λ (k : ℕ). get_or (exchanged s p.place) k 0) q)
          | no ne ↦
              elim (ℕ_discrete j (p.place + 1)) [
                | yes q ↦ ap (λ (k : ℕ). get_or t k 0) q ∙ p.right ∙ sym (exchanged_right s p.place p.within) ∙ sym (ap (λ (k : ℕ). get_or (exchanged s p.place) k 0) q)
                | no nf ↦ p.rest j ne nf ∙ sym (exchanged_rest s p.place j ne nf)
              ]
        ]

in_one : (c : Five) (s t : List ℕ) → length t ≡ length s → accepts (rule_of c) t ≡ true → OneDigit s t → In t (replacements (rule_of c) s)
unfolding replacements fixes_at
in_one c s t l e p =
    let i = p.place in
    let g = digit_bounds (get_or t i 0) (all_at is_digit t i (accepted_digits c t e) (omega (arith, p.within))) in
    let k : 48 + (get_or t i 0 - 48) ≡ get_or t i 0 = omega (arith, g.0) in
    let q : t ≡ replaced s i (get_or t i 0 - 48) = is_replaced s t l p ∙ ap (set s i) (sym k) in
    each_in (length s) (fixes_at (rule_of c) s) t i p.within
    (each_in 10 (λ d. if_accepted (rule_of c) (replaced s i d)) t (get_or t i 0 - 48) (omega (arith, g.1)) (accepted_in c t (replaced s i (get_or t i 0 - 48)) q (sym (ap (accepts (rule_of c)) q) ∙ e)))

in_two : (c : Five) (s t : List ℕ) → length t ≡ length s → accepts (rule_of c) t ≡ true → Neighbours s t → In t (exchanges (rule_of c) s)
unfolding exchanges
in_two c s t l e p =
    let q = is_exchanged s t l p in
    each_in (length s - 1) (λ i. if_accepted (rule_of c) (exchanged s i)) t p.place (omega (arith, p.within)) (accepted_in c t (exchanged s p.place) q (sym (ap (accepts (rule_of c)) q) ∙ e))

-- the list of a refused number holds exactly its corrections
pub listed : (c : Five) (s : List ℕ) → accepts (rule_of c) s ≡ false → (t : List ℕ) → In t (corrections (rule_of c) s) ↔ Correction (rule_of c) s t
unfolding corrections
listed c s bad t = (to, from)
  where
    to : In t (replacements (rule_of c) s ++ exchanges (rule_of c) s) → Correction (rule_of c) s t
    to m =
        ⊎_elim
        (λ u. let r = in_replacements c s t u in record { long = ap length r.4 ∙ length-set s r.0 _; accepted = r.5; near = inl (one_digit_lem c s bad t u) })
        (λ v. let r = in_exchanges c s t v in record { long = ap length r.2 ∙ simp length-set; accepted = r.3; near = inr (neighbours c s bad t v) })
        (Memᴰ.append_cases (replacements (rule_of c) s) m)

    from : Correction (rule_of c) s t → In t (replacements (rule_of c) s ++ exchanges (rule_of c) s)
    from p =
        ⊎_elim (λ u. Memᴰ.append_left (exchanges (rule_of c) s) (in_one c s t p.long p.accepted u)) (λ v. Memᴰ.append_right (replacements (rule_of c) s) (in_two c s t p.long p.accepted v)) p.near

-- ---- each once

once_accepted : (c : Five) (t : List ℕ) → Once (if_accepted (rule_of c) t)
unfolding if_accepted only
once_accepted c t = go (accepts (rule_of c) t)
  where
    go : (b : Bool) → Once (only b t)
    go true = (Memᴰ.not-nil, tt)
    go false = tt

once_fixes : (c : Five) (s : List ℕ) (i : ℕ) → i < length s → Once (fixes_at (rule_of c) s i)
unfolding fixes_at
once_fixes c s i h =
    once_each 10 (λ d. if_accepted (rule_of c) (replaced s i d)) (λ d k. once_accepted c (replaced s i d))
    (λ d e t l k u v. apart d e l (sym (in_accepted c t (replaced s i d) u).0 ∙ (in_accepted c t (replaced s i e) v).0))
  where
    apart : (d e : ℕ) → d < e → replaced s i d ≡ replaced s i e → ⊥
    apart d e l q =
        let z : 48 + d ≡ 48 + e = sym (get_or-set_same s i (48 + d) 0 h) ∙ ap (λ (x : List ℕ). get_or x i 0) q ∙ get_or-set_same s i (48 + e) 0 h in
        omega arith

-- an entry tells the first place at which it differs
module _ (c : Five) (s : List ℕ) (bad : accepts (rule_of c) s ≡ false) where
  -- of an entry at place i: it differs there, and before i it does not
  abbrev First : List ℕ → ℕ → Type 0
  First t i = (get_or t i 0 ≡ get_or s i 0 → ⊥) × ((j : ℕ) → j < i → get_or t j 0 ≡ get_or s j 0)

  first_one : (t : List ℕ) (i j : ℕ) → i < j → First t i → First t j → ⊥
  first_one t i j l p q = p.0 (q.1 i l)

  first_replaced : (t : List ℕ) (i : ℕ) → i < length s → In t (fixes_at (rule_of c) s i) → First t i
  unfolding fixes_at
  first_replaced t i h m =
      let r = in_each 10 (λ d. if_accepted (rule_of c) (replaced s i d)) t m in
      let k = in_accepted c t (replaced s i r.0) r.2 in (
        (λ q. differs c s bad t (ap (accepts (rule_of c)) k.0 ∙ k.1)
            (k.0 ∙ ap (set s i) (sym (get_or-set_same s i (48 + r.0) 0 h) ∙ sym (ap (λ (l : List ℕ). get_or l i 0) k.0) ∙ q) ∙ set-get_or s i 0)),
        λ j l. ap (λ (x : List ℕ). get_or x j 0) k.0 ∙ get_or-set_other s i j _ 0 (λ q. omega arith),
      )

  first_exchanged : (t : List ℕ) (i : ℕ) → i + 1 < length s → In t (if_accepted (rule_of c) (exchanged s i)) → First t i
  first_exchanged t i h m =
      let k = in_accepted c t (exchanged s i) m in (
        (λ q. differs c s bad t (ap (accepts (rule_of c)) k.0 ∙ k.1)
            (k.0 ∙ exchanged_same s i (sym (sym (exchanged_left s i h) ∙ sym (ap (λ (l : List ℕ). get_or l i 0) k.0) ∙ q)))),
        λ j l. ap (λ (x : List ℕ). get_or x j 0) k.0 ∙ exchanged_rest s i j (λ q. omega arith) (λ q. omega arith),
      )

  once_replacements : Once (replacements (rule_of c) s)
  unfolding replacements
  once_replacements =
      once_each (length s) (fixes_at (rule_of c) s) (once_fixes c s)
      (λ i j t l k u v. first_one t i j l (first_replaced t i (omega arith) u) (first_replaced t j k v))

  once_exchanges : Once (exchanges (rule_of c) s)
  unfolding exchanges
  once_exchanges =
      once_each (length s - 1) (λ i. if_accepted (rule_of c) (exchanged s i)) (λ i h. once_accepted c (exchanged s i))
      (λ i j t l k u v. first_one t i j l (first_exchanged t i (omega arith) u) (first_exchanged t j (omega arith) v))

  -- no entry stands twice
  pub once : Once (corrections (rule_of c) s)
  unfolding corrections
  once = once_append (replacements (rule_of c) s) (exchanges (rule_of c) s) once_replacements once_exchanges (λ t u v. apart t (one_digit_lem c s bad t u) (neighbours c s bad t v))
    where
      apart : (t : List ℕ) → OneDigit s t → Neighbours s t → ⊥
      apart t p q =
          elim (ℕ_discrete q.place p.place) [
            | yes e ↦ q.unequal (sym q.right ∙ p.rest (q.place + 1) (λ x. omega arith))
            | no ne ↦ q.unequal (sym (sym q.left ∙ p.rest q.place ne))
          ]

-- the list of a refused number is whole
pub whole : (c : Five) (s : List ℕ) → accepts (rule_of c) s ≡ false → Whole (rule_of c) s (corrections (rule_of c) s)
whole c s bad = record { every = listed c s bad; once = once c s bad; few = few c s; room = rw (corrections_rows (rule_of c) s) (mul-le-mul_right (length s) (few c s)) }
