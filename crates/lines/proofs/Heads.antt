-- An answer's rule is below 1,000, and it looks at no byte of a line beyond the 1,033rd. Assumes nothing.
use mathlib.Core.Path.{◌≡◌, ◌∙◌, ap}
use mathlib.Core.Bool.{Bool, true, false}
use mathlib.Core.List.{List}
use Prim.Native.Nat.{ℕ, ◌-◌, ◌≤◌, ◌<◌, min}
use native.Mathlib.Omega.{arith}
use lib.Dec.{leb}
use lib.ListN.{length, take, drop, get_or, length-take, length-drop}
use lib.Seq.{take-take, get_or-take}
use borrow.Author.Tests.{leb-true, le-leb}
use Rattle.ascii.specs.Pick.{pick}
use Rattle.ascii.proofs.Tests.{both_ways}
use Rattle.std.proofs.lemmas.List.{take_min, drop-take}
use Rattle.checks.proofs.Laws.{rule_small as check_small}
use Rattle.answer.specs.declared.record.Answer.{Answer}
use Rattle.lines.specs.Line.{head_ok, term_of, line_content, line_bytes, answer_of}

-- ---- its rule's number

pick_small : (t : Bool) (x y : Answer) → x.rule < 1000 → y.rule < 1000 → (pick t x y).rule < 1000
unfolding pick
pick_small true x y h k = h
pick_small false x y h k = k

pub rule_small : (line : List ℕ) → (answer_of line).rule < 1000
unfolding answer_of
rule_small line = pick_small (head_ok line) _ _ (check_small (take 4 line) (term_of line) (line_content line)) (omega arith)

-- ---- the content

-- to the end of the line, or to its 1,025th byte
pub content_part : (s : List ℕ) (end : ℕ) → 8 ≤ length s → end ≡ min (length s) line_bytes → take (end - 8) (drop 8 s) ≡ line_content s
unfolding line_content
content_part s end h e =
    let k : end - 8 ≡ min 1025 (length (drop 8 s)) = omega (arith, length-drop 8 s, e) in
    ap (λ (n : ℕ). take n (drop 8 s)) k ∙ take_min 1025 (drop 8 s)

-- ---- a line that is cut

at_cut : (s : List ℕ) (i : ℕ) → i < line_bytes → get_or (take line_bytes s) i 0 ≡ get_or s i 0
at_cut s i h = get_or-take line_bytes s i 0 h

long_cut : (s : List ℕ) → leb 8 (length (take line_bytes s)) ≡ leb 8 (length s)
long_cut s =
    both_ways (leb 8 (length (take line_bytes s))) (leb 8 (length s))
    (λ e. le-leb 8 (length s) (omega (arith, leb-true 8 (length (take line_bytes s)) e, length-take line_bytes s)))
    (λ e. le-leb 8 (length (take line_bytes s)) (omega (arith, leb-true 8 (length s) e, length-take line_bytes s)))

head_cut : (s : List ℕ) → head_ok (take line_bytes s) ≡ head_ok s
unfolding head_ok
head_cut s =
    rw (
      long_cut s,
      at_cut s 4 (omega arith),
      at_cut s 5 (omega arith),
      at_cut s 6 (omega arith),
      at_cut s 7 (omega arith),
    )

term_cut : (s : List ℕ) → term_of (take line_bytes s) ≡ term_of s
unfolding term_of
term_cut s = rw (at_cut s 5 (omega arith), at_cut s 6 (omega arith))

content_cut : (s : List ℕ) → line_content (take line_bytes s) ≡ line_content s
unfolding line_content
content_cut s = ap (take 1025) (drop-take 8 1025 s) ∙ take-take 1025 1025 (drop 8 s) (omega arith)

pub answer_cut : (s : List ℕ) → answer_of (take line_bytes s) ≡ answer_of s
unfolding answer_of
answer_cut s = rw (head_cut s, term_cut s, content_cut s, take-take 4 line_bytes s (omega arith))
