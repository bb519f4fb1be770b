-- A form as one walk down the text. Assumes nothing.
use mathlib.Core.Path.{◌≡◌, refl, ◌∙◌, sym, ap}
use mathlib.Core.Bool.{Bool, true, false, ◌&&◌}
use mathlib.Core.List.{List, [], ◌∷◌}
use Prim.Native.Nat.{ℕ, suc, ◌≤◌}
use lib.ListN.{length, drop}
use Rattle.ascii.specs.Pick.{pick}
use Rattle.ascii.specs.Class.{within, is_digit, is_plain, all}
use Rattle.ascii.proofs.Tests.{and_true}
use Rattle.ascii.proofs.Class.{bounds}
use Rattle.std.specs.Prelude.{Result, Err, is_ok, ⊤}
use Rattle.forms.specs.declared.form.Fault.{Fault}
use Rattle.forms.specs.declared.form.Fault.TheVariants.{Length, At}
use Rattle.forms.specs.Form.{Form, of_class, class_at, wrong, fault_of, fits}
use Rattle.forms.proofs.Laws.{class_digit, class_plain}

-- each byte is of its class: first those of the head, and then the rest
abbrev pub follows : List ℕ → ℕ → List ℕ → Bool
follows [] r s = all (of_class r) s
follows (k ∷ h) r [] = true
follows (k ∷ h) r (b ∷ s) = of_class k b && follows h r s

pub fit_pick : (t : Bool) (x y : Result ⊤ Fault) → is_ok y ≡ false → is_ok (pick t x y) ≡ t && is_ok x
unfolding pick
fit_pick true x y e = refl
fit_pick false x y e = e

-- a head's first class is passed over with the first byte
behind : (k : ℕ) (h : List ℕ) (r i : ℕ) (s : List ℕ) → is_ok (wrong (class_at (k ∷ h) r) (suc i) s) ≡ is_ok (wrong (class_at h r) i s)
unfolding wrong
behind k h r i [] = refl
behind k h r i (b ∷ s) =
    let t = of_class (class_at h r i) b in
    fit_pick t (wrong (class_at (k ∷ h) r) (suc (suc i)) s) (Err (At (suc i))) refl
    ∙ ap (λ (x : Bool). t && x) (behind k h r (suc i) s)
    ∙ sym (fit_pick t (wrong (class_at h r) (suc i) s) (Err (At i)) refl)

plain_walk : (r i : ℕ) (s : List ℕ) → is_ok (wrong (class_at [] r) i s) ≡ all (of_class r) s
unfolding wrong all
plain_walk r i [] = refl
plain_walk r i (b ∷ s) =
    fit_pick (of_class r b) (wrong (class_at [] r) (suc i) s) (Err (At i)) refl ∙ ap (λ (x : Bool). of_class r b && x) (plain_walk r (suc i) s)

walk : (h : List ℕ) (r : ℕ) (s : List ℕ) → is_ok (wrong (class_at h r) 0 s) ≡ follows h r s
unfolding wrong
walk [] r s = plain_walk r 0 s
walk (k ∷ h) r [] = refl
walk (k ∷ h) r (b ∷ s) =
    fit_pick (of_class k b) (wrong (class_at (k ∷ h) r) 1 s) (Err (At 0)) refl
    ∙ ap (λ (x : Bool). of_class k b && x) (behind k h r 0 s ∙ walk h r s)

pub fits_follows : (f : Form) (s : List ℕ) → fits f s ≡ within f.least f.most (length s) && follows f.head f.rest s
unfolding fits fault_of
fits_follows f s =
    let t = within f.least f.most (length s) in
    fit_pick t (wrong (class_at f.head f.rest) 0 s) (Err Length) refl ∙ ap (λ (x : Bool). t && x) (walk f.head f.rest s)

-- ---- the classes of a list

all_same : (p q : ℕ → Bool) → ((b : ℕ) → p b ≡ q b) → (s : List ℕ) → all p s ≡ all q s
unfolding all
all_same p q e [] = refl
all_same p q e (b ∷ s) = rw (e b, all_same p q e s)

pub all_digit : (s : List ℕ) → all (of_class 0x23) s ≡ all is_digit s
all_digit s = all_same (of_class 0x23) is_digit (λ b. class_digit 0x23 b refl) s

pub all_plain : (s : List ℕ) → all (of_class 0x2a) s ≡ all is_plain s
all_plain s = all_same (of_class 0x2a) is_plain (λ b. class_plain 0x2a b refl) s

-- what stands behind the head is all of one class
pub rest_follows : (h : List ℕ) (r : ℕ) (s : List ℕ) → follows h r s ≡ true → all (of_class r) (drop (length h) s) ≡ true
unfolding all
rest_follows [] r s e = e
rest_follows (k ∷ h) r [] e = refl
rest_follows (k ∷ h) r (b ∷ s) e = rest_follows h r s (and_true (of_class k b) (follows h r s) e).1

-- a length out of range fits nothing
pub unfit : (f : Form) (s : List ℕ) → within f.least f.most (length s) ≡ false → fits f s ≡ false
unfit f s e = fits_follows f s ∙ rw e

-- a text that fits has a length in range, and follows the classes
pub fits_parts : (f : Form) (s : List ℕ) → fits f s ≡ true
    → ((f.least ≤ length s) × (length s ≤ f.most)) × (follows f.head f.rest s ≡ true)
fits_parts f s e =
    let p = and_true (within f.least f.most (length s)) (follows f.head f.rest s) (sym (fits_follows f s) ∙ e) in
    (bounds f.least f.most (length s) p.0, p.1)
