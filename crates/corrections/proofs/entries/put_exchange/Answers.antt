-- `corrections::entries::put_exchange` meets its contract.
use mathlib.Core.Path.{◌≡◌, sym, ◌∙◌}
use mathlib.Core.List.{List, [], ◌∷◌}
use Prim.Native.Nat.{ℕ, ◌+◌, ◌<◌}
use native.Mathlib.Numerals.{add-one}
use mathlib.Core.Bool.{true, false}
use native.Mathlib.Omega.{arith}
use lib.ListN.{length, set}
use Rattle.ascii.specs.Area.{put}
use Rattle.ascii.proofs.Area.{put_sets}
use Rattle.figures.specs.Changes.{exchanged}
use Rattle.rules.specs.Finding.{accepts}
use Rattle.corrections.specs.Five.{rule_of}
use Rattle.corrections.proofs.Fixes.{accepted_yes, accepted_no}
use Rattle.corrections.proofs.Areas.{put_one_row, put_no_row}
use Rattle.corrections.proofs.entries.put_exchange.Goals as goal

-- two bytes from place i on
two : (s : List ℕ) (i x y : ℕ) → i + 1 < length s → put s i (x ∷ y ∷ []) ≡ set (set s i x) (i + 1) y
two s i x y h = sym (put_sets s i (x ∷ y ∷ []) (omega arith)) ∙ rw add-one

pub returns-then-accepts_exchanged : goal.returns-then-accepts_exchanged
returns-then-accepts_exchanged c =
    let s = c.args.number.now.digits.now in
    let e : accepts (rule_of c.args.number.now.kind) (exchanged s c.args.i) ≡ true = cc in
    put_one_row _ _ (accepted_yes _ _ e) (two s c.args.i _ _ c.requires.inside) c.put_changed.ensures

pub returns : goal.returns
returns c =
    let e : accepts (rule_of c.args.number.now.kind) (exchanged c.args.number.now.digits.now c.args.i) ≡ false = cc in
    put_no_row _ _ _ _ (accepted_no _ _ e)
