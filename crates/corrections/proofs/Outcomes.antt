-- Outcomes, reason by reason. Assumes nothing.
use mathlib.Core.Path.{◌≡◌, refl, sym}
use mathlib.Core.List.{List}
use Prim.Native.Nat.{ℕ, ◌≤◌, ◌<◌}
use borrow.Author.Tests.{le-leb, lt-leb}
use Rattle.std.specs.Prelude.{Option, Some, None, Result, Ok, Err, ok_or}
use Rattle.ascii.specs.Pick.{pick}
use Rattle.ascii.proofs.Area.{put_nil}
use Rattle.answer.specs.declared.reason.Reason.{Reason}
use Rattle.answer.specs.declared.reason.Reason.TheVariants.{Scheme, Room}
use Rattle.corrections.specs.declared.five.Five.{Five}
use Rattle.corrections.specs.Outcome.{Outcome, refused_with, unless, room_reason, Works}

-- nothing is written
pub works_refused : {o : Outcome} {r : Result ℕ Reason} (why : Reason) (a : List ℕ) → o ≡ refused_with why → r ≡ Err why → Works o a r a
works_refused why a e q = record { says = rw e q; now = rw e (sym (put_nil a 0)) }

module _ (need room : ℕ) (o : Outcome) where
  pub room_short : room < need → unless (room_reason need room) o ≡ refused_with Room
  unfolding room_reason unless pick
  room_short h = rw (lt-leb need room h)

  pub room_enough : need ≤ room → unless (room_reason need room) o ≡ o
  unfolding room_reason unless pick
  room_enough h = rw (le-leb need room h)

-- ---- the scheme first of all

pub scheme_unknown : (o : Option Five) {r : Reason} → ok_or o Scheme ≡ Err r → (o ≡ None) × (r ≡ Scheme)
scheme_unknown None e = (refl, cc)
scheme_unknown (Some k) e = cc

pub scheme_known : (o : Option Five) {k : Five} → ok_or o Scheme ≡ Ok k → o ≡ Some k
scheme_known None e = cc
scheme_known (Some k) e = cc
