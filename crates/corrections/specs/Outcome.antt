-- What a completion or a listing answers, and what it writes.
use Rattle.std.specs.Prelude.{◌≡◌, Option, Some, None, Result, Ok, Err, List, [], ℕ, nat_le}
use Rattle.ascii.specs.Area.{put}
use Rattle.ascii.specs.Pick.{pick}
use Rattle.answer.specs.declared.reason.Reason.{Reason}
use Rattle.answer.specs.declared.reason.Reason.TheVariants.{Form as FormReason, Scheme, Room}
use Rattle.forms.specs.Form.{Form, fits}
use Rattle.corrections.specs.declared.five.Five.{Five}

pub record Outcome : Type 0 where
  pub says : Result ℕ Reason
  pub writes : List ℕ

-- a refusal writes nothing
abbrev pub refused_with : Reason → Outcome
refused_with why = record { says = Err why; writes = [] }

abbrev pub success : ℕ → List ℕ → Outcome
success n b = record { says = Ok n; writes = b }

-- refused where a reason is given
unfoldable pub unless : Option Reason → Outcome → Outcome
unless None o = o
unless (Some why) o = refused_with why

-- of two reasons the first that is given
unfoldable pub first : Option Reason → Option Reason → Option Reason
first None s = s
first (Some r) s = Some r

-- of the five schemes; any other is refused
abbrev pub for_five : Option Five → (Five → Outcome) → Outcome
for_five (Some k) f = f k
for_five None f = refused_with Scheme

-- the reason where a form is not met, and where an area of `room` bytes is shorter than required
unfoldable pub form_reason : Form → List ℕ → Option Reason
form_reason f s = pick (fits f s) None (Some FormReason)

unfoldable pub room_reason : ℕ → ℕ → Option Reason
room_reason required room = pick (nat_le required room) None (Some Room)

-- the answer r, and the area after it, are those of an outcome
pub record Works (o : Outcome) (area : List ℕ) (r : Result ℕ Reason) (after : List ℕ) : Type 0 where
  pub says : r ≡ o.says
  pub now : after ≡ put area 0 o.writes
