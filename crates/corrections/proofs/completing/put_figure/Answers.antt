-- `corrections::completing::put_figure` meets its contract.
use mathlib.Core.Path.{refl, sym}
use Rattle.ascii.proofs.Area.{put_start}
use Rattle.corrections.proofs.completing.put_figure.Goals as goal

pub returns : goal.returns
returns c = record { says = refl; now = rw c.copy_from_slice.ensures.after (sym (put_start _ _)) }
