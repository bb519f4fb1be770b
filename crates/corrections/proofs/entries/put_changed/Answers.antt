-- `corrections::entries::put_changed` meets its contract.
use mathlib.Core.Path.{ap, ◌∙◌}
use Prim.Native.Nat.{◌+◌, ◌-◌}
use native.Mathlib.Omega.{arith}
use lib.ListN.{length}
use Rattle.ascii.specs.Area.{put}
use Rattle.ascii.proofs.Area.{length_put}
use Rattle.corrections.proofs.Areas.{put_slot}
use Rattle.corrections.proofs.entries.put_changed.Goals as goal

pub returns : goal.returns
returns c =
    let s = c.args.s.now in
    let x = c.args.others.now in
    let n = length_put s c.args.i x c.requires.inside in
    let row = put_slot _ c.args.i (c.args.i + length x - c.args.i) _ x c.copy_from_slice-2.ensures.after (omega arith) ∙ ap (λ t. put t c.args.i x) c.copy_from_slice.ensures.after in
    record {
      now = put_slot c.args.out.now c.args.at (c.args.at + length s - c.args.at) _ (put s c.args.i x) row (rw n (omega arith));
      ends = rw n;
      few = rw n (omega arith);
    }
