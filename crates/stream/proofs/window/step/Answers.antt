-- `stream::window::step` writes, counts and keeps what the definitions say.
use Rattle.std.proofs.Common.{ap, arith}
use lib.ListN.{length}
use Rattle.stream.proofs.Windows.{step_right, keep_fits}
use Rattle.stream.proofs.window.step.Goals as goal

pub copy_within-requires-clause-in_bounds : goal.copy_within-requires-clause-in_bounds
copy_within-requires-clause-in_bounds c = keep_fits c.args.buf.now _ c.args.n _ c.requires c.feed-used.ensures.within c.kept-keep.ensures

pub copy_within-requires-clause-dest_in_bounds : goal.copy_within-requires-clause-dest_in_bounds
copy_within-requires-clause-dest_in_bounds c = omega (arith, keep_fits c.args.buf.now _ c.args.n _ c.requires c.feed-used.ensures.within c.kept-keep.ensures)

pub returns : goal.returns
returns c =
    let args = c.args in
    let fed = c.feed-used in
    step_right args.buf.now _ args.out.now fed.new.out args.counts.now fed.new.counts args.n fed.result.used fed.result.put _ c.requires
    fed.ensures.right fed.ensures.within (ap length c.kept-keep.ensures) c.copy_within.ensures.after
