use Rattle.std.proofs.Common.{◌+◌}
use Rattle.recovery.proofs.Zeroing.{one_less, none_left}
use Rattle.recovery.proofs.zero_blocks.Goals as goal

pub loop-offset-preserved : goal.loop-offset-preserved
loop-offset-preserved g c =
    rw c.zero_block.ensures
    (one_less _ c.args.start c.loop-offset.offset (c.args.first + c.args.count) (g.M.Medium.meaning c.loop-offset.medium) c.loop-offset-test.true c.loop-offset.invariant)

pub returns : goal.returns
returns g c =
    none_left _ c.args.start c.loop-offset.offset (c.args.first + c.args.count) (g.M.Medium.meaning c.loop-offset.medium) c.loop-offset-test.false c.loop-offset.invariant
