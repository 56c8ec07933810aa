use Rattle.std.proofs.Common.{◌+◌}
use Rattle.model.specs.Recovery.{zeroed}
use Rattle.recovery.proofs.Zeroing.{Left}
use Rattle.recovery.proofs.zero_blocks.Given as goal

abbrev pub invariant-loop-offset : goal.invariant-loop-offset
invariant-loop-offset g l =
    Left (zeroed (l.start + l.first) l.count (g.M.Medium.meaning l.initial.medium)) l.start l.offset (l.first + l.count) (g.M.Medium.meaning l.medium)
