use Rattle.std.proofs.Common.{◌+◌, ◌≤◌}
use Rattle.commands.proofs.Loading.{Along}
use Rattle.commands.proofs.blocks.read_blocks.Given as goal

abbrev pub invariant-loop-moved : goal.invariant-loop-moved
invariant-loop-moved g l =
    Along (g.M.Medium.meaning l.medium) (l.span.start + l.span.address) l.span.count l.initial.buffer l.buffer l.moved-counter × (l.moved-counter ≤ l.span.count)
