use Rattle.std.proofs.Common.{sym}
use Rattle.values.proofs.Pieces.{pair_three_said}
use Rattle.values.proofs.runs.read_pair.Goals as goal

pub returns-then-is_some : goal.returns-then-is_some
returns-then-is_some c =
    sym (pair_three_said c.args.text.now c.in_ok-start.start.now c.in_ok-start.count.now c.cut-2.result
    c.in_ok-start.ensures c.cut-2.ensures (sym c.if-is_some.ensures))
