use Rattle.model.specs.Units.{powered}
use Rattle.units.proofs.Loops.{Far}
use Rattle.units.proofs.rows.Rows.power_up.Given as goal

abbrev pub invariant-loop-row : goal.invariant-loop-row
invariant-loop-row l = Far powered l.initial.row-items l.row-items l.row-index
