use Rattle.model.specs.Presence.{presented}
use Rattle.units.proofs.Loops.{Far}
use Rattle.units.proofs.rows.Rows.present.Given as goal

abbrev pub invariant-loop-shown : goal.invariant-loop-shown
invariant-loop-shown l = Far presented l.initial.shown-items l.shown-items l.shown-index
