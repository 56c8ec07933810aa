use Rattle.std.proofs.Common.{◌≡◌}
use Rattle.stick.specs.Meaning.{stick_of}
use Rattle.trial.proofs.Runs.{Far}
use Rattle.trial.proofs.run.run.Given as goal

abbrev pub invariant-loop-turn : goal.invariant-loop-turn
invariant-loop-turn g l =
    Far l.initial.stick.layout (stick_of g.M.Medium.meaning l.initial.stick) l.initial.turn-items (stick_of g.M.Medium.meaning l.stick) l.turn-items l.turn-index
    × (l.stick.layout ≡ l.initial.stick.layout)
