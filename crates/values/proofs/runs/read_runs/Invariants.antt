use Rattle.std.proofs.Common.{◌≡◌, length, drop, vec_items}
use Rattle.values.specs.Runs.{pieces, pairs_said, runs_said}
use Rattle.fields.proofs.Pairs.{behind}
use Rattle.values.proofs.runs.read_runs.Given as goal

abbrev pub invariant-loop-pair : goal.invariant-loop-pair
invariant-loop-pair l =
    (goal.iterator-loop-pair).can_next l.pair-iterator
    × (goal.iterator-loop-pair).is_finite l.pair-iterator
    × (behind (vec_items l.runs) (pairs_said (drop (length l.yielded) (pieces 0x2C l.text))) ≡ runs_said l.text)
