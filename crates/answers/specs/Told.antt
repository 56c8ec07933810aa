-- What Lock Data tell of a unit, by its facts. No passphrase is told, so the standing that they show holds an empty one.
use Rattle.std.specs.Prelude.{ℕ, List, []}
use Rattle.model.specs.LockData.{state_number, stepping, completing, shown_accepted, lock_head}
use Rattle.model.specs.Units.{Standing}
use Rattle.answers.specs.Standings.{standing_by}
use Rattle.answers.specs.declared.lock_data.LockFacts.{LockFacts}

abbrev pub told_standing : LockFacts → Standing
told_standing f = standing_by f.state []

abbrev pub told_head : LockFacts → ℕ → List ℕ
told_head f n =
    let st = told_standing f in
    lock_head (stepping st) (state_number st) f.address.interface f.address.unit (shown_accepted st f.accepted) (completing f.blocks st) n
