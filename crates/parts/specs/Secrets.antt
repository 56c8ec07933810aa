-- What a borrowed passphrase with its hint means, alone and behind a candidate.
use Rattle.std.specs.Prelude.{ℕ, ◌≤◌, List, length}
use Rattle.std.specs.Borrow.{Bor}
use Rattle.model.specs.Parts.{Secret, secret}
use Rattle.parts.specs.declared.put.NewSecret.{NewSecret}

abbrev pub secret_behind : NewSecret → Secret
secret_behind s = secret s.phrase.now s.hint.now

abbrev pub change_behind : Bor (List ℕ) × NewSecret → List ℕ × Secret
change_behind x = (x.0.now, secret_behind x.1)

-- a unit's record has room for it
abbrev pub HasRoom : NewSecret → Type 0
HasRoom s = (length s.phrase.now ≤ 50) × (length s.hint.now ≤ 100)
