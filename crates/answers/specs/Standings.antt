-- How a unit stands, by its state and the passphrase that it holds.
use Rattle.std.specs.Prelude.{ℕ, List}
use Rattle.model.specs.Units.{Standing, impersonal, locked, unlocked, recovering}
use Rattle.model.specs.declared.lock.LockState.{LockState}
use Rattle.model.specs.declared.lock.LockState.TheVariants.{Impersonal, Locked, Unlocked, Recovering}

abbrev pub standing_by : LockState → List ℕ → Standing
standing_by Impersonal p = impersonal
standing_by Locked p = locked p
standing_by Unlocked p = unlocked p
standing_by (Recovering d) p = recovering p d
