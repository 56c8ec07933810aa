-- What a row means, and what holds of every row.
use Rattle.std.specs.Prelude.{ℕ, Bool, true, ◌&&◌, List, [], ◌∷◌, Result, ◌==◌, nat_le, nat_lt}
use Rattle.std.specs.Str.{bytes_eq}
use Rattle.answers.specs.Standings.{standing_by}
use Rattle.model.specs.Puts.{Turn, turn}
use Rattle.model.specs.Refusals.{number_of}
use Rattle.model.specs.Units.{UnitRecord, unit_record}
use Rattle.model.specs.declared.lock.LockState.{LockState}
use Rattle.model.specs.declared.lock.LockState.TheVariants.{Impersonal, Locked, Unlocked, Recovering}
use Rattle.model.specs.declared.refusal.Refusal.{Refusal}
use Rattle.units.specs.Kept.{stored, tidy}
use Rattle.units.specs.declared.row.Row.{Row}

abbrev pub record_of : Row → UnitRecord
record_of r =
    unit_record (standing_by r.state (stored r.phrase)) (stored r.hint) r.misses r.accepted r.sense

-- an Impersonal unit has nothing stored
abbrev pub vacant : LockState → ℕ → ℕ → Bool
vacant Impersonal n m = n == 0 && m == 0
vacant Locked n m = true
vacant Unlocked n m = true
vacant (Recovering d) n m = true

-- at most 50 passphrase bytes, 100 hint bytes and 10 misses, zeros where nothing is in use, and nothing stored in an Impersonal unit
abbrev pub sound_row : Row → Bool
sound_row r =
    tidy r.phrase
    && (tidy r.hint && (nat_le r.misses 10 && vacant r.state r.phrase.len r.hint.len))

abbrev pub sound_rows : List Row → Bool
sound_rows [] = true
sound_rows (r ∷ rs) = sound_row r && sound_rows rs

-- the candidate equals the stored passphrase, with under ten misses
abbrev pub admits : Row → List ℕ → Bool
admits r c = bytes_eq (stored r.phrase) c && nat_lt r.misses 10

-- the number of a refusal or 0, with the record afterwards
abbrev pub turn_of : Result (Unit {0}) Refusal → Row → Turn
turn_of r row = turn (number_of r) (record_of row)
