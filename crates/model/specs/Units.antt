-- A unit's record, and what power does to it.
use Rattle.std.specs.Prelude.{ℕ, Bool, true, false, ◌||◌, List, [], ◌∷◌}
use Rattle.model.specs.declared.sense.Sense.{Sense}
use Rattle.model.specs.declared.sense.Sense.TheVariants.{None}

-- how a unit stands, with the passphrase that it holds: it is Impersonal exactly when it holds none. A recovering unit is Locked, and
-- counts the work steps done
pub data Standing : Type 0 where
  impersonal : Standing
  locked : List ℕ → Standing
  unlocked : List ℕ → Standing
  recovering : List ℕ → ℕ → Standing

-- standing, hint, misses, the accepted flag (bPutAccepted in Lock Data), and sense
pub record UnitRecord : Type 0 where
  pub standing : Standing
  pub hint : List ℕ
  pub misses : ℕ
  pub accepted : Bool
  pub sense : Sense

abbrev pub unit_record : Standing → List ℕ → ℕ → Bool → Sense → UnitRecord
unit_record st h n a s = record { standing = st; hint = h; misses = n; accepted = a; sense = s }

abbrev pub new_unit : UnitRecord
new_unit = unit_record impersonal [] 0 false None

-- a passphrase is held; an empty one is one
abbrev pub holds_phrase : Standing → Bool
holds_phrase impersonal = false
holds_phrase (locked p) = true
holds_phrase (unlocked p) = true
holds_phrase (recovering p d) = true

-- a recovering unit is Locked
abbrev pub is_locked : Standing → Bool
is_locked impersonal = false
is_locked (locked p) = true
is_locked (unlocked p) = false
is_locked (recovering p d) = true

-- some unit of a list stands so
abbrev pub any_standing : (Standing → Bool) → List UnitRecord → Bool
any_standing test [] = false
any_standing test (u ∷ us) = test u.standing || any_standing test us

abbrev pub any_phrase : List UnitRecord → Bool
any_phrase us = any_standing holds_phrase us

abbrev pub any_locked : List UnitRecord → Bool
any_locked us = any_standing is_locked us

-- a power cycle locks a unit that holds a passphrase; a recovery goes on from its step
abbrev pub relocked : Standing → Standing
relocked impersonal = impersonal
relocked (locked p) = locked p
relocked (unlocked p) = locked p
relocked (recovering p d) = recovering p d

-- power-up also clears the accepted flag and the sense, and leaves hint and misses
abbrev pub powered : UnitRecord → UnitRecord
powered u = unit_record (relocked u.standing) u.hint u.misses false None
