-- Lock Data: what a host is told of a unit.
use Rattle.std.specs.Prelude.{ℕ, ◌+◌, ◌-◌, ◌*◌, ◌/◌, Bool, cond, List, [], ◌∷◌, ◌++◌, length}
use Rattle.model.specs.Bytes.{le32_of}
use Rattle.model.specs.Units.{Standing, impersonal, locked, unlocked, recovering, UnitRecord}

-- 1 Impersonal, 2 Locked, 3 Unlocked; a recovering unit is Locked
abbrev pub state_number : Standing → ℕ
state_number impersonal = 1
state_number (locked p) = 2
state_number (unlocked p) = 3
state_number (recovering p d) = 2

-- a unit needs a work step for every 16 blocks or fewer
abbrev pub steps_for : ℕ → ℕ
steps_for blocks = (blocks + 15) / 16

-- dwSteppingMs: 10 while recovering, else 0
abbrev pub stepping : Standing → ℕ
stepping impersonal = 0
stepping (locked p) = 0
stepping (unlocked p) = 0
stepping (recovering p d) = 10

-- dwCompletingMs: 10 for each work step that the unit needs, or while recovering for each that is left
abbrev pub completing : ℕ → Standing → ℕ
completing blocks impersonal = 10 * steps_for blocks
completing blocks (locked p) = 10 * steps_for blocks
completing blocks (unlocked p) = 10 * steps_for blocks
completing blocks (recovering p d) = 10 * (steps_for blocks - d)

-- bPutAccepted and the hint are shown while the unit is not recovering; of an Impersonal unit the hint is empty
abbrev pub shown_accepted : Standing → Bool → ℕ
shown_accepted impersonal a = cond a 1 0
shown_accepted (locked p) a = cond a 1 0
shown_accepted (unlocked p) a = cond a 1 0
shown_accepted (recovering p d) a = 0

abbrev pub shown_hint : Standing → List ℕ → List ℕ
shown_hint impersonal h = []
shown_hint (locked p) h = h
shown_hint (unlocked p) h = h
shown_hint (recovering p d) h = []

-- total length, 25 32 64, dwSteppingMs, state, interface, unit, bPutAccepted, dwCompletingMs, and the head of the hint part
abbrev pub lock_head : ℕ → ℕ → ℕ → ℕ → ℕ → ℕ → ℕ → List ℕ
lock_head step state i k accepted complete n =
    ((19 + n) ∷ 0x25 ∷ 0x32 ∷ 0x64 ∷ []) ++ (le32_of step ++ ((state ∷ i ∷ k ∷ accepted ∷ []) ++ (le32_of complete ++ ((3 + n) ∷ 0x25 ∷ []))))

-- the Lock Data of unit k of interface i, with so many blocks; the hint part ends in 00h whatever it came with
abbrev pub lock_data_of : ℕ → ℕ → ℕ → Standing → UnitRecord → List ℕ
lock_data_of blocks i k st u =
    let hint = shown_hint st u.hint in
    lock_head (stepping st) (state_number st) i k (shown_accepted st u.accepted) (completing blocks st) (length hint) ++ (hint ++ 0 ∷ [])

abbrev pub lock_data : ℕ → ℕ → ℕ → UnitRecord → List ℕ
lock_data blocks i k u = lock_data_of blocks i k u.standing u
