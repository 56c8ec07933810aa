-- What is claimed of every run on a Locked unit's secret, and what the words of the claims mean.
use Rattle.std.specs.Prelude.{◌≡◌, ℕ, ◌+◌, ◌<◌, ◌≤◌, Bool, true, false, not, ◌&&◌, ◌||◌, ◌⊎◌, ◌↔◌, List, [], ◌∷◌, length, Some, None, Option, ◌==◌, ◌≢◌, slice_index_or}
use Rattle.model.specs.Blocks.{Block, bad, good}
use Rattle.model.specs.Bulk.{place_at}
use Rattle.model.specs.Control.{alter, find_unit, unit_at}
use Rattle.model.specs.Events.{Event, control, bulk, work, clock, reset, suspend, resume, power, step, after, Reply, replies}
use Rattle.model.specs.Extents.{sound}
use Rattle.model.specs.Layouts.{Layout, place_start, place_count, fitted_layout}
use Rattle.model.specs.Recovery.{zeroed, is_recovering}
use Rattle.model.specs.Requests.{requested}
use Rattle.model.specs.Sticks.{Stick, stick}
use Rattle.model.specs.Units.{Standing, impersonal, locked, unlocked, recovering, UnitRecord, unit_record, is_locked, holds_phrase}
use Rattle.model.specs.declared.lock.LockState.{LockState}
use Rattle.model.specs.declared.lock.LockState.TheVariants as state
use Rattle.model.specs.declared.request.Asked.{Asked}
use Rattle.model.specs.declared.request.Put.{Put}
use Rattle.model.specs.declared.request.Put.TheVariants.{StorePassphrase, MatchPassphrase, ChangePassphrase, ErasePassphrase, EraseForgottenPassphrase, LockAgain, ChangeInterfaceAccess}
use Rattle.model.specs.declared.request.Request.{Request}
use Rattle.model.specs.declared.request.Request.TheVariants.{DeviceDescriptor, Bundle, LockData, HighestUnit, ClearJam, PutTo}

-- Alike but for a secret

-- a stick with one unit's passphrase and the bytes of its good blocks blotted out
abbrev pub mute_standing : Standing → Standing
mute_standing impersonal = impersonal
mute_standing (locked p) = locked []
mute_standing (unlocked p) = unlocked []
mute_standing (recovering p d) = recovering [] d

abbrev pub mute : UnitRecord → UnitRecord
mute x = unit_record (mute_standing x.standing) x.hint x.misses x.accepted x.sense

unfoldable pub but : Layout → ℕ → Stick → Stick
but lay u s = stick (alter u mute s.units) s.interfaces s.phase (zeroed (place_at lay u).start (place_at lay u).count s.blocks)

-- two sticks with one layout stand alike except in the unit's passphrase and the bytes of its good blocks
abbrev pub AlikeBut : Layout → ℕ → Stick → Stick → Type 0
AlikeBut lay u s t = but lay u s ≡ but lay u t

-- how a unit stands, without its passphrase
abbrev pub state_of : Standing → LockState
state_of impersonal = state.Impersonal
state_of (locked p) = state.Locked
state_of (unlocked p) = state.Unlocked
state_of (recovering p d) = state.Recovering d

abbrev pub is_bad_block : Block → Bool
is_bad_block bad = true
is_bad_block (good bs) = false

-- the same, respect by respect: how many units; the whole record of every other one, steps done, accepted flag and sense included; of
-- the unit itself how it stands, steps done included, its hint, misses, accepted flag and sense; IDs and jams; the interface change with its
-- target and the time left; how many blocks; every block outside the unit's place; and which blocks are bad
pub record Alike (lay : Layout) (u : ℕ) (s t : Stick) : Type 0 where
  pub units : length s.units ≡ length t.units
  pub others : (v : ℕ) → (v ≢ u) → unit_at v s ≡ unit_at v t
  pub state : state_of (unit_at u s).standing ≡ state_of (unit_at u t).standing
  pub hint : (unit_at u s).hint ≡ (unit_at u t).hint
  pub misses : (unit_at u s).misses ≡ (unit_at u t).misses
  pub accepted : (unit_at u s).accepted ≡ (unit_at u t).accepted
  pub sense : (unit_at u s).sense ≡ (unit_at u t).sense
  pub interfaces : s.interfaces ≡ t.interfaces
  pub phase : s.phase ≡ t.phase
  pub blocks : length s.blocks ≡ length t.blocks
  pub outside : (i : ℕ) → (i < (place_at lay u).start) ⊎ ((place_at lay u).start + (place_at lay u).count ≤ i) → slice_index_or s.blocks i bad ≡ slice_index_or t.blocks i bad
  pub marks : (i : ℕ) → is_bad_block (slice_index_or s.blocks i bad) ≡ is_bad_block (slice_index_or t.blocks i bad)

abbrev pub Respects : Type 0
Respects = (lay : Layout) (u : ℕ) (s t : Stick) → AlikeBut lay u s t ↔ Alike lay u s t

-- Accepted Puts

abbrev pub is_unit : Option ℕ → ℕ → Bool
is_unit None u = false
is_unit (Some v) u = v == u

-- kinds of Put: one that carries a candidate, one that opens a unit, one that closes it
abbrev pub carries_candidate : Put → Bool
carries_candidate StorePassphrase = false
carries_candidate MatchPassphrase = true
carries_candidate ChangePassphrase = true
carries_candidate ErasePassphrase = true
carries_candidate EraseForgottenPassphrase = false
carries_candidate LockAgain = false
carries_candidate ChangeInterfaceAccess = false

abbrev pub opening : Put → Bool
opening StorePassphrase = true
opening MatchPassphrase = true
opening ChangePassphrase = false
opening ErasePassphrase = false
opening EraseForgottenPassphrase = false
opening LockAgain = false
opening ChangeInterfaceAccess = false

abbrev pub locking : Put → Bool
locking StorePassphrase = false
locking MatchPassphrase = false
locking ChangePassphrase = false
locking ErasePassphrase = false
locking EraseForgottenPassphrase = false
locking LockAgain = true
locking ChangeInterfaceAccess = false

-- the request is a Put of a kind, and for the unit
abbrev pub asks_put : (Put → Bool) → Layout → ℕ → Request → Bool
asks_put kind lay u DeviceDescriptor = false
asks_put kind lay u Bundle = false
asks_put kind lay u (LockData a) = false
asks_put kind lay u (HighestUnit i) = false
asks_put kind lay u (ClearJam i) = false
asks_put kind lay u (PutTo p a) = is_unit (find_unit lay a.interface a.unit) u && kind p

abbrev pub asked_put : (Put → Bool) → Layout → ℕ → Option Asked → Bool
asked_put kind lay u None = false
asked_put kind lay u (Some a) = asks_put kind lay u a.request

-- the event is a control transfer that asks for such a Put
abbrev pub is_put : (Put → Bool) → Layout → ℕ → Event → Bool
is_put kind lay u (control setup ds) = asked_put kind lay u (requested setup)
is_put kind lay u (bulk i cbw ds) = false
is_put kind lay u work = false
is_put kind lay u (clock ms) = false
is_put kind lay u reset = false
is_put kind lay u suspend = false
is_put kind lay u resume = false
is_put kind lay u power = false

-- the event is such a Put, and is accepted
abbrev pub accepts : (Put → Bool) → Layout → ℕ → Stick → Event → Bool
accepts kind lay u s e = is_put kind lay u e && (step lay s e).reply.code == 0

-- A locked unit keeps its secret

abbrev pub Locked : ℕ → Stick → Type 0
Locked u s = is_locked (unit_at u s).standing ≡ true

-- the unit's recovery completes in the event
abbrev pub completes : Layout → ℕ → Stick → Event → Bool
completes lay u s e = is_recovering (unit_at u s).standing && not (is_recovering (unit_at u (step lay s e).next).standing)

-- The replies rs and qs of two sticks s and t to one list of events. Up to the first event in which either accepts a candidate for the
-- unit: the replies are equal; the sticks stand alike afterwards but for the unit's passphrase and the bytes of its good blocks; and if
-- the unit's recovery completes in the event, they stand alike in every respect, and all further replies are equal.
abbrev pub Agree : Layout → ℕ → Stick → Stick → List Event → List Reply → List Reply → Type 0
Agree lay u s t [] rs qs = rs ≡ qs
Agree lay u s t (e ∷ es) [] qs = ⊥
Agree lay u s t (e ∷ es) (r ∷ rs) [] = ⊥
Agree lay u s t (e ∷ es) (r ∷ rs) (q ∷ qs) =
    let s' = (step lay s e).next in
    let t' = (step lay t e).next in
    (accepts carries_candidate lay u s e ≡ true) ⊎ ((accepts carries_candidate lay u t e ≡ true) ⊎
    ((r ≡ q) × AlikeBut lay u s' t' × (completes lay u s e ≡ true → (s' ≡ t') × (rs ≡ qs)) × Agree lay u s' t' es rs qs))

-- the units' places pass the check against a medium of so many blocks
abbrev pub fits : Layout → ℕ → Bool
fits lay blocks = sound place_start place_count 0 blocks lay.places

-- a Locked unit keeps its secret, and a completed recovery leaves nothing of it: of two sticks with one layout, each on a medium of its own
-- and with a history of its own since its first power-up
abbrev pub KeepsSecret : Type 0
KeepsSecret = (lay : Layout) (m n : List Block) (h k : List Event) (u : ℕ) → fits lay (length m) ≡ true →
    let s = after lay m h in
    let t = after lay n k in
    Locked u s → AlikeBut lay u s t → (es : List Event) → Agree lay u s t es (replies lay s es) (replies lay t es)

-- Unlocked when opened

abbrev pub is_unlocked : Standing → Bool
is_unlocked impersonal = false
is_unlocked (locked p) = false
is_unlocked (unlocked p) = true
is_unlocked (recovering p d) = false

abbrev pub is_power : Event → Bool
is_power (control setup ds) = false
is_power (bulk i cbw ds) = false
is_power work = false
is_power (clock ms) = false
is_power reset = false
is_power suspend = false
is_power resume = false
is_power power = true

-- in the history, the newest event first, something happened, and something else did not happen afterwards
abbrev pub Since : (List Event → Event → Bool) → (List Event → Event → Bool) → List Event → Type 0
Since did undid [] = ⊥
Since did undid (e ∷ past) = (did past e ≡ true) ⊎ ((undid past e ≡ false) × Since did undid past)

-- a Store or Match Passphrase for the unit was accepted, with no power cycle and no accepted Lock Again for it afterwards
abbrev pub OpenedSince : Layout → List Block → ℕ → List Event → Type 0
OpenedSince lay m u = Since (λ past e. accepts opening lay u (after lay m past) e) (λ past e. is_power e || accepts locking lay u (after lay m past) e)

-- a unit that holds a passphrase is Unlocked exactly when it was opened, and not closed since
abbrev pub OpenWhenOpened : Type 0
OpenWhenOpened = (lay : Layout) (m : List Block) (h : List Event) (u : ℕ) →
    let st = (unit_at u (after lay m h)).standing in
    holds_phrase st ≡ true → (is_unlocked st ≡ true) ↔ OpenedSince lay m u h

-- Bounds

abbrev pub phrase_of : Standing → List ℕ
phrase_of impersonal = []
phrase_of (locked p) = p
phrase_of (unlocked p) = p
phrase_of (recovering p d) = p

-- the bounds on a unit's record
pub record Within (x : UnitRecord) : Type 0 where
  pub phrase : length (phrase_of x.standing) ≤ 50
  pub hint : length x.hint ≤ 100
  pub misses : x.misses ≤ 10

-- every record of every run is within them
abbrev pub StaysWithin : Type 0
StaysWithin = (lay : Layout) (m : List Block) (h : List Event) (u : ℕ) → Within (unit_at u (after lay m h))

-- whatever layout bytes a stick is fitted with, its units' places pass the check
abbrev pub FitsAlways : Type 0
FitsAlways = (bs : List ℕ) (blocks : ℕ) → fits (fitted_layout bs blocks) blocks ≡ true
