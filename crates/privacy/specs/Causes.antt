-- Causes: what must have come before a stick stands as it does, and what an event can change. Over every run from a first power-up.
use Rattle.std.specs.Prelude.{◌≡◌, ℕ, suc, ◌+◌, ◌-◌, ◌*◌, ◌/◌, ◌<◌, ◌≤◌, Bool, true, false, cond, not, ◌&&◌, ◌||◌, ◌⊎◌, ◌↔◌, List, [], ◌∷◌, ◌++◌, length, Some, None, Option, ◌==◌, ◌≢◌, nat_lt, slice_index_or}
use Rattle.model.specs.Blocks.{Block, bad, good}
use Rattle.model.specs.Bulk.{place_at}
use Rattle.model.specs.Bytes.{le32}
use Rattle.model.specs.Control.{find_unit, unit_at, interface_at, blocks_of}
use Rattle.model.specs.Events.{Event, control, bulk, work, clock, reset, suspend, resume, power, step, after, run}
use Rattle.model.specs.Layouts.{Layout, sum, fitted_layout}
use Rattle.model.specs.LockData.{steps_for, completing, lock_data}
use Rattle.model.specs.Parts.{Access, access_in}
use Rattle.model.specs.Recovery.{zeros, is_recovering, steps_done_of, first_recovering}
use Rattle.model.specs.Requests.{requested}
use Rattle.model.specs.Sticks.{Stick}
use Rattle.model.specs.Units.{impersonal, locked, unlocked, unit_record, is_locked}
use Rattle.model.specs.Wrappers.{cbw_in}
use Rattle.model.specs.declared.command.Cbw.{Cbw}
use Rattle.model.specs.declared.command.Command.{Command}
use Rattle.model.specs.declared.command.Command.TheVariants.{TestUnitReady, RequestSense, Inquiry, ReadCapacity, Read, Write, Rejected}
use Rattle.model.specs.declared.ids.Phase.{Phase}
use Rattle.model.specs.declared.ids.Phase.TheVariants.{Present, Idle, Gone}
use Rattle.model.specs.declared.request.Asked.{Asked}
use Rattle.model.specs.declared.request.Put.{Put}
use Rattle.model.specs.declared.request.Put.TheVariants.{StorePassphrase, MatchPassphrase, ChangePassphrase, ErasePassphrase, EraseForgottenPassphrase, LockAgain, ChangeInterfaceAccess}
use Rattle.model.specs.declared.request.Request.{Request}
use Rattle.model.specs.declared.request.Request.TheVariants.{DeviceDescriptor, Bundle, LockData, HighestUnit, ClearJam, PutTo}
use Rattle.privacy.specs.Claims.{is_bad_block, is_unit, is_power, carries_candidate, accepts, Locked, completes, fits, Since}

-- Kinds of event

abbrev pub is_work : Event → Bool
is_work (control setup ds) = false
is_work (bulk i cbw ds) = false
is_work work = true
is_work (clock ms) = false
is_work reset = false
is_work suspend = false
is_work resume = false
is_work power = false

abbrev pub is_clock : Event → Bool
is_clock (control setup ds) = false
is_clock (bulk i cbw ds) = false
is_clock work = false
is_clock (clock ms) = true
is_clock reset = false
is_clock suspend = false
is_clock resume = false
is_clock power = false

abbrev pub is_reset : Event → Bool
is_reset (control setup ds) = false
is_reset (bulk i cbw ds) = false
is_reset work = false
is_reset (clock ms) = false
is_reset reset = true
is_reset suspend = false
is_reset resume = false
is_reset power = false

-- Blocks

-- the number of blocks and the bad marks never change
pub record MarksKept (m n : List Block) : Type 0 where
  pub number : length n ≡ length m
  pub marks : (b : ℕ) → is_bad_block (slice_index_or n b bad) ≡ is_bad_block (slice_index_or m b bad)

abbrev pub MarksStay : Type 0
MarksStay = (lay : Layout) (m : List Block) (h : List Event) → MarksKept m (after lay m h).blocks

abbrev pub is_writing : Command → Bool
is_writing TestUnitReady = false
is_writing (RequestSense n) = false
is_writing (Inquiry n) = false
is_writing ReadCapacity = false
is_writing (Read a n) = false
is_writing (Write a n) = true
is_writing (Rejected s) = false

abbrev pub write_for : Layout → ℕ → ℕ → Option Cbw → Bool
write_for lay u i None = false
write_for lay u i (Some c) = is_unit (find_unit lay i c.unit) u && is_writing c.command

-- the event is a WRITE(10) to the unit
abbrev pub writes_to : Layout → ℕ → Event → Bool
writes_to lay u (control setup ds) = false
writes_to lay u (bulk i cbw ds) = write_for lay u i (cbw_in cbw)
writes_to lay u work = false
writes_to lay u (clock ms) = false
writes_to lay u reset = false
writes_to lay u suspend = false
writes_to lay u resume = false
writes_to lay u power = false

-- the event is a work step, and it falls to the unit: it is recovering, and the first that is
abbrev pub falls_to : ℕ → Stick → Event → Bool
falls_to u s e = is_work e && (is_recovering (unit_at u s).standing && first_recovering s.units == u)

abbrev pub Holds : Layout → ℕ → ℕ → Type 0
Holds lay u b = ((place_at lay u).start ≤ b) × (b < (place_at lay u).start + (place_at lay u).count)

-- what may change a block of the unit: a WRITE(10) to it that the stick takes while the unit is not Locked, or a work step of its recovery
pub data Touches (lay : Layout) (u : ℕ) (s : Stick) (e : Event) : Type 0 where
  by_write : writes_to lay u e ≡ true → (step lay s e).reply.code ≡ 0 → is_locked (unit_at u s).standing ≡ false → Touches lay u s e
  by_recovery : falls_to u s e ≡ true → Touches lay u s e

-- a block that an event changes lies in a unit's place, and the event is one that may change that unit's blocks
abbrev pub BlocksStay : Type 0
BlocksStay = (lay : Layout) (s : Stick) (e : Event) (b : ℕ) →
    (slice_index_or (step lay s e).next.blocks b bad ≡ slice_index_or s.blocks b bad) ⊎ ((u : ℕ) × Holds lay u b × Touches lay u s e)

-- a block of a unit is changed by no event but such a one for this unit
abbrev pub UnitBlocksStay : Type 0
UnitBlocksStay = (lay : Layout) (blocks : ℕ) → fits lay blocks ≡ true → (s : Stick) (e : Event) (u b : ℕ) → Holds lay u b →
    (slice_index_or (step lay s e).next.blocks b bad ≡ slice_index_or s.blocks b bad) ⊎ Touches lay u s e

-- every block of a unit lies on the medium, in every run, so that no read or write passes its end
abbrev pub OnMedium : Type 0
OnMedium = (lay : Layout) (m : List Block) (h : List Event) (u b : ℕ) → fits lay (length m) ≡ true → Holds lay u b → b < length (after lay m h).blocks

-- Interface changes

abbrev pub is_away : Phase → Bool
is_away Present = false
is_away (Idle i t x y) = true
is_away (Gone i t y) = true

abbrev pub at_interface : ℕ → Option Access → Option (ℕ × Access)
at_interface i None = None
at_interface i (Some a) = Some (i, a)

abbrev pub access_put : Put → ℕ → List ℕ → Option (ℕ × Access)
access_put StorePassphrase i ds = None
access_put MatchPassphrase i ds = None
access_put ChangePassphrase i ds = None
access_put ErasePassphrase i ds = None
access_put EraseForgottenPassphrase i ds = None
access_put LockAgain i ds = None
access_put ChangeInterfaceAccess i ds = at_interface i (access_in ds)

abbrev pub access_asked : Request → List ℕ → Option (ℕ × Access)
access_asked DeviceDescriptor ds = None
access_asked Bundle ds = None
access_asked (LockData a) ds = None
access_asked (HighestUnit i) ds = None
access_asked (ClearJam i) ds = None
access_asked (PutTo p a) ds = access_put p a.interface ds

abbrev pub access_told : Option Asked → List ℕ → Option (ℕ × Access)
access_told None ds = None
access_told (Some a) ds = access_asked a.request ds

-- the interface and the access data of an accepted Change Interface Access
abbrev pub accepted_access : Layout → Stick → Event → Option (ℕ × Access)
accepted_access lay s (control setup ds) = cond ((step lay s (control setup ds)).reply.code == 0) (access_told (requested setup) ds) None
accepted_access lay s (bulk i cbw ds) = None
accepted_access lay s work = None
accepted_access lay s (clock ms) = None
accepted_access lay s reset = None
accepted_access lay s suspend = None
accepted_access lay s resume = None
accepted_access lay s power = None

-- the last accepted interface change since power came: its interface and access data, and the time that clock calls brought since, none
-- before the first of them
pub record Change : Type 0 where
  pub interface : ℕ
  pub access : Access
  pub elapsed : Option ℕ

abbrev pub change : ℕ → Access → Option ℕ → Change
change i a t = record { interface = i; access = a; elapsed = t }

abbrev pub and_time : Option ℕ → ℕ → ℕ
and_time None ms = ms
and_time (Some t) ms = t + ms

abbrev pub time_passes : ℕ → Option Change → Option Change
time_passes ms None = None
time_passes ms (Some c) = Some (change c.interface c.access (Some (and_time c.elapsed ms)))

abbrev pub unless_changed : Event → Option Change → Option Change
unless_changed (control setup ds) c = c
unless_changed (bulk i cbw ds) c = c
unless_changed work c = c
unless_changed (clock ms) c = time_passes ms c
unless_changed reset c = c
unless_changed suspend c = c
unless_changed resume c = c
unless_changed power c = None

abbrev pub changed_to : Option (ℕ × Access) → Event → Option Change → Option Change
changed_to None e c = unless_changed e c
changed_to (Some x) e c = Some (change x.0 x.1 None)

abbrev pub last_change : Layout → List Block → List Event → Option Change
last_change lay m [] = None
last_change lay m (e ∷ past) = changed_to (accepted_access lay (after lay m past) e) e (last_change lay m past)

-- the phase that its times give: idle until a clock call leaves nothing of the idle time, then gone while some time is left, then present
abbrev pub phase_at : ℕ → Access → Option ℕ → Phase
phase_at i a None = Idle i a.target a.idle a.gone
phase_at i a (Some t) =
    cond (nat_lt t a.idle) (Idle i a.target (a.idle - t) a.gone)
    (cond (nat_lt t (a.idle + a.gone)) (Gone i a.target (a.idle + a.gone - t)) Present)

abbrev pub phase_due : Option Change → Phase
phase_due None = Present
phase_due (Some c) = phase_at c.interface c.access c.elapsed

-- a stick idles or is gone exactly as the last accepted interface change asked for, for as long as it asked for
abbrev pub AwayAsAsked : Type 0
AwayAsAsked = (lay : Layout) (m : List Block) (h : List Event) → (after lay m h).phase ≡ phase_due (last_change lay m h)

-- a clock call in which the target is presented
abbrev pub presents : Layout → Stick → Event → Bool
presents lay s e = is_clock e && (is_away s.phase && not (is_away (step lay s e).next.phase))

abbrev pub is_some : {A : Type 0} → Option A → Bool
is_some None = false
is_some (Some x) = true

-- it idles or is gone exactly when an interface change was accepted, and was neither presented nor dropped by power since
abbrev pub AwayWhenAsked : Type 0
AwayWhenAsked = (lay : Layout) (m : List Block) (h : List Event) →
    (is_away (after lay m h).phase ≡ true) ↔ Since (λ past e. is_some (accepted_access lay (after lay m past) e)) (λ past e. is_power e || presents lay (after lay m past) e) h

-- Jams

abbrev pub is_bulk_on : ℕ → Event → Bool
is_bulk_on i (control setup ds) = false
is_bulk_on i (bulk j cbw ds) = j == i
is_bulk_on i work = false
is_bulk_on i (clock ms) = false
is_bulk_on i reset = false
is_bulk_on i suspend = false
is_bulk_on i resume = false
is_bulk_on i power = false

-- a bulk command on the interface is refused with 16
abbrev pub jams : Layout → ℕ → Stick → Event → Bool
jams lay i s e = is_bulk_on i e && (step lay s e).reply.code == 16

abbrev pub asks_clearing : ℕ → Request → Bool
asks_clearing i DeviceDescriptor = false
asks_clearing i Bundle = false
asks_clearing i (LockData a) = false
asks_clearing i (HighestUnit j) = false
asks_clearing i (ClearJam j) = j == i
asks_clearing i (PutTo p a) = false

abbrev pub asked_clearing : ℕ → Option Asked → Bool
asked_clearing i None = false
asked_clearing i (Some a) = asks_clearing i a.request

abbrev pub is_clearing : ℕ → Event → Bool
is_clearing i (control setup ds) = asked_clearing i (requested setup)
is_clearing i (bulk j cbw ds) = false
is_clearing i work = false
is_clearing i (clock ms) = false
is_clearing i reset = false
is_clearing i suspend = false
is_clearing i resume = false
is_clearing i power = false

-- a power cycle, a bus reset, a presenting, or an accepted clearing of this interface's jam
abbrev pub clears : Layout → ℕ → Stick → Event → Bool
clears lay i s e = is_power e || (is_reset e || (presents lay s e || is_clearing i e && (step lay s e).reply.code == 0))

-- an interface is jammed exactly when a bulk command there was refused with 16, and the jam was not cleared since
abbrev pub JammedWhenJammed : Type 0
JammedWhenJammed = (lay : Layout) (m : List Block) (h : List Event) (i : ℕ) →
    ((interface_at i (after lay m h)).jammed ≡ true) ↔ Since (λ past e. jams lay i (after lay m past) e) (λ past e. clears lay i (after lay m past) e) h

-- Recovery

abbrev pub forgetting : Put → Bool
forgetting StorePassphrase = false
forgetting MatchPassphrase = false
forgetting ChangePassphrase = false
forgetting ErasePassphrase = false
forgetting EraseForgottenPassphrase = true
forgetting LockAgain = false
forgetting ChangeInterfaceAccess = false

abbrev pub one_more : Option ℕ → Option ℕ
one_more None = None
one_more (Some n) = Some (suc n)

-- how many work steps fell to the unit since the last accepted Erase Forgotten Passphrase for it, if there was one
abbrev pub steps_since : Layout → List Block → ℕ → List Event → Option ℕ
steps_since lay m u [] = None
steps_since lay m u (e ∷ past) =
    cond (accepts forgetting lay u (after lay m past) e) (Some 0)
    (cond (falls_to u (after lay m past) e) (one_more (steps_since lay m u past)) (steps_since lay m u past))

-- a unit is recovering, with d steps done, exactly when an Erase Forgotten Passphrase for it was accepted and d work steps fell to it
-- since, fewer than it needs
abbrev pub RecoveringWhenAsked : Type 0
RecoveringWhenAsked = (lay : Layout) (m : List Block) (h : List Event) (u d : ℕ) → 0 < blocks_of lay u →
    let st = (unit_at u (after lay m h)).standing in
    ((is_recovering st ≡ true) × (steps_done_of st ≡ d)) ↔ ((steps_since lay m u h ≡ Some d) × (d < steps_for (blocks_of lay u)))

-- the work steps that Lock Data report as left, 10 ms each
abbrev pub reported : Layout → ℕ → Stick → ℕ
reported lay u s = completing (blocks_of lay u) (unit_at u s).standing / 10

-- in bytes 12 to 15 of the unit's Lock Data, as a time
abbrev pub LockDataReports : Type 0
LockDataReports = (lay : Layout) (u i k : ℕ) (s : Stick) → le32 (lock_data (blocks_of lay u) i k (unit_at u s)) 12 ≡ 10 * reported lay u s

abbrev pub IsZeros : Block → Type 0
IsZeros bad = Unit {0}
IsZeros (good bs) = bs ≡ zeros

-- What an event does to a recovery: a work step that falls to the unit takes one from the steps left, and the last of them ends it, with
-- passphrase, hint and misses erased, the accepted flag set and every good block of the unit zeros; nothing else changes it.
pub record Recovers (lay : Layout) (u : ℕ) (s : Stick) (e : Event) : Type 0 where
  pub goes_on : falls_to u s e ≡ false → (unit_at u (step lay s e).next).standing ≡ (unit_at u s).standing
  pub counts : falls_to u s e ≡ true → 1 < reported lay u s →
      (is_recovering (unit_at u (step lay s e).next).standing ≡ true) × (reported lay u (step lay s e).next + 1 ≡ reported lay u s)
  pub ends : falls_to u s e ≡ true → reported lay u s ≤ 1 → unit_at u (step lay s e).next ≡ unit_record impersonal [] 0 true (unit_at u s).sense
  pub wiped : falls_to u s e ≡ true → reported lay u s ≤ 1 → (b : ℕ) → Holds lay u b → IsZeros (slice_index_or (step lay s e).next.blocks b bad)

abbrev pub RecoversAsReported : Type 0
RecoversAsReported = (lay : Layout) (m : List Block) (h : List Event) (u : ℕ) → fits lay (length m) ≡ true →
    is_recovering (unit_at u (after lay m h)).standing ≡ true → (e : Event) → Recovers lay u (after lay m h) e

-- a recovery completes in exactly the last of the work steps that Lock Data report as left
abbrev pub CompletesInLast : Type 0
CompletesInLast = (lay : Layout) (m : List Block) (h : List Event) (u : ℕ) → fits lay (length m) ≡ true → (e : Event) →
    (completes lay u (after lay m h) e ≡ true) ↔ ((falls_to u (after lay m h) e ≡ true) × (reported lay u (after lay m h) ≤ 1))

-- how many work steps of a further list fall to the unit
abbrev pub fallen : Layout → ℕ → Stick → List Event → ℕ
fallen lay u s [] = 0
fallen lay u s (e ∷ es) = cond (falls_to u s e) 1 0 + fallen lay u (step lay s e).next es

-- and before that it goes on, with that many fewer left
abbrev pub LastsAsReported : Type 0
LastsAsReported = (lay : Layout) (u : ℕ) (s : Stick) (es : List Event) → is_recovering (unit_at u s).standing ≡ true → fallen lay u s es < reported lay u s →
    (is_recovering (unit_at u (run lay s es)).standing ≡ true) × (reported lay u (run lay s es) + fallen lay u s es ≡ reported lay u s)

-- after d steps a work step zeroes the good ones of the unit's blocks 16 d to 16 d + 15, and no other
abbrev pub WipesInOrder : Type 0
WipesInOrder = (lay : Layout) (u : ℕ) (s : Stick) (b : ℕ) → falls_to u s work ≡ true → Holds lay u b →
    let turn = (b - (place_at lay u).start) / 16 in
    let now = slice_index_or (step lay s work).next.blocks b bad in
    (turn ≡ steps_done_of (unit_at u s).standing → IsZeros now) × ((turn ≢ steps_done_of (unit_at u s).standing) → now ≡ slice_index_or s.blocks b bad)

-- every unit of a fitted stick has a block
abbrev pub UnitsHaveBlocks : Type 0
UnitsHaveBlocks = (bs : List ℕ) (blocks u : ℕ) → u < sum (fitted_layout bs blocks).counts → 0 < blocks_of (fitted_layout bs blocks) u

-- Candidates

-- Match Passphrase with a candidate, to unit k of interface i, whatever stands in the byte behind the interface
abbrev pub match_event : ℕ → ℕ → ℕ → List ℕ → Event
match_event i k x p = control (0x21 ∷ 0xFC ∷ 0x02 ∷ k ∷ i ∷ x ∷ (length p + 3) ∷ 0x00 ∷ []) ((length p + 3) ∷ 0x25 ∷ (p ++ 0x00 ∷ []))

-- the stored passphrase opens a Locked unit that is not recovering, with under ten misses and no interface change under way
abbrev pub CorrectOpens : Type 0
CorrectOpens = (lay : Layout) (m : List Block) (h : List Event) (i k x u : ℕ) (p : List ℕ) →
    let s = after lay m h in
    s.phase ≡ Present → find_unit lay i k ≡ Some u → (unit_at u s).standing ≡ locked p → (unit_at u s).misses < 10 →
    ((step lay s (match_event i k x p)).reply.code ≡ 0) × ((unit_at u (step lay s (match_event i k x p)).next).standing ≡ unlocked p)

-- after ten misses no candidate is accepted for a Locked unit, the stored passphrase included
abbrev pub ShutAfterTen : Type 0
ShutAfterTen = (lay : Layout) (s : Stick) (e : Event) (u : ℕ) → Locked u s → 10 ≤ (unit_at u s).misses → accepts carries_candidate lay u s e ≡ false

-- The laws of cause, together
pub record Caused : Type 0 where
  pub away : AwayAsAsked
  pub away_since : AwayWhenAsked
  pub jammed : JammedWhenJammed
  pub recovering_since : RecoveringWhenAsked
  pub recovers : RecoversAsReported
  pub told : LockDataReports
  pub lasts : LastsAsReported
  pub completes_last : CompletesInLast
  pub in_order : WipesInOrder
  pub units_have_blocks : UnitsHaveBlocks
  pub opens : CorrectOpens
  pub shut : ShutAfterTen
  pub blocks : BlocksStay
  pub unit_blocks : UnitBlocksStay
  pub marks : MarksStay
  pub on_medium : OnMedium
