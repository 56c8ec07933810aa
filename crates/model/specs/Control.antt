-- Control transfers: what each answers, what it changes, and what the handed buffer then holds.
use Rattle.std.specs.Prelude.{ℕ, zero, suc, ◌+◌, ◌-◌, Bool, false, cond, not, ◌&&◌, List, [], ◌∷◌, ◌++◌, length, take, drop, replicate, Some, None, Option, ◌==◌, nat_lt, slice_index, slice_index_or}
use Rattle.model.specs.Bytes.{between}
use Rattle.model.specs.Descriptors.{device_descriptor, bundle}
use Rattle.model.specs.Identities.{is_negotiable}
use Rattle.model.specs.Layouts.{Layout, sum, place, place_count}
use Rattle.model.specs.LockData.{lock_data}
use Rattle.model.specs.Parts.{Access, access_in}
use Rattle.model.specs.Puts.{UnitPut, misfit, carried, turned}
use Rattle.model.specs.Refusals.{refusal_number}
use Rattle.model.specs.Requests.{shortest, longest, requested, is_reading}
use Rattle.model.specs.Sticks.{Stick, stick, interface, units_of_interface}
use Rattle.model.specs.Units.{UnitRecord, new_unit, any_locked}
use Rattle.model.specs.declared.ids.Ids.TheVariants.{ScsiBbb}
use Rattle.model.specs.declared.ids.Interface.{Interface}
use Rattle.model.specs.declared.ids.Phase.{Phase}
use Rattle.model.specs.declared.ids.Phase.TheVariants.{Present}
use Rattle.model.specs.declared.ids.Phase.TheVariants as phase
use Rattle.model.specs.declared.refusal.Refusal.{Refusal}
use Rattle.model.specs.declared.refusal.Refusal.TheVariants.{Idle, Gone, Unlisted, Absent, WrongLength, WrongState, Malformed, ShortBuffer}
use Rattle.model.specs.declared.request.Asked.{Asked}
use Rattle.model.specs.declared.request.Put.{Put}
use Rattle.model.specs.declared.request.Put.TheVariants.{StorePassphrase, MatchPassphrase, ChangePassphrase, ErasePassphrase, EraseForgottenPassphrase, LockAgain, ChangeInterfaceAccess}
use Rattle.model.specs.declared.request.Request.{Request}
use Rattle.model.specs.declared.request.Request.TheVariants.{DeviceDescriptor, Bundle, LockData, HighestUnit, ClearJam, PutTo}

-- the refusal number or 0, the bytes answered, and the stick afterwards
pub record Outcome : Type 0 where
  pub code : ℕ
  pub answer : List ℕ
  pub next : Stick

abbrev pub outcome : ℕ → List ℕ → Stick → Outcome
outcome n bs s = record { code = n; answer = bs; next = s }

abbrev pub refuse : Refusal → Stick → Outcome
refuse r s = outcome (refusal_number r) [] s

-- the element at a place changed
abbrev pub alter : {A : Type 0} → ℕ → (A → A) → List A → List A
alter v f [] = []
alter zero f (x ∷ xs) = f x ∷ xs
alter (suc v) f (x ∷ xs) = x ∷ alter v f xs

abbrev pub with_units : List UnitRecord → Stick → Stick
with_units us s = stick us s.interfaces s.phase s.blocks

abbrev pub with_interfaces : List Interface → Stick → Stick
with_interfaces is s = stick s.units is s.phase s.blocks

abbrev pub with_phase : Phase → Stick → Stick
with_phase ph s = stick s.units s.interfaces ph s.blocks

abbrev pub unit_at : ℕ → Stick → UnitRecord
unit_at v s = slice_index_or s.units v new_unit

abbrev pub interface_at : ℕ → Stick → Interface
interface_at i s = slice_index_or s.interfaces i (interface ScsiBbb false)

-- unit k of interface i by its number in the whole stick, if there is one
abbrev pub find_unit : Layout → ℕ → ℕ → Option ℕ
find_unit lay i k = cond (nat_lt i (length lay.counts) && nat_lt k (slice_index lay.counts i)) (Some (sum (take i lay.counts) + k)) None

abbrev pub blocks_of : Layout → ℕ → ℕ
blocks_of lay v = place_count (slice_index_or lay.places v (place 0 0))

-- the first bytes of a whole answer, at most n, if the buffer has room for them
abbrev pub answered : ℕ → ℕ → List ℕ → Stick → Outcome
answered n room whole s = cond (nat_lt room (length (take n whole))) (refuse ShortBuffer s) (outcome 0 (take n whole) s)

abbrev pub tell_lock_data : Layout → Option ℕ → ℕ → ℕ → ℕ → ℕ → Stick → Outcome
tell_lock_data lay None i k n room s = refuse Absent s
tell_lock_data lay (Some v) i k n room s = answered n room (lock_data (blocks_of lay v) i k (unit_at v s)) s

abbrev pub with_interface : Layout → ℕ → Stick → Outcome → Outcome
with_interface lay i s o = cond (nat_lt i (length lay.counts)) o (refuse Absent s)

abbrev pub tell_highest : Layout → ℕ → ℕ → ℕ → Stick → Outcome
tell_highest lay i n room s = cond (n == 1) (answered n room ((slice_index lay.counts i - 1) ∷ []) s) (refuse WrongLength s)

abbrev pub unjammed : Interface → Interface
unjammed x = interface x.ids false

abbrev pub clear_jam : ℕ → ℕ → ℕ → Stick → Outcome
clear_jam i n room s = cond (n == 0 && n == room) (outcome 0 [] (with_interfaces (alter i unjammed s.interfaces) s)) (refuse WrongLength s)

-- a Put to a unit: the length has to be allowed, and be the arriving one
abbrev pub sized : Put → ℕ → List ℕ → UnitPut
sized p n ds = cond (between (shortest p) (longest p) n && n == length ds) (carried p ds) misfit

abbrev pub put_to_unit : Option ℕ → Bool → UnitPut → Stick → Outcome
put_to_unit None n p s = refuse Absent s
put_to_unit (Some v) n p s = outcome (turned n p (unit_at v s)).code [] (with_units (alter v (λ u. (turned n p u).after) s.units) s)

-- Change Interface Access: the stick idles, then is gone, then presents the target; SCSI BBB IDs are refused while a unit of the
-- interface is Locked
abbrev pub change_access : Layout → ℕ → Option Access → Stick → Outcome
change_access lay i None s = refuse Malformed s
change_access lay i (Some a) s =
    cond (not (is_negotiable a.target) && any_locked (units_of_interface lay i s.units)) (refuse WrongState s)
    (outcome 0 [] (with_phase (phase.Idle i a.target a.idle a.gone) s))

abbrev pub access_sized : Layout → ℕ → ℕ → List ℕ → Stick → Outcome
access_sized lay i n ds s = cond (n == 12 && n == length ds) (change_access lay i (access_in ds) s) (refuse WrongLength s)

abbrev pub put : Layout → Put → ℕ → ℕ → ℕ → List ℕ → Stick → Outcome
put lay StorePassphrase i k n ds s = put_to_unit (find_unit lay i k) (is_negotiable (interface_at i s).ids) (sized StorePassphrase n ds) s
put lay MatchPassphrase i k n ds s = put_to_unit (find_unit lay i k) (is_negotiable (interface_at i s).ids) (sized MatchPassphrase n ds) s
put lay ChangePassphrase i k n ds s = put_to_unit (find_unit lay i k) (is_negotiable (interface_at i s).ids) (sized ChangePassphrase n ds) s
put lay ErasePassphrase i k n ds s = put_to_unit (find_unit lay i k) (is_negotiable (interface_at i s).ids) (sized ErasePassphrase n ds) s
put lay EraseForgottenPassphrase i k n ds s = put_to_unit (find_unit lay i k) (is_negotiable (interface_at i s).ids) (sized EraseForgottenPassphrase n ds) s
put lay LockAgain i k n ds s = put_to_unit (find_unit lay i k) (is_negotiable (interface_at i s).ids) (sized LockAgain n ds) s
put lay ChangeInterfaceAccess i k n ds s = with_interface lay i s (access_sized lay i n ds s)

-- a listed request with its wLength n and the data that arrive with it, whose length is the room for an answer
abbrev pub request : Layout → Request → ℕ → List ℕ → Stick → Outcome
request lay DeviceDescriptor n ds s = answered n (length ds) (device_descriptor lay s.interfaces) s
request lay Bundle n ds s = answered n (length ds) (bundle s.interfaces) s
request lay (LockData a) n ds s = tell_lock_data lay (find_unit lay a.interface a.unit) a.interface a.unit n (length ds) s
request lay (HighestUnit i) n ds s = with_interface lay i s (tell_highest lay i n (length ds) s)
request lay (ClearJam i) n ds s = with_interface lay i s (clear_jam i n (length ds) s)
request lay (PutTo p a) n ds s = put lay p a.interface a.unit n ds s

abbrev pub asked : Layout → Option Asked → List ℕ → Stick → Outcome
asked lay None ds s = refuse Unlisted s
asked lay (Some a) ds s = request lay a.request a.length ds s

-- refused while the stick idles, and while it is gone
abbrev pub when_present : Phase → Stick → Outcome → Outcome
when_present Present s o = o
when_present (phase.Idle i t a b) s o = refuse Idle s
when_present (phase.Gone i t b) s o = refuse Gone s

abbrev pub served : Layout → List ℕ → List ℕ → Stick → Outcome
served lay setup ds s = when_present s.phase s (asked lay (requested setup) ds s)

-- what is answered: of a reading the bytes at the buffer's front, else nothing; and the buffer afterwards: a reading's answer with the rest
-- as it was, arriving data wiped out
pub record Transferred : Type 0 where
  pub code : ℕ
  pub answer : List ℕ
  pub buffer : List ℕ
  pub next : Stick

abbrev pub transferred : ℕ → List ℕ → List ℕ → Stick → Transferred
transferred n bs buf s = record { code = n; answer = bs; buffer = buf; next = s }

abbrev pub controlled : Layout → List ℕ → List ℕ → Stick → Transferred
controlled lay setup ds s =
    let o = served lay setup ds s in
    cond (is_reading setup) (transferred o.code o.answer (o.answer ++ drop (length o.answer) ds) o.next)
    (transferred o.code [] (replicate (length ds) 0) o.next)
