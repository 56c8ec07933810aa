-- Bulk commands: what each answers, what it changes, and what the handed buffer then holds.
use Rattle.std.specs.Prelude.{ℕ, ◌-◌, true, cond, List, [], ◌++◌, length, drop, Some, None, Option, nat_lt, slice_index_or}
use Rattle.model.specs.Commands.{Ending, barrier, performed}
use Rattle.model.specs.Control.{alter, find_unit, unit_at, interface_at, with_interfaces}
use Rattle.model.specs.Layouts.{Layout, place}
use Rattle.model.specs.Refusals.{refusal_number}
use Rattle.model.specs.Sticks.{Stick, stick, interface}
use Rattle.model.specs.Units.{UnitRecord, unit_record}
use Rattle.model.specs.Wrappers.{cbw_in, csw}
use Rattle.model.specs.declared.command.Cbw.{Cbw}
use Rattle.model.specs.declared.ids.Interface.{Interface}
use Rattle.model.specs.declared.ids.Phase.{Phase}
use Rattle.model.specs.declared.ids.Phase.TheVariants.{Present}
use Rattle.model.specs.declared.ids.Phase.TheVariants as phase
use Rattle.model.specs.declared.layout.Place.{Place}
use Rattle.model.specs.declared.refusal.Refusal.{Refusal}
use Rattle.model.specs.declared.refusal.Refusal.TheVariants.{Idle, Gone, Absent, ShortBuffer, Jammed, BadWrapper}
use Rattle.model.specs.declared.sense.Sense.{Sense}

-- the refusal number or 0, the CSW, the bytes answered, and the stick afterwards
pub record Completed : Type 0 where
  pub code : ℕ
  pub csw : List ℕ
  pub answer : List ℕ
  pub next : Stick

abbrev pub completed : ℕ → List ℕ → List ℕ → Stick → Completed
completed n w bs s = record { code = n; csw = w; answer = bs; next = s }

abbrev pub turned_down : Refusal → Stick → Completed
turned_down r s = completed (refusal_number r) [] [] s

abbrev pub place_at : Layout → ℕ → Place
place_at lay v = slice_index_or lay.places v (place 0 0)

abbrev pub with_sense : Sense → UnitRecord → UnitRecord
with_sense n u = unit_record u.standing u.hint u.misses u.accepted n

-- the end of a command on unit v: the residue is what of the transfer length did not move
abbrev pub ended : ℕ → Cbw → Ending → Stick → Completed
ended v c e s =
    completed 0 (csw c.tag (c.total - e.moved) e.status) e.answer
    (stick (alter v (with_sense e.sense) s.units) s.interfaces s.phase e.blocks)

abbrev pub command : Layout → ℕ → Cbw → List ℕ → Stick → Completed
command lay v c ds s =
    ended v c (performed (place_at lay v) (barrier (unit_at v s).standing) (unit_at v s).sense c.total c.direction c.command ds s.blocks) s

abbrev pub jammed : Interface → Interface
jammed x = interface x.ids true

-- a CBW that is not in order jams its interface
abbrev pub jam : ℕ → Stick → Completed
jam i s = turned_down BadWrapper (with_interfaces (alter i jammed s.interfaces) s)

abbrev pub addressed : Layout → ℕ → Option ℕ → Cbw → List ℕ → Stick → Completed
addressed lay i None c ds s = jam i s
addressed lay i (Some v) c ds s = cond (nat_lt (length ds) c.total) (turned_down ShortBuffer s) (command lay v c ds s)

abbrev pub wrapped : Layout → ℕ → Option Cbw → List ℕ → Stick → Completed
wrapped lay i None ds s = jam i s
wrapped lay i (Some c) ds s = addressed lay i (find_unit lay i c.unit) c ds s

-- on an interface that there is and that is not jammed
abbrev pub on_interface : Layout → ℕ → List ℕ → List ℕ → Stick → Completed
on_interface lay i cbw ds s =
    cond (nat_lt i (length lay.counts))
    (cond (interface_at i s).jammed (turned_down Jammed s) (wrapped lay i (cbw_in cbw) ds s))
    (turned_down Absent s)

abbrev pub commanded_when : Phase → Layout → ℕ → List ℕ → List ℕ → Stick → Completed
commanded_when Present lay i cbw ds s = on_interface lay i cbw ds s
commanded_when (phase.Idle j t a b) lay i cbw ds s = turned_down Idle s
commanded_when (phase.Gone j t b) lay i cbw ds s = turned_down Gone s

abbrev pub commanded : Layout → ℕ → List ℕ → List ℕ → Stick → Completed
commanded lay i cbw ds s = commanded_when s.phase lay i cbw ds s

-- with the buffer afterwards: what is answered at its front, the rest as it was
pub record Bulked : Type 0 where
  pub code : ℕ
  pub csw : List ℕ
  pub answer : List ℕ
  pub buffer : List ℕ
  pub next : Stick

abbrev pub bulk_with : ℕ → List ℕ → List ℕ → List ℕ → Stick → Bulked
bulk_with n w bs buf s = record { code = n; csw = w; answer = bs; buffer = buf; next = s }

abbrev pub bulked : Layout → ℕ → List ℕ → List ℕ → Stick → Bulked
bulked lay i cbw ds s =
    let o = commanded lay i cbw ds s in
    bulk_with o.code o.csw o.answer (o.answer ++ drop (length o.answer) ds) o.next
