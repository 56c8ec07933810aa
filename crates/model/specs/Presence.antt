-- The clock and the bus: how an interface change runs its time and ends, and what a bus reset clears.
use Rattle.std.specs.Prelude.{ℕ, ◌-◌, false, cond, map, nat_le}
use Rattle.model.specs.Control.{alter, unjammed, with_interfaces, with_phase}
use Rattle.model.specs.Sticks.{Stick, stick, interface}
use Rattle.model.specs.Units.{UnitRecord, unit_record}
use Rattle.model.specs.declared.ids.Ids.{Ids}
use Rattle.model.specs.declared.ids.Phase.{Phase}
use Rattle.model.specs.declared.ids.Phase.TheVariants.{Present, Idle, Gone}
use Rattle.model.specs.declared.sense.Sense.TheVariants.{None}

-- presenting clears the accepted flag and the sense, and keeps the standing
abbrev pub presented : UnitRecord → UnitRecord
presented u = unit_record u.standing u.hint u.misses false None

-- interface i presents the target; the others keep their IDs; every jam is cleared
abbrev pub presenting : ℕ → Ids → Stick → Stick
presenting i target s =
    stick (map presented s.units) (alter i (λ x. interface target false) (map unjammed s.interfaces)) Present s.blocks

-- time passes while the stick is gone; what is over is lost
abbrev pub gone_on : ℕ → ℕ → Ids → ℕ → Stick → Stick
gone_on ms i target gone s = cond (nat_le gone ms) (presenting i target s) (with_phase (Gone i target (gone - ms)) s)

-- a clock call uses up the idle time, then the gone time; a phase ends when nothing of it is left
abbrev pub passed : ℕ → Phase → Stick → Stick
passed ms Present s = s
passed ms (Idle i target idle gone) s = cond (nat_le idle ms) (gone_on (ms - idle) i target gone s) (with_phase (Idle i target (idle - ms) gone) s)
passed ms (Gone i target gone) s = gone_on ms i target gone s

-- a bus reset clears every jam
abbrev pub bus_reset : Stick → Stick
bus_reset s = with_interfaces (map unjammed s.interfaces) s
