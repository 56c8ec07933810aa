-- What a stick means, without power and running, by what its medium means.
use Rattle.std.specs.Prelude.{List, length, take}
use Rattle.model.specs.Blocks.{Block}
use Rattle.model.specs.Layouts.{Layout}
use Rattle.model.specs.Units.{UnitRecord}
use Rattle.model.specs.Sticks.{Stick, stick}
use Rattle.stick.specs.declared.stick.Running.{Running}
use Rattle.medium.specs.declared.Medium.{Ghosts}

-- the records of the units that the layout has, of a table with room for more
abbrev pub units_in : Layout → List UnitRecord → List UnitRecord
units_in lay us = take (length lay.places) us

module _ {M : Type 0} {m : Ghosts M} (meaning : M → List Block) where
  abbrev pub stick_of : Running M m → Stick
  stick_of r = stick (units_in r.layout r.units) r.interfaces r.phase (meaning r.medium)
