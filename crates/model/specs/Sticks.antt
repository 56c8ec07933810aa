-- A stick by its meaning: what stands on it without power, and what power-up makes of that.
use Rattle.std.specs.Prelude.{ℕ, Bool, false, cond, List, map, length, take, drop, replicate, slice_index}
use Rattle.std.specs.List.{range_with_len}
use Rattle.model.specs.Blocks.{Block}
use Rattle.model.specs.Layouts.{Layout, sum}
use Rattle.model.specs.Units.{UnitRecord, new_unit, any_phrase, powered}
use Rattle.model.specs.declared.ids.Ids.{Ids}
use Rattle.model.specs.declared.ids.Ids.TheVariants.{Negotiable, ScsiBbb}
use Rattle.model.specs.declared.ids.Interface.{Interface}
use Rattle.model.specs.declared.ids.Phase.{Phase}
use Rattle.model.specs.declared.ids.Phase.TheVariants.{Present}

-- all of a running stick that can change: its units in layout order, its interfaces, an interface change under way, and the medium's blocks
pub record Stick : Type 0 where
  pub units : List UnitRecord
  pub interfaces : List Interface
  pub phase : Phase
  pub blocks : List Block

abbrev pub stick : List UnitRecord → List Interface → Phase → List Block → Stick
stick us is ph m = record { units = us; interfaces = is; phase = ph; blocks = m }

abbrev pub interface : Ids → Bool → Interface
interface ids jammed = record { ids = ids; jammed = jammed }

-- the units of interface i, out of a list over all units
abbrev pub units_of_interface : {A : Type 0} → Layout → ℕ → List A → List A
units_of_interface lay i us = take (slice_index lay.counts i) (drop (sum (take i lay.counts)) us)

-- after power-up an interface presents Negotiable IDs exactly if one of its units holds a passphrase, and is not jammed
abbrev pub interface_up : Layout → List UnitRecord → ℕ → Interface
interface_up lay us i = interface (cond (any_phrase (units_of_interface lay i us)) Negotiable ScsiBbb) false

-- power-up: no interface change is under way
abbrev pub powered_up : Layout → List UnitRecord → List Block → Stick
powered_up lay us m = stick (map powered us) (map (interface_up lay us) (range_with_len 0 (length lay.counts))) Present m

-- a power cycle: power-down keeps the units' records and the blocks, and nothing else
abbrev pub repowered : Layout → Stick → Stick
repowered lay s = powered_up lay s.units s.blocks

-- a fitted stick: new units, on a medium with these blocks
abbrev pub fitted_units : Layout → List UnitRecord
fitted_units lay = replicate (sum lay.counts) new_unit

-- the stick at its first power-up after fitting: new units, SCSI BBB IDs, no jam, no interface change
abbrev pub first : Layout → List Block → Stick
first lay m = stick (fitted_units lay) (replicate (length lay.counts) (interface ScsiBbb false)) Present m
