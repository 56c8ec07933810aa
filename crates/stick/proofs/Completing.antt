-- A command on a unit of the stick, from what it did with the unit's place, sense and blocks.
use Rattle.std.proofs.Common.{◌≡◌, ℕ, ◌-◌, Bool, true, false, cond, eqb, ltb, List, [], length, Option, refl, ap}
use Rattle.commands.specs.Endings.{Carried, carried_out, done, turned}
use Rattle.commands.specs.declared.ended.Target.{Target}
use Rattle.model.specs.Blocks.{Block}
use Rattle.model.specs.Bulk.{Bulked, bulk_with, command, place_at, turned_down, with_sense}
use Rattle.model.specs.Commands.{Ending, barrier, performed}
use Rattle.model.specs.Control.{alter, unit_at}
use Rattle.model.specs.Layouts.{Layout}
use Rattle.model.specs.Sticks.{Stick, stick}
use Rattle.model.specs.Wrappers.{csw}
use Rattle.model.specs.declared.command.Cbw.{Cbw}
use Rattle.model.specs.declared.layout.Place.{Place}
use Rattle.model.specs.declared.refusal.Refusal.TheVariants as refusal
use Rattle.model.specs.declared.sense.Sense.{Sense}
use Rattle.stick.specs.Completions.{handed_back, unit_commanded}

abbrev pub target : Place → Option Sense → Sense → Target
target p b n = record { place = p; closed = b; sense = n }

abbrev pub unit_target : Layout → ℕ → Stick → Target
unit_target lay v s = target (place_at lay v) (barrier (unit_at v s).standing) (unit_at v s).sense

module _ (v : ℕ) (c : Cbw) (s : Stick) where
  abbrev pub finished : Ending → List ℕ → Bulked
  finished e buf =
      bulk_with 0 (csw c.tag (c.total - e.moved) e.status) e.answer buf
      (stick (alter v (with_sense e.sense) s.units) s.interfaces s.phase e.blocks)

  abbrev pub refused : ℕ → List Block → List ℕ → Bulked
  refused n m buf = bulk_with n [] [] buf (stick s.units s.interfaces s.phase m)

  -- the stick and the buffer, with what was carried out
  abbrev pub out : Carried → Bulked
  out k = cond (eqb k.code 0) (finished k.ending k.buffer) (refused k.code k.ending.blocks k.buffer)

  way : (lay : Layout) (ds : List ℕ) (e : Ending) (b : Bool) → e ≡ performed (place_at lay v) (barrier (unit_at v s).standing) (unit_at v s).sense c.total c.direction c.command ds s.blocks
      → out (cond b (turned refusal.ShortBuffer ds s.blocks) (done e ds)) ≡ handed_back ds (cond b (turned_down refusal.ShortBuffer s) (command lay v c ds s))
  way lay ds e true is = refl
  way lay ds e false is = ap (λ (x : Ending). out (done x ds)) is

  pub out_is : (lay : Layout) (ds : List ℕ) → out (carried_out (unit_target lay v s) c ds s.blocks) ≡ handed_back ds (unit_commanded lay v c ds s)
  out_is lay ds = way lay ds _ (ltb (length ds) c.total) refl
