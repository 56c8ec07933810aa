use Rattle.std.proofs.Common.{◌+◌, ◌*◌, ℕ, leb, arith}
use Rattle.model.specs.Recovery.{advanced, steps_done_of}
use Rattle.model.specs.Units.{UnitRecord, new_unit}
use Rattle.units.proofs.Tables.{sound_at, rows_kept, row_altered, no_row_altered}
use Rattle.units.proofs.rows.Rows.advance.Goals as goal

abbrev step : ℕ → UnitRecord → UnitRecord
step blocks u = advanced (leb blocks (16 * (steps_done_of u.standing + 1))) u.standing u

pub advance-requires : goal.advance-requires
advance-requires c = sound_at c.self.inside.rows c.args.index _ (omega arith) c.self.invariant.1

pub invariant_of-self : goal.invariant_of-self
invariant_of-self c = rows_kept c.self.inside.rows c.args.index c.advance.new.self c.self.invariant c.advance.ensures.sound

pub returns-then-index-lt16 : goal.returns-then-index-lt16
returns-then-index-lt16 c =
    row_altered (step c.args.blocks) c.self.inside.rows c.args.self.now c.args.index c.self.view_is _ c.advance.new.self new_unit (omega arith) c.advance.ensures.record

pub returns-else-index-lt16 : goal.returns-else-index-lt16
returns-else-index-lt16 c = no_row_altered (step c.args.blocks) c.self.inside.rows c.args.self.now c.args.index c.self.view_is (omega arith)
