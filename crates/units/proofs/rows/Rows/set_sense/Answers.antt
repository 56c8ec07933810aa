use Rattle.std.proofs.Common.{◌∙◌, arith}
use Rattle.model.specs.Bulk.{with_sense}
use Rattle.model.specs.Units.{new_unit}
use Rattle.units.proofs.Tables.{sound_at, rows_kept, row_altered, no_row_altered}
use Rattle.units.proofs.rows.Rows.set_sense.Goals as goal

pub invariant_of-self : goal.invariant_of-self
invariant_of-self c =
    rows_kept c.self.inside.rows c.args.index c.set_sense.new.self c.self.invariant (c.set_sense.ensures.sound ∙ sound_at c.self.inside.rows c.args.index _ (omega arith) c.self.invariant.1)

pub returns-then-index-lt16 : goal.returns-then-index-lt16
returns-then-index-lt16 c =
    row_altered (with_sense c.args.sense) c.self.inside.rows c.args.self.now c.args.index c.self.view_is _ c.set_sense.new.self new_unit (omega arith) c.set_sense.ensures.record

pub returns-else-index-lt16 : goal.returns-else-index-lt16
returns-else-index-lt16 c = no_row_altered (with_sense c.args.sense) c.self.inside.rows c.args.self.now c.args.index c.self.view_is (omega arith)
