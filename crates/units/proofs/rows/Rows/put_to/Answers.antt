use Rattle.std.proofs.Common.{ap, arith}
use Rattle.parts.specs.Carries.{put_of}
use Rattle.model.specs.Puts.{Turn, turned}
use Rattle.model.specs.Units.{UnitRecord, new_unit}
use Rattle.units.proofs.Tables.{sound_at, rows_kept, row_altered, no_row_altered}
use Rattle.units.proofs.rows.Rows.put_to.Goals as goal

pub put-requires : goal.put-requires
put-requires c = sound_at c.self.inside.rows c.args.index _ (omega arith) c.self.invariant.1

pub invariant_of-self : goal.invariant_of-self
invariant_of-self c = rows_kept c.self.inside.rows c.args.index c.put.new.self c.self.invariant c.put.ensures.sound

pub returns-then-index-lt16-clause-after : goal.returns-then-index-lt16-clause-after
returns-then-index-lt16-clause-after c =
    let step = λ (u : UnitRecord). (turned c.args.negotiable (put_of c.args.put) u).after in
    row_altered step c.self.inside.rows c.args.self.now c.args.index c.self.view_is _ c.put.new.self new_unit (omega arith) (ap (λ (t : Turn). t.after) c.put.ensures.turn)

pub returns-else-index-lt16-clause-after : goal.returns-else-index-lt16-clause-after
returns-else-index-lt16-clause-after c =
    let step = λ (u : UnitRecord). (turned c.args.negotiable (put_of c.args.put) u).after in
    no_row_altered step c.self.inside.rows c.args.self.now c.args.index c.self.view_is (omega arith)
