use Rattle.std.proofs.Common.{rules}
use Rattle.model.specs.Presence.{presented}
use Rattle.units.proofs.Loops.{far_more}
use Rattle.units.proofs.rows.Rows.present.Goals as goal

pub loop-shown-preserved : goal.loop-shown-preserved
loop-shown-preserved c =
    far_more presented c.self.inside.rows c.loop-shown.shown-items c.loop-shown.shown-index _ c.present.new.self
    (search rules) c.present.ensures.record c.present.ensures.sound c.loop-shown.invariant
