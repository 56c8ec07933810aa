use Rattle.std.proofs.Common.{◌∙◌}
use Rattle.parts.proofs.Filled.{change_filled}
use Rattle.parts.proofs.reading.change_in.Goals as goal

pub returns-clause-value : goal.returns-clause-value
returns-clause-value c =
    c.change_of.ensures.value
    ∙ change_filled c.args.data.now c.part_bytes.result.now c.part_bytes-2.result.now c.part_bytes-3.result.now _
    c.in_ok-candidate.ensures.value c.part_bytes.ensures c.part_bytes-2.ensures c.part_bytes-3.ensures
