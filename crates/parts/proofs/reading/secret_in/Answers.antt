use Rattle.std.proofs.Common.{◌∙◌}
use Rattle.parts.proofs.Filled.{secret_filled}
use Rattle.parts.proofs.reading.secret_in.Goals as goal

pub returns-clause-value : goal.returns-clause-value
returns-clause-value c =
    c.secret_of.ensures.value
    ∙ secret_filled c.args.data.now c.part_bytes.result.now c.part_bytes-2.result.now _ c.in_ok-phrase.ensures.value
    c.part_bytes.ensures c.part_bytes-2.ensures
