use Rattle.laws.proofs.Kept.{phase_error_keeps}
use Rattle.laws.proofs.bulk.phase_error_keeps.Goals as goal

pub returns : goal.returns
returns c = phase_error_keeps
