use Rattle.privacy.proofs.Instances.{instances}
use Rattle.privacy.proofs.premises_met.Goals as goal

pub returns : goal.returns
returns c = instances
