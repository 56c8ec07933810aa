use Rattle.medium.proofs.Calls.{laws}
use Rattle.medium.proofs.laws.laws_hold.Goals as goal

pub returns : goal.returns
returns c = laws
