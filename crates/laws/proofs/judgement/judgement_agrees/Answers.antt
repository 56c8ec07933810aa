use Rattle.laws.proofs.Judgements.{agrees}
use Rattle.laws.proofs.judgement.judgement_agrees.Goals as goal

pub returns : goal.returns
returns c = agrees
