use Rattle.laws.proofs.CbwJudgements.{cbw_agrees}
use Rattle.laws.proofs.bulk.cbw_judgement_agrees.Goals as goal

pub returns : goal.returns
returns c = cbw_agrees
