use Rattle.laws.proofs.Kept.{failed_before_data}
use Rattle.laws.proofs.bulk.failed_before_data.Goals as goal

pub returns : goal.returns
returns c = failed_before_data
