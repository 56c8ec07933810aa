use Rattle.laws.proofs.ReadBack.{written_is_read}
use Rattle.laws.proofs.bulk.written_is_read.Goals as goal

pub returns : goal.returns
returns c = written_is_read
