use Rattle.fields.proofs.Backs.{hex_back}
use Rattle.fields.proofs.law.hex_reads_back.Goals as goal

pub returns : goal.returns
returns c = hex_back
