use Rattle.lines.proofs.Sayings.{events_back}
use Rattle.lines.proofs.law.events_read_back.Goals as goal

pub returns : goal.returns
returns c = events_back
