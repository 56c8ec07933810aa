use Rattle.laws.proofs.Echoes.{tag_echoed}
use Rattle.laws.proofs.bulk.tag_echoed.Goals as goal

pub returns : goal.returns
returns c = tag_echoed
