use Rattle.std.proofs.Common.{arith}
use Rattle.std.proofs.lemmas.Grind.{common_steps, pieces}
use Rattle.interfaces.proofs.table.Interfaces.bundle.Goals as goal

pub loop-i-preserved : goal.loop-i-preserved
loop-i-preserved c = search (pieces, arith) depth 5 fits 300

pub returns : goal.returns
returns c = grind (arith, common_steps)
