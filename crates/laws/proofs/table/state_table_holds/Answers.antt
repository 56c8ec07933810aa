use Rattle.laws.proofs.States.{table}
use Rattle.laws.proofs.table.state_table_holds.Goals as goal

pub returns : goal.returns
returns c = table
