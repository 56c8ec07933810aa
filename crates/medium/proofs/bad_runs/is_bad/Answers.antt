use Rattle.model.specs.Blocks.{run_start, run_count}
use Rattle.medium.proofs.Searches.{found_some}
use Rattle.medium.proofs.bad_runs.is_bad.Goals as goal

pub returns : goal.returns
returns c = let e = found_some run_start run_count 0 c.args.block c.args.runs.now in cc
