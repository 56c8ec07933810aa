use Rattle.std.proofs.Common.{arith}
use Rattle.std.proofs.lemmas.Grind.{common_steps}
use Rattle.layout.proofs.Sums.{sum_within}
use Rattle.layout.proofs.table.Layout.unit_range.Goals as goal

pub overflow_add-result : goal.overflow_add-result
overflow_add-result c = let w = sum_within c.args.self.now.counts c.args.interface in grind (arith, common_steps, w)

pub returns-clause-bound : goal.returns-clause-bound
returns-clause-bound c = let w = sum_within c.args.self.now.counts c.args.interface in grind (arith, common_steps, w)

pub returns-clause-few : goal.returns-clause-few
returns-clause-few c = let w = sum_within c.args.self.now.counts c.args.interface in grind (arith, common_steps, w)

pub returns-clause-value : goal.returns-clause-value
returns-clause-value c = grind (arith, common_steps)
