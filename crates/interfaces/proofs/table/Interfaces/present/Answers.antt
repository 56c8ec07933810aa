use Rattle.std.proofs.Common.{false, rules, tests}
use Rattle.model.specs.Sticks.{interface}
use Rattle.interfaces.proofs.table.Interfaces.present.Goals as goal

pub returns-clause-list : goal.returns-clause-list
returns-clause-list c = c.alter.ensures.list (λ x. interface c.args.target false) (λ x y k. search (rules, tests))
