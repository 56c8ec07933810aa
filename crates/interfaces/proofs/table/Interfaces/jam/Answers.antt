use Rattle.std.proofs.Common.{rules, tests}
use Rattle.model.specs.Bulk.{jammed}
use Rattle.interfaces.proofs.table.Interfaces.jam.Goals as goal

pub returns-clause-list : goal.returns-clause-list
returns-clause-list c = c.alter.ensures.list jammed (λ x y k. search (rules, tests))
