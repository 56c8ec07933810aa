use Rattle.std.proofs.Common.{rules, tests}
use Rattle.model.specs.Control.{unjammed}
use Rattle.interfaces.proofs.table.Interfaces.clear_jam.Goals as goal

pub returns-clause-list : goal.returns-clause-list
returns-clause-list c = c.alter.ensures.list unjammed (λ x y k. search (rules, tests))
