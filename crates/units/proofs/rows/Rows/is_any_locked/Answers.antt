use Rattle.std.proofs.Common.{rules, tests}
use Rattle.model.specs.Units.{is_locked}
use Rattle.units.proofs.rows.Rows.is_any_locked.Goals as goal

pub returns : goal.returns
returns c = c.is_any.ensures is_locked (λ r b k. search (rules, tests))
