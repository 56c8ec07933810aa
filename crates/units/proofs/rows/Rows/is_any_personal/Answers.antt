use Rattle.std.proofs.Common.{rules, tests}
use Rattle.model.specs.Units.{holds_phrase}
use Rattle.units.proofs.rows.Rows.is_any_personal.Goals as goal

pub returns : goal.returns
returns c = c.is_any.ensures holds_phrase (λ r b k. search (rules, tests))
