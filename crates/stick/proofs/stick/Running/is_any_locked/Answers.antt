use Rattle.std.proofs.Common.{refl, rules}
use Rattle.model.specs.Units.{any_locked}
use Rattle.stick.proofs.Ups.{by_range}
use Rattle.stick.proofs.stick.Running.is_any_locked.Goals as goal

pub returns : goal.returns
returns g c =
    let self = c.args.self.now in
    by_range any_locked refl self.layout self.units c.args.interface c.is_some_and.result c.unit_range.result c.unit_range.ensures.value c.unit_range.ensures.bound (search rules)
