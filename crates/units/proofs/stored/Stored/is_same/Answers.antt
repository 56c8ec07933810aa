use Rattle.std.proofs.Common.{rules}
use Rattle.units.proofs.Compared.{compared}
use Rattle.units.proofs.stored.Stored.is_same.Goals as goal

pub returns : goal.returns
returns g c =
    let s = c.args.self.now in
    compared s.bytes s.len c.args.candidate.now c.differences.result (search rules) (search rules) c.differences.ensures
