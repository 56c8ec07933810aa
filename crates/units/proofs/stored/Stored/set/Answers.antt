use Rattle.std.proofs.Common.{length, ap, rules}
use Rattle.units.proofs.Fronts.{stored_tidy}
use Rattle.units.proofs.stored.Stored.set.Goals as goal

pub returns-clause-tidy : goal.returns-clause-tidy
returns-clause-tidy g c =
    stored_tidy g.row.N (length c.args.bytes.now) c.copy_from_slice.new.self c.fill.new.self (ap length c.copy_from_slice.ensures.after) c.requires.room (search rules)
