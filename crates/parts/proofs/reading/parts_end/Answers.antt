use Rattle.std.proofs.Common.{arith, rules}
use Rattle.model.specs.Parts.{part}
use Rattle.parts.proofs.Ends.{last_end}
use Rattle.parts.proofs.reading.parts_end.Goals as goal

pub returns-in-len1-up : goal.returns-in-len1-up
returns-in-len1-up c = let e = last_end 0 c.args.parts.now (part 0 0) (search rules) in omega (arith, c.from.ensures, c.from-in-len1-up.ensures)
