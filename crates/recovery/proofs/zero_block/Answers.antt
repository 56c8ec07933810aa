use Rattle.std.proofs.Common.{refl}
use Rattle.recovery.proofs.zero_block.Goals as goal

pub returns-in-Some : goal.returns-in-Some
returns-in-Some g c = rw (c.write.ensures.after, c.in-Some.ensures.1) refl
