use Rattle.std.proofs.Common.{sym}
use Rattle.model.proofs.Mapped.{length_mapped}
use Rattle.medium.proofs.straight.calls.StraightMedium.blocks.Goals as goal

pub returns : goal.returns
returns c = let s = c.args.self.now.store in sym (length_mapped s.memory.items s.runs.items (λ b. b) s.count)
