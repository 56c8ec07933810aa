use Rattle.std.proofs.Common.{get_or, sym}
use Rattle.model.proofs.Mapped.{length_mapped}
use Rattle.medium.proofs.turning.calls.TurningMedium.blocks.Goals as goal

pub returns : goal.returns
returns c = let m = c.args.self.now in let s = m.store in sym (length_mapped s.memory.items s.runs.items (λ b. get_or m.pages b 0) s.count)
