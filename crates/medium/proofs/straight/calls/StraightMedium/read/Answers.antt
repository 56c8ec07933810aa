use Rattle.std.proofs.Common.{◌∙◌}
use Rattle.medium.proofs.Mapped.{read_mapped}
use Rattle.medium.proofs.straight.calls.StraightMedium.read.Goals as goal

pub returns-clause-buffer : goal.returns-clause-buffer
returns-clause-buffer c =
    let s = c.args.self.now.store in
    c.copy_from_slice.ensures.after ∙ c.page.ensures.bytes
    ∙ read_mapped s.memory.items s.runs.items (λ b. b) s.count c.args.block c.args.buffer.now (c.in_ok-admit.ensures.answer s.memory.items (λ b. b))
