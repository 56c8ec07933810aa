use Rattle.std.proofs.Common.{◌≡◌, ℕ, get_or, ap, ◌∙◌, rules}
use Rattle.model.specs.Blocks.{page}
use Rattle.medium.proofs.Mapped.{read_mapped}
use Rattle.medium.proofs.turning.calls.TurningMedium.read.Goals as goal

pub returns-clause-buffer : goal.returns-clause-buffer
returns-clause-buffer c =
    let m = c.args.self.now in
    let s = m.store in
    let at : ℕ → ℕ = λ b. get_or m.pages b 0 in
    let e : c.from.result ≡ at c.args.block = search rules in
    c.copy_from_slice.ensures.after ∙ c.page.ensures.bytes ∙ ap (page s.memory.items) e
    ∙ read_mapped s.memory.items s.runs.items at s.count c.args.block c.args.buffer.now (c.in_ok-admit.ensures.answer s.memory.items at)
