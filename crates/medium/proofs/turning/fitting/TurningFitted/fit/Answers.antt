use Rattle.std.proofs.Common.{get_or, ◌∙◌, arith}
use Rattle.medium.proofs.Mapped.{mapped_same}
use Rattle.medium.proofs.turning.fitting.TurningFitted.fit.Goals as goal

pub returns-clause-meaning : goal.returns-clause-meaning
returns-clause-meaning c =
    let s = c.fit-store.result in
    let few = s.few in
    mapped_same s.memory.items s.runs.items (λ b. get_or c.identity.result b 0) (λ b. b) s.count (λ b h. c.identity.ensures.places b (omega arith))
    ∙ c.fit-store.ensures.blocks
