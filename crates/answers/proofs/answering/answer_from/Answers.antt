use Rattle.std.proofs.Common.{◌≡◌, take, ◌∙◌, rules}
use Rattle.answers.proofs.Fronts.{cut_twice}
use Rattle.answers.proofs.answering.answer_from.Goals as goal

pub returns-clause-value : goal.returns-clause-value
returns-clause-value c =
    let front : c.add.new.self ≡ take c.min-len.result c.args.bytes.now = search rules in
    front ∙ cut_twice c.min-len.result 119 c.args.wanted c.args.bytes.now (search rules)
