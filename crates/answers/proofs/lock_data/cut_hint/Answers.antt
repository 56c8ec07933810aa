use Rattle.std.proofs.Common.{rules}
use Rattle.answers.proofs.Fronts.{cut_front}
use Rattle.answers.proofs.lock_data.cut_hint.Goals as goal

pub returns-clause-value : goal.returns-clause-value
returns-clause-value c = cut_front 100 c.min.result c.args.hint.now (search rules)
