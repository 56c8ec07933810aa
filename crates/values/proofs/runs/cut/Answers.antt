use Rattle.values.proofs.Pieces.{uncut, parts}
use Rattle.values.proofs.runs.cut.Goals as goal

pub returns-in_err-at : goal.returns-in_err-at
returns-in_err-at c = rw c.from_residual.ensures (uncut c.args.mark c.args.text.now c.in_err-at.ensures.value)

pub returns : goal.returns
returns c = parts c.args.mark c.args.text.now c.in_ok-at.at c.in_ok-at.ensures.value
