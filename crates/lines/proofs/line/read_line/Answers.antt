use Rattle.std.proofs.Common.{arith}
use Rattle.fields.specs.Words.{words}
use Rattle.lines.proofs.Letters.{not_blank}
use Rattle.lines.proofs.line.read_line.Goals as goal

pub returns-in_err-read_event-in-len1-clause-blank :
    goal.returns-in_err-read_event-in-len1-clause-blank
returns-in_err-read_event-in-len1-clause-blank c = λ said.
    absurd (not_blank c.args.line.now c.in-Some.word.now (words c.in-Some.fields.now) c.in-Some.ensures (omega arith) said)
