use Rattle.std.proofs.Common.{rules}
use Rattle.medium.proofs.Mapped.{call_outside, call_bad, call_good}
use Rattle.medium.proofs.admission.admit.Goals as goal

pub returns-then-block-count : goal.returns-then-block-count
returns-then-block-count c =
    record { within = tt; answer = λ mem at. call_outside mem c.args.runs.now at c.args.count c.args.block c.args.length c.then-block-count.either }

pub returns-then-is_bad : goal.returns-then-is_bad
returns-then-is_bad c =
    record { within = tt; answer = λ mem at. call_bad mem c.args.runs.now at c.args.count c.args.block c.args.length (search rules) (search rules) (search rules) }

pub returns : goal.returns
returns c =
    record {
      within = search rules;
      answer = λ mem at. call_good mem c.args.runs.now at c.args.count c.args.block c.args.length (search rules) (search rules) (search rules);
    }
