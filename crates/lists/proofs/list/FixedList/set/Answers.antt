use Rattle.std.proofs.Common.{rules}
use Rattle.std.proofs.Math.Seq.{take-set-lt}
use Rattle.lists.proofs.list.FixedList.set.Goals as goal

pub returns-then-at-self : goal.returns-then-at-self
returns-then-at-self g c =
    let inside = c.self.inside in
    let within = take-set-lt inside.len inside.elements c.args.at c.args.element c.if-at-self.true in
    search (rules, within)
