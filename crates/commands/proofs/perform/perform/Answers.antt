use Rattle.std.proofs.Common.{sym}
use Rattle.commands.proofs.Failing.{fails_first}
use Rattle.commands.proofs.perform.perform.Goals as goal

pub returns-in-Some-clause-carried : goal.returns-in-Some-clause-carried
returns-in-Some-clause-carried g c =
    let m = g.M.Medium.meaning c.args.medium.now in
    let ds = c.args.buffer.now in
    fails_first c.args.target c.args.cbw ds m c.in-Some.sense _ c.if-buffer-cbw.false (sym c.in-Some.ensures) (c.fail.ensures.ending ds m)
