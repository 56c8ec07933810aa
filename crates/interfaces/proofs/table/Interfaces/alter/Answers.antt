use Rattle.std.proofs.Common.{◌≡◌, refl, arith}
use Rattle.std.specs.Fn.{FnOnceReturnsAtMut}
use Rattle.std.proofs.lemmas.Grind.{common_steps}
use Rattle.model.proofs.Altered.{alter_set, alter_past}
use Rattle.interfaces.proofs.table.Interfaces.alter.Goals as goal

pub returns-in-Some-clause-list : goal.returns-in-Some-clause-list
returns-in-Some-clause-list g c f means =
    let there = c.in-Some.presented in
    let gave : FnOnceReturnsAtMut g.F.FnOnce c.args.change there tt c.change.new.arg2 = record { shown = _; shows = refl; left = _; met = c.change.ensures; leaves = refl } in
    let here : c.change.new.arg2 ≡ f there = means _ _ gave in
    let at = alter_set f c.args.interface c.args.self.now there in
    grind (arith, common_steps, at, here)

pub returns-in_default-clause-list : goal.returns-in_default-clause-list
returns-in_default-clause-list g c f means =
    let past = alter_past f c.args.interface c.args.self.now in
    grind (arith, common_steps, past)
