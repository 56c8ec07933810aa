use Rattle.std.proofs.Common.{◌≡◌, ◌+◌, ◌-◌, ◌*◌, min, sym, arith}
use Rattle.model.proofs.Zeroed.{zeroed_none}
use Rattle.recovery.proofs.zero_step.Goals as goal

pub returns-in_default : goal.returns-in_default
returns-in_default g c =
    let none : min 16 (c.args.place.count - 16 * c.args.steps_done) ≡ 0 = omega (arith, c.in_default.ensures) in
    rw none (sym (zeroed_none (c.args.place.start + 16 * c.args.steps_done) (g.M.Medium.meaning c.args.medium.now)))
