use Rattle.stick.proofs.Ups.{all_up}
use Rattle.stick.proofs.stick.Unpowered.power_up.Goals as goal

pub returns-clause-stick : goal.returns-clause-stick
returns-clause-stick g c =
    all_up c.args.self.layout c.args.self.units c.power_up.new.self c.interfaces_up-interfaces.result (g.M.Medium.meaning c.args.self.medium)
    c.power_up.ensures c.interfaces_up-interfaces.ensures.list
