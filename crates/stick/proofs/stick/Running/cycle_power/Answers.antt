use Rattle.stick.proofs.Ups.{all_up}
use Rattle.stick.proofs.stick.Running.cycle_power.Goals as goal

pub returns-clause-stick : goal.returns-clause-stick
returns-clause-stick g c =
    all_up c.args.self.now.layout c.args.self.now.units c.power_up.new.self c.interfaces_up-self.result (g.M.Medium.meaning c.args.self.now.medium)
    c.power_up.ensures c.interfaces_up-self.ensures.list
