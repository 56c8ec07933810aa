use Rattle.std.proofs.Common.{length, ap, ◌∙◌}
use Rattle.model.proofs.Powering.{first_power_up}
use Rattle.model.specs.Layouts.{fitted_layout}
use Rattle.model.specs.Sticks.{powered_up, fitted_units}
use Rattle.stick.specs.Meaning.{units_in}
use Rattle.stick.proofs.stick.power.start.Goals as goal

pub returns-clause-stick : goal.returns-clause-stick
returns-clause-stick g c =
    let m = g.M.Medium.meaning c.args.medium in
    let lay = fitted_layout c.args.layout_bytes.now (length m) in
    let cold = c.fit.result in
    c.power_up.ensures.stick
    ∙ ap (λ l. powered_up l (units_in cold.layout cold.units) (g.M.Medium.meaning cold.medium)) c.fit.ensures.layout
    ∙ ap (λ us. powered_up lay us (g.M.Medium.meaning cold.medium)) c.fit.ensures.units
    ∙ ap (powered_up lay (fitted_units lay)) c.fit.ensures.medium
    ∙ first_power_up lay m
