use Rattle.std.proofs.Common.{◌≡◌, length, replicate, ap, ◌∙◌}
use Rattle.std.proofs.lemmas.List.{take-replicate}
use Rattle.layout.proofs.Fitted.{fitted_total, fitted_few}
use Rattle.model.specs.Layouts.{Layout, fitted_layout}
use Rattle.model.specs.Units.{new_unit}
use Rattle.stick.specs.Meaning.{units_in}
use Rattle.stick.proofs.stick.Unpowered.fit.Goals as goal

pub returns-clause-units : goal.returns-clause-units
returns-clause-units g c =
    let bytes = c.args.layout_bytes.now in
    let end = length (g.M.Medium.meaning c.args.medium) in
    let lay = fitted_layout bytes end in
    let fitted : c.fit-layout.result ≡ lay = c.fit-layout.ensures.layout ∙ ap (fitted_layout bytes) c.blocks-end.ensures in
    ap (λ (l : Layout). units_in l c.new.result) fitted
    ∙ ap (units_in lay) c.new.ensures
    ∙ take-replicate (length lay.places) 16 new_unit (fitted_few bytes end)
    ∙ ap (λ n. replicate n new_unit) (fitted_total bytes end)
