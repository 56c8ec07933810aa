use Rattle.std.proofs.Common.{◌≡◌, false, map, length, ap, ◌∙◌}
use Rattle.std.proofs.lemmas.List.{take-map}
use Rattle.model.specs.Control.{alter, unjammed}
use Rattle.model.specs.Presence.{presented}
use Rattle.model.specs.Sticks.{interface}
use Rattle.stick.specs.Meaning.{units_in}
use Rattle.stick.proofs.stick.Running.present.Goals as goal

pub returns-clause-stick : goal.returns-clause-stick
returns-clause-stick g c =
    let self = c.args.self.now in
    let lay = self.layout in
    let units : units_in lay c.present.new.self ≡ map presented (units_in lay self.units) =
    ap (units_in lay) c.present.ensures ∙ take-map presented (length lay.places) self.units in
    let shown : c.present-2.new.self ≡ alter c.args.interface (λ x. interface c.args.target false) (map unjammed self.interfaces) =
    c.present-2.ensures.list ∙ ap (alter c.args.interface (λ x. interface c.args.target false)) c.unjam.ensures.list in
    cc
