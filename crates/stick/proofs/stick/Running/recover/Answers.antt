use Rattle.std.proofs.Common.{◌≡◌, ℕ, ◌+◌, ◌-◌, ◌*◌, min, leb, List, length, get_or, refl, ap, ◌∙◌}
use Rattle.model.specs.Blocks.{Block}
use Rattle.model.specs.Bulk.{place_at}
use Rattle.model.specs.Control.{alter, unit_at}
use Rattle.model.specs.Recovery.{advanced, steps_done_of, zeroed}
use Rattle.model.specs.Sticks.{stick}
use Rattle.model.specs.Units.{UnitRecord, new_unit}
use Rattle.model.specs.declared.layout.Place.{Place}
use Rattle.stick.specs.Meaning.{stick_of, units_in}
use Rattle.stick.proofs.Alters.{take_alter, alter_at, own_unit}
use Rattle.stick.proofs.stick.Running.recover.Goals as goal

pub returns-clause-stick : goal.returns-clause-stick
returns-clause-stick g c =
    let self = c.args.self.now in
    let lay = self.layout in
    let v = c.args.index in
    let s = stick_of g.M.Medium.meaning self in
    let p = c.place-place.result in
    let q = place_at lay v in
    let here : p ≡ q = c.place-place.ensures in
    let d = steps_done_of (unit_at v s).standing in
    let unit : get_or self.units v new_unit ≡ unit_at v s = own_unit lay self.units v c.requires in
    let done : c.steps_done-done.result ≡ d = c.steps_done-done.ensures ∙ ap (λ (u : UnitRecord). steps_done_of u.standing) unit in
    let each : ℕ → ℕ → UnitRecord → UnitRecord = λ n k u. advanced (leb n (16 * (k + 1))) u.standing u in
    let units : units_in lay c.advance.new.self ≡ alter v (each q.count d) s.units =
    ap (units_in lay) c.advance.ensures
    ∙ take_alter (λ u. each p.count (steps_done_of u.standing) u) (length lay.places) v self.units
    ∙ alter_at (λ u. each p.count (steps_done_of u.standing) u) (each p.count d) v s.units new_unit refl
    ∙ ap (λ (x : Place). alter v (each x.count d) s.units) here in
    let blocks : g.M.Medium.meaning c.zero_step.new.medium ≡ zeroed (q.start + 16 * d) (min 16 (q.count - 16 * d)) s.blocks =
    c.zero_step.ensures
    ∙ ap (λ k. zeroed (p.start + 16 * k) (min 16 (p.count - 16 * k)) s.blocks) done
    ∙ ap (λ (x : Place). zeroed (x.start + 16 * d) (min 16 (x.count - 16 * d)) s.blocks) here in
    ap (λ (us : List UnitRecord). stick us s.interfaces s.phase (g.M.Medium.meaning c.zero_step.new.medium)) units
    ∙ ap (λ (x : List Block). stick (alter v (each q.count d) s.units) s.interfaces s.phase x) blocks
