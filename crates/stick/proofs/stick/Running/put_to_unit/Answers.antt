use Rattle.std.proofs.Common.{◌≡◌, ◌<◌, Bool, ltb, [], length, get_or, Ok, Err, Result, Some, sym, refl, ap, ◌∙◌, rules}
use Rattle.std.proofs.lemmas.Bool.{cond-true, lt-ltb}
use Rattle.parts.specs.Carries.{put_of}
use Rattle.model.specs.Control.{outcome, put_to_unit, find_unit, interface_at, sized, unit_at, alter, with_units}
use Rattle.model.specs.Identities.{is_negotiable}
use Rattle.model.specs.Puts.{UnitPut, turned}
use Rattle.model.specs.Refusals.{number_of}
use Rattle.model.specs.Sticks.{Stick}
use Rattle.model.specs.Units.{UnitRecord, new_unit}
use Rattle.model.specs.declared.refusal.Refusal.{Refusal}
use Rattle.stick.specs.Meaning.{stick_of, units_in}
use Rattle.stick.specs.Outcomes.{done_of}
use Rattle.stick.proofs.Alters.{take_alter, own_unit}
use Rattle.stick.proofs.stick.Running.put_to_unit.Goals as goal

done_is : (r : Result (Unit {0}) Refusal) (s : Stick) → done_of r s ≡ outcome (number_of r) [] s
done_is (Ok u) s = refl
done_is (Err e) s = refl

pub returns-clause-outcome : goal.returns-clause-outcome
returns-clause-outcome g c =
    let self = c.args.self.now in
    let lay = self.layout in
    let s = stick_of g.M.Medium.meaning self in
    let i = c.args.address.interface in
    let v = c.in_ok-index.index in
    let found : Some v ≡ find_unit lay i c.args.address.unit = sym c.in_ok-index.ensures.ok_part ∙ c.find_unit.ensures.value in
    let low : v < length lay.places = search rules in
    let few : v < 16 = search rules in
    let n = is_negotiable (interface_at i s).ids in
    let q = sized c.args.put c.args.stage.length c.args.stage.data.now in
    let ids : c.is_negotiable-negotiable.result ≡ n = c.is_negotiable-negotiable.ensures ∙ ap is_negotiable c.ids.ensures in
    let unit : get_or self.units v new_unit ≡ unit_at v s = own_unit lay self.units v low in
    let code : number_of c.put_to.result ≡ (turned n q (unit_at v s)).code =
    c.put_to.ensures.code
    ∙ cond-true (ltb v 16) _ _ (lt-ltb v 16 few)
    ∙ ap (λ (u : UnitRecord). (turned c.is_negotiable-negotiable.result (put_of c.unit_put.result) u).code) unit
    ∙ ap (λ (b : Bool). (turned b (put_of c.unit_put.result) (unit_at v s)).code) ids
    ∙ ap (λ (x : UnitPut). (turned n x (unit_at v s)).code) c.unit_put.ensures in
    let after : units_in lay c.put_to.new.self ≡ alter v (λ u. (turned n q u).after) s.units =
    ap (units_in lay) c.put_to.ensures.after
    ∙ ap (λ (b : Bool). units_in lay (alter v (λ u. (turned b (put_of c.unit_put.result) u).after) self.units)) ids
    ∙ ap (λ (x : UnitPut). units_in lay (alter v (λ u. (turned n x u).after) self.units)) c.unit_put.ensures
    ∙ take_alter (λ u. (turned n q u).after) (length lay.places) v self.units in
    done_is c.put_to.result (with_units (units_in lay c.put_to.new.self) s)
    ∙ ap (λ k. outcome k [] (with_units (units_in lay c.put_to.new.self) s)) code
    ∙ ap (λ us. outcome (turned n q (unit_at v s)).code [] (with_units us s)) after
    ∙ ap (λ o. put_to_unit o n q s) found
