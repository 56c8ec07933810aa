use Rattle.std.proofs.Common.{◌≡◌, ◌<◌, length, get_or, Some, sym, ap, ◌∙◌, rules}
use Rattle.model.specs.Control.{answered, blocks_of, find_unit, tell_lock_data, unit_at}
use Rattle.model.specs.LockData.{lock_data}
use Rattle.model.specs.Units.{UnitRecord, new_unit}
use Rattle.model.specs.declared.layout.Place.{Place}
use Rattle.stick.specs.Meaning.{stick_of}
use Rattle.stick.proofs.Alters.{own_unit}
use Rattle.stick.proofs.stick.Running.tell_lock_data.Goals as goal

pub returns-clause-outcome : goal.returns-clause-outcome
returns-clause-outcome g c =
    let self = c.args.self.now in
    let s = stick_of g.M.Medium.meaning self in
    let i = c.args.address.interface in
    let k = c.args.address.unit in
    let n = c.args.stage.length in
    let room = length c.args.stage.data.now in
    let v = c.in_ok-index.index in
    let found : Some v ≡ find_unit self.layout i k = sym c.in_ok-index.ensures.ok_part ∙ c.find_unit.ensures.value in
    let low : v < length self.layout.places = search rules in
    let unit : get_or self.units v new_unit ≡ unit_at v s = own_unit self.layout self.units v low in
    c.cut.ensures.outcome s
    ∙ ap (λ w. answered n room w s) (c.as_slice.ensures.bytes ∙ c.lock_data-whole.ensures)
    ∙ ap (λ (p : Place). answered n room (lock_data p.count i k (get_or self.units v new_unit)) s) c.place-blocks.ensures
    ∙ ap (λ (u : UnitRecord). answered n room (lock_data (blocks_of self.layout v) i k u) s) unit
    ∙ ap (λ o. tell_lock_data self.layout o i k n room s) found
