use Rattle.std.proofs.Common.{◌≡◌, ◌-◌, length, get_or, take, ap, ◌∙◌}
use Rattle.commands.specs.Endings.{carried_out}
use Rattle.commands.specs.declared.ended.Target.{Target}
use Rattle.model.specs.Bulk.{bulk_with, place_at, with_sense}
use Rattle.model.specs.Commands.{barrier}
use Rattle.model.specs.Control.{alter, unit_at}
use Rattle.model.specs.Sticks.{stick}
use Rattle.model.specs.Wrappers.{csw}
use Rattle.model.specs.Units.{UnitRecord, new_unit}
use Rattle.stick.specs.Meaning.{stick_of, units_in}
use Rattle.stick.proofs.Alters.{take_alter, own_unit}
use Rattle.stick.proofs.Completing.{target, unit_target, out, out_is}
use Rattle.stick.proofs.stick.Running.command.Goals as goal

pub returns-clause-bulk : goal.returns-clause-bulk
returns-clause-bulk g c =
    let self = c.args.self.now in
    let lay = self.layout in
    let s = stick_of g.M.Medium.meaning self in
    let v = c.args.index in
    let w = c.args.cbw in
    let ds = c.args.buffer.now in
    let ended = c.in_ok-ended.ended in
    let buf = c.perform.new.buffer in
    let after = g.M.Medium.meaning c.perform.new.medium in
    let unit : get_or self.units v new_unit ≡ unit_at v s = own_unit lay self.units v c.requires in
    let to : target c.place.result c.barrier.result c.sense.result ≡ unit_target lay v s =
    ap (λ p. target p c.barrier.result c.sense.result) c.place.ensures
    ∙ ap (λ x. target (place_at lay v) x c.sense.result) (c.barrier.ensures ∙ ap (λ (u : UnitRecord). barrier u.standing) unit)
    ∙ ap (target (place_at lay v) (barrier (unit_at v s).standing)) (c.sense.ensures ∙ ap (λ (u : UnitRecord). u.sense) unit) in
    let wrapper : c.csw.result ≡ csw w.tag (w.total - ended.moved) ended.status = c.csw.ensures ∙ ap (λ n. csw w.tag n ended.status) c.saturating_sub-residue.ensures in
    let units : units_in lay c.set_sense.new.self ≡ alter v (with_sense ended.sense) s.units =
    ap (units_in lay) c.set_sense.ensures ∙ take_alter (with_sense ended.sense) (length lay.places) v self.units in
    ap (λ x. bulk_with 0 x (take ended.answered buf) buf (stick (units_in lay c.set_sense.new.self) s.interfaces s.phase after)) wrapper
    ∙ ap (λ us. bulk_with 0 (csw w.tag (w.total - ended.moved) ended.status) (take ended.answered buf) buf (stick us s.interfaces s.phase after)) units
    ∙ ap (out v w s) (c.in_ok-ended.ensures.carried ∙ ap (λ (t : Target). carried_out t w ds s.blocks) to)
    ∙ out_is v w s lay ds
