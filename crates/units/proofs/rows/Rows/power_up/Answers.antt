use Rattle.std.proofs.Common.{◌≤◌, length, map, ap, ◌∙◌, rules, arith}
use Rattle.std.proofs.lemmas.List.{take_all}
use Rattle.model.specs.Units.{powered}
use Rattle.units.proofs.Loops.{far_more, table_changed, table_kept, none_behind}
use Rattle.units.proofs.rows.Rows.power_up.Goals as goal

pub loop-row-preserved : goal.loop-row-preserved
loop-row-preserved c =
    far_more powered _ _ _ _ c.power_up.new.self
    (search rules) c.power_up.ensures.record c.power_up.ensures.sound c.loop-row.invariant

-- The loop as it stands needs none of `few`, take_all and none_behind: they prove a loop over a slice that is the whole table, so that one over less is
-- refused for the rows that it leaves out.
pub returns : goal.returns
returns c =
    let few : length c.self.inside.rows ≤ 16 = omega arith in
    table_changed powered c.self.inside.rows _ _ _ _ c.loop-row.invariant (search (rules, take_all)) (search (rules, none_behind)) (search rules)
    ∙ ap (map powered) (search rules)

pub invariant_of-self : goal.invariant_of-self
invariant_of-self c =
    let few : length c.self.inside.rows ≤ 16 = omega arith in
    let kept = table_kept powered _ _ _ _ _ c.loop-row.invariant (search (rules, take_all)) (search (rules, none_behind)) in
    (kept.0 ∙ c.self.invariant.0, kept.1 ∙ c.self.invariant.1)
