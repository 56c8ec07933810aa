use Rattle.std.proofs.Common.{◌≡◌, map, take, ap, ◌∙◌, arith}
use Rattle.std.proofs.lemmas.Grind.{common_steps}
use Rattle.std.proofs.lemmas.List.{map_more, length-map, length-take}
use Rattle.model.specs.Control.{unjammed}
use Rattle.interfaces.proofs.table.Interfaces.unjam.Goals as goal

pub loop-interface-preserved : goal.loop-interface-preserved
loop-interface-preserved c = grind (arith, length-map, length-take, map_more)

pub returns-clause-count : goal.returns-clause-count
returns-clause-count c = grind (arith, common_steps)

pub returns-clause-list : goal.returns-clause-list
returns-clause-list c =
    let all : take c.loop-interface.interface-index c.deref-interface-items.result.now ≡ c.args.self.now = grind (arith, common_steps) in
    c.loop-interface.invariant ∙ ap (map unjammed) all
