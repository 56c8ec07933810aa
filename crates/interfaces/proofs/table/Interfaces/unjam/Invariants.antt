use Rattle.std.proofs.Common.{◌≡◌, map, take}
use Rattle.model.specs.Control.{unjammed}
use Rattle.interfaces.proofs.table.Interfaces.unjam.Given as goal

abbrev pub invariant-loop-interface : goal.invariant-loop-interface
invariant-loop-interface l = l.cleared ≡ map unjammed (take l.interface-index l.interface-items)
