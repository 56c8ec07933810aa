use Rattle.std.proofs.Common.{◌≡◌, ◌++◌, take}
use Rattle.model.specs.Descriptors.{configuration, interface_pieces}
use Rattle.interfaces.proofs.table.Interfaces.bundle.Given as goal

abbrev pub invariant-loop-i : goal.invariant-loop-i
invariant-loop-i l = l.bytes ≡ configuration l.total l.count ++ interface_pieces 0 (take l.i l.interface-items)
