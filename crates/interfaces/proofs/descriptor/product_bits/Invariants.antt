use Rattle.interfaces.proofs.Bits.{Summed}
use Rattle.interfaces.proofs.descriptor.product_bits.Given as goal

abbrev pub invariant-loop-interface : goal.invariant-loop-interface
invariant-loop-interface l = Summed l.interfaces l.interface-index l.bits l.weight
