use Rattle.std.proofs.Common.{arith}
use Rattle.interfaces.proofs.Bits.{small_weight}
use Rattle.interfaces.proofs.descriptor.product_bits.Goals as goal

pub returns-clause-bound : goal.returns-clause-bound
returns-clause-bound c =
    let low = small_weight c.args.interfaces.now c.loop-interface.interface-index c.loop-interface.bits c.loop-interface.weight (omega arith) c.loop-interface.invariant in
    omega (arith, c.loop-interface.invariant)
