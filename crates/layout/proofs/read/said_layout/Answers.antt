use Rattle.std.proofs.Common.{arith}
use Rattle.std.proofs.lemmas.Grind.{common_steps}
use Rattle.layout.proofs.read.said_layout.Goals as goal

pub returns-then-not-are_served : goal.returns-then-not-are_served
returns-then-not-are_served c = grind (arith, common_steps)

pub returns-then-product_base-ne0 : goal.returns-then-product_base-ne0
returns-then-product_base-ne0 c = grind (arith, common_steps)

pub returns : goal.returns
returns c = grind (arith, common_steps)
