-- The bits of Negotiable interfaces, summed up along the list.
use Rattle.std.proofs.Common.{◌≡◌, ℕ, ◌+◌, ◌^◌, ◌<◌, ◌≤◌, List, drop, arith, pow_mono}
use Rattle.model.specs.Descriptors.{product_bits}
use Rattle.model.specs.declared.ids.Interface.{Interface}

-- so far: the sum, the next weight, and how far it reaches
pub record Summed (xs : List Interface) (i bits weight : ℕ) : Type 0 where
  pub whole : bits + product_bits i (drop i xs) ≡ product_bits 0 xs
  pub power : weight ≡ 2 ^ i
  pub low : bits < weight

-- the weight of one of the first four fits well
pub small_weight : (xs : List Interface) (i bits weight : ℕ) → i ≤ 4 → Summed xs i bits weight → weight ≤ 16
small_weight xs i bits weight h s = let p : 2 ^ i ≤ 2 ^ 4 = pow_mono h in omega (arith, s.power)
