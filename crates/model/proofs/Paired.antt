-- As many places as pairs that were read.
use Rattle.std.proofs.Common.{◌≡◌, ℕ, zero, suc, List, length, drop, refl, ap}
use Rattle.model.specs.Layouts.{pairs}

pub length_pairs : (n : ℕ) (bs : List ℕ) → length (pairs n bs) ≡ n
length_pairs zero bs = refl
length_pairs (suc n) bs = ap suc (length_pairs n (drop 8 bs))
