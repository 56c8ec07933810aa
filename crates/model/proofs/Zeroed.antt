-- No block zeroed.
use Rattle.std.proofs.Common.{◌≡◌, ℕ, zero, suc, List, [], ◌∷◌, refl, ap}
use Rattle.model.specs.Blocks.{Block}
use Rattle.model.specs.Recovery.{zeroed}

pub zeroed_none : (s : ℕ) (m : List Block) → zeroed s 0 m ≡ m
zeroed_none s [] = refl
zeroed_none zero (b ∷ m) = refl
zeroed_none (suc s) (b ∷ m) = ap (λ x. b ∷ x) (zeroed_none s m)
