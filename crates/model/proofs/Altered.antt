-- One element of a list changed by its place: as `set` where the list has the place, and nothing past it.
use Rattle.std.proofs.Common.{◌≡◌, ℕ, zero, suc, ◌<◌, ◌≤◌, List, [], ◌∷◌, length, get_or, set, refl, ap, arith}
use Rattle.model.specs.Control.{alter}

module _ {A : Type 0} (f : A → A) where
  pub alter_set : (k : ℕ) (xs : List A) (d : A) → k < length xs → alter k f xs ≡ set xs k (f (get_or xs k d))
  alter_set k [] d h = refl
  alter_set zero (x ∷ xs) d h = refl
  alter_set (suc k) (x ∷ xs) d h = ap (λ ys. x ∷ ys) (alter_set k xs d (omega arith))

  pub alter_past : (k : ℕ) (xs : List A) → length xs ≤ k → alter k f xs ≡ xs
  alter_past k [] h = refl
  alter_past zero (x ∷ xs) h = absurd (omega arith)
  alter_past (suc k) (x ∷ xs) h = ap (λ ys. x ∷ ys) (alter_past k xs (omega arith))
