-- One element of a table read or changed, seen in its first elements.
use Rattle.std.proofs.Common.{◌≡◌, ℕ, zero, suc, ◌<◌, List, [], ◌∷◌, length, get_or, take, sym, refl, ap}
use Rattle.std.proofs.lemmas.List.{get_or-take}
use Rattle.model.specs.Control.{alter}
use Rattle.model.specs.Layouts.{Layout}
use Rattle.model.specs.Units.{UnitRecord, new_unit}
use Rattle.stick.specs.Meaning.{units_in}

module _ {A : Type 0} (f : A → A) where
  pub take_alter : (n v : ℕ) (xs : List A) → take n (alter v f xs) ≡ alter v f (take n xs)
  take_alter zero v [] = refl
  take_alter zero v (x ∷ xs) = refl
  take_alter (suc n) v [] = refl
  take_alter (suc n) zero (x ∷ xs) = refl
  take_alter (suc n) (suc v) (x ∷ xs) = ap (λ ys. x ∷ ys) (take_alter n v xs)

-- only what is made of the element itself matters
pub alter_at : {A : Type 0} (f h : A → A) (v : ℕ) (xs : List A) (d : A) → f (get_or xs v d) ≡ h (get_or xs v d) → alter v f xs ≡ alter v h xs
alter_at f h v [] d e = refl
alter_at f h zero (x ∷ xs) d e = ap (λ y. y ∷ xs) e
alter_at f h (suc v) (x ∷ xs) d e = ap (λ ys. x ∷ ys) (alter_at f h v xs d e)

-- the record of a unit that the layout has, by the table's and by the stick's
pub own_unit : (lay : Layout) (us : List UnitRecord) (v : ℕ) → v < length lay.places → get_or us v new_unit ≡ get_or (units_in lay us) v new_unit
own_unit lay us v h = sym (get_or-take (length lay.places) us v new_unit h)
