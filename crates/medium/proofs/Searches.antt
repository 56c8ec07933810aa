-- The search finds an element exactly where one holds the position.
use Rattle.std.proofs.Common.{◌≡◌, ℕ, ◌+◌, Bool, true, false, cond, ◌||◌, List, [], ◌∷◌, is_some, Some, Option, refl}
use Rattle.model.specs.Extents.{holds, any_holds, found}

found_here : (t u : Bool) (i : ℕ) (rest : Option ℕ) → is_some rest ≡ u → is_some (cond t (Some i) rest) ≡ (t || u)
found_here true u i rest e = refl
found_here false u i rest e = e

pub found_some : {E : Type 0} (start len : E → ℕ) (i pos : ℕ) (xs : List E) → is_some (found start len i pos xs) ≡ any_holds start len pos xs
found_some start len i pos [] = refl
found_some start len i pos (x ∷ xs) =
    found_here (holds start len pos x) (any_holds start len pos xs) i (found start len (i + 1) pos xs) (found_some start len (i + 1) pos xs)
