-- Where more elements are put behind a list, as far as there is room.
use Rattle.std.proofs.Common.{◌≡◌, ℕ, ◌-◌, ◌≤◌, min, List, ◌++◌, length, take, arith}
use Rattle.std.proofs.lemmas.List.{same_lists, places}

-- behind xs, n takes as much of ys as it leaves room for
pub take_fitting : {X : Type 0} (n k : ℕ) (xs ys : List X) → k ≡ min (length ys) (n - length xs) → length xs ≤ n
    → xs ++ take k ys ≡ take n (xs ++ ys)
take_fitting n k xs ys e le = same_lists _ _ (grind (arith, places)) (λ j d h. grind (arith, places))
