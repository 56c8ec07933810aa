-- Fronts of lists, as many bytes as the least of some limits.
use Rattle.std.proofs.Common.{◌≡◌, ℕ, min, List, length, take, arith, rules}
use Rattle.std.proofs.lemmas.List.{same_lists, places}

-- what is cut to a limit is cut to the lesser of it and the length
pub cut_front : (m n : ℕ) (xs : List ℕ) → n ≡ min (length xs) m → take n xs ≡ take m xs
cut_front m n xs e = same_lists _ _ (search (rules, places)) (λ k d h. grind (arith, places))

-- and so with two limits, one behind the other
pub cut_twice : (n m w : ℕ) (xs : List ℕ) → n ≡ min (min (length xs) w) m → take n xs ≡ take m (take w xs)
cut_twice n m w xs e = same_lists _ _ (search (rules, places)) (λ k d h. grind (arith, places))
