-- Sums of unit counts: the number of the first unit of an interface, and how many units there are at most.
use Rattle.std.proofs.Common.{◌≡◌, ℕ, zero, suc, ◌+◌, ◌*◌, ◌≤◌, true, List, [], ◌∷◌, length, get_or, take, refl, ap, ◌∙◌, add-one, arith}
use Rattle.std.proofs.lemmas.Bool.Decides.{nat_tests}
use Rattle.model.specs.Layouts.{sum, all_between}

sum_more : (cs : List ℕ) (i : ℕ) → sum (take (suc i) cs) ≡ sum (take i cs) + get_or cs i 0
sum_more [] zero = refl
sum_more [] (suc i) = refl
sum_more (c ∷ cs) zero = omega arith
sum_more (c ∷ cs) (suc i) = let e = sum_more cs i in omega arith

pub sum_next : (cs : List ℕ) (i : ℕ) → sum (take (i + 1) cs) ≡ sum (take i cs) + get_or cs i 0
sum_next cs i = ap (λ k. sum (take k cs)) (add-one i) ∙ sum_more cs i

pub sum_within : (cs : List ℕ) (i : ℕ) → sum (take i cs) + get_or cs i 0 ≤ sum cs
sum_within [] zero = omega arith
sum_within [] (suc i) = omega arith
sum_within (c ∷ cs) zero = omega arith
sum_within (c ∷ cs) (suc i) = let e = sum_within cs i in omega arith

pub few_units : (cs : List ℕ) → all_between 1 4 cs ≡ true → sum cs ≤ 4 * length cs
few_units [] h = omega arith
few_units (c ∷ cs) h = let rest = few_units cs in grind (arith, nat_tests, rest)
