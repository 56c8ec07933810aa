-- The first power-up: new units stay new, and no interface is Negotiable.
use Rattle.std.proofs.Common.{◌≡◌, ℕ, zero, suc, ◌+◌, ◌-◌, false, cond, List, ◌∷◌, map, length, get_or, take, drop, replicate, refl, ap, ◌∙◌}
use Rattle.std.specs.List.{range_with_len}
use Rattle.std.proofs.lemmas.List.{drop-replicate}
use Rattle.model.specs.Blocks.{Block}
use Rattle.model.specs.Layouts.{Layout, sum}
use Rattle.model.specs.Sticks.{stick, interface, interface_up, powered_up, fitted_units, first}
use Rattle.model.specs.Units.{new_unit, any_phrase, powered}
use Rattle.model.specs.declared.ids.Ids.TheVariants.{Negotiable, ScsiBbb}
use Rattle.model.specs.declared.ids.Phase.TheVariants.{Present}

powered_new : (n : ℕ) → map powered (replicate n new_unit) ≡ replicate n new_unit
powered_new zero = refl
powered_new (suc n) = ap (λ us. new_unit ∷ us) (powered_new n)

none_of_new : (c n : ℕ) → any_phrase (take c (replicate n new_unit)) ≡ false
none_of_new zero n = refl
none_of_new (suc c) zero = refl
none_of_new (suc c) (suc n) = none_of_new c n

none_in_part : (c f n : ℕ) → any_phrase (take c (drop f (replicate n new_unit))) ≡ false
none_in_part c f n = ap (λ us. any_phrase (take c us)) (drop-replicate f n new_unit) ∙ none_of_new c (n - f)

plain_up : (lay : Layout) (i : ℕ) → interface_up lay (fitted_units lay) i ≡ interface ScsiBbb false
plain_up lay i = ap (λ b. interface (cond b Negotiable ScsiBbb) false) (none_in_part (get_or lay.counts i 0) (sum (take i lay.counts)) (sum lay.counts))

all_plain : (lay : Layout) (a n : ℕ) → map (interface_up lay (fitted_units lay)) (range_with_len a n) ≡ replicate n (interface ScsiBbb false)
all_plain lay a zero = refl
all_plain lay a (suc n) =
    ap (λ x. x ∷ map (interface_up lay (fitted_units lay)) (range_with_len (a + 1) n)) (plain_up lay a) ∙ ap (λ xs. interface ScsiBbb false ∷ xs) (all_plain lay (a + 1) n)

pub first_power_up : (lay : Layout) (m : List Block) → powered_up lay (fitted_units lay) m ≡ first lay m
first_power_up lay m =
    ap (λ us. stick us (map (interface_up lay (fitted_units lay)) (range_with_len 0 (length lay.counts))) Present m) (powered_new (sum lay.counts))
    ∙ ap (λ is. stick (fitted_units lay) is Present m) (all_plain lay 0 (length lay.counts))
