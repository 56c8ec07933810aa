-- Identities: what an interface presents.
use Rattle.std.specs.Prelude.{ℕ, Bool, true, false, List, [], ◌∷◌}
use Rattle.model.specs.declared.ids.Ids.{Ids}
use Rattle.model.specs.declared.ids.Ids.TheVariants.{Negotiable, ScsiBbb}

abbrev pub ids_subclass : Ids → ℕ
ids_subclass Negotiable = 0x07
ids_subclass ScsiBbb = 0x06

-- class, subclass and protocol
abbrev pub ids_values : Ids → List ℕ
ids_values i = 0x08 ∷ ids_subclass i ∷ 0x50 ∷ []

abbrev pub is_negotiable : Ids → Bool
is_negotiable Negotiable = true
is_negotiable ScsiBbb = false
