-- Words: a text split at blanks, with the empty pieces left out.
use Rattle.std.specs.Prelude.{ℕ, Bool, not, List, [], ◌∷◌, ◌==◌}
use Rattle.std.specs.List.{slice_split}

abbrev pub is_blank : ℕ → Bool
is_blank c = c == 0x20

abbrev pub in_word : ℕ → Bool
in_word c = not (is_blank c)

-- what stands before, between and behind the blanks
abbrev pub pieces : List ℕ → List (List ℕ)
pieces cs = slice_split is_blank cs

abbrev pub non_empty : List (List ℕ) → List (List ℕ)
non_empty [] = []
non_empty ([] ∷ ws) = non_empty ws
non_empty ((c ∷ w) ∷ ws) = (c ∷ w) ∷ non_empty ws

abbrev pub words : List ℕ → List (List ℕ)
words cs = non_empty (pieces cs)
