-- Whatever has a start and a length: bad runs and unit places in blocks, the parts of a Put in bytes.
use Rattle.std.specs.Prelude.{◌≡◌, ℕ, ◌+◌, ◌<◌, ◌≤◌, Bool, true, false, cond, ◌&&◌, ◌||◌, List, [], ◌∷◌, length, Some, None, Option, nat_le, nat_lt}
use Rattle.std.specs.List.{HoldsAt, AllByRecursion}

module _ {E : Type 0} (start len : E → ℕ) where
  -- not empty, and over by the end
  abbrev pub Fitting : ℕ → E → Type 0
  Fitting end x = (0 < len x) × (start x + len x ≤ end)

  -- each is over before any later one starts: sorted by start, and none overlapping
  abbrev pub Apart : List E → Type 0
  Apart [] = Unit {0}
  Apart (x ∷ xs) = AllByRecursion (λ y. start x + len x ≤ start y) xs × Apart xs

  -- the check: none empty, sorted by start, none overlapping, all ending by a given end
  abbrev pub Sound : ℕ → List E → Type 0
  Sound end xs = AllByRecursion (Fitting end) xs × Apart xs

  -- the same as a test along the list; `low` is where the one before ended
  abbrev pub fitting : ℕ → ℕ → E → Bool
  fitting low end x = nat_lt 0 (len x) && (nat_le low (start x) && nat_le (start x + len x) end)

  abbrev pub sound : ℕ → ℕ → List E → Bool
  sound low end [] = true
  sound low end (x ∷ xs) = fitting low end x && sound (start x + len x) end xs

  -- a position is held
  abbrev pub Holds : ℕ → E → Type 0
  Holds pos x = (start x ≤ pos) × (pos < start x + len x)

  abbrev pub holds : ℕ → E → Bool
  holds pos x = nat_le (start x) pos && nat_lt pos (start x + len x)

  -- some element of the list holds it
  abbrev pub any_holds : ℕ → List E → Bool
  any_holds pos [] = false
  any_holds pos (x ∷ xs) = holds pos x || any_holds pos xs

  -- the number of the first element that holds it, counted from i; of a list that passes the check it is the only one
  abbrev pub found : ℕ → ℕ → List E → Option ℕ
  found i pos [] = None
  found i pos (x ∷ xs) = cond (holds pos x) (Some i) (found (i + 1) pos xs)

  -- the search's answer in words: none exactly where no element holds the position; else an element that does, and in a list that
  -- passes the check no other does
  abbrev pub Finds : ℕ → List E → Option ℕ → Type 0
  Finds pos xs None = AllByRecursion (λ x. Holds pos x → ⊥) xs
  Finds pos xs (Some i) =
      (i < length xs) × HoldsAt (Holds pos) xs i × ((end : ℕ) → Sound end xs → (k : ℕ) → k < length xs → HoldsAt (Holds pos) xs k → k ≡ i)
