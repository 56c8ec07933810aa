-- Lines served in turn, each with its number.
use Rattle.std.specs.Prelude.{◌≡◌, ℕ, ◌+◌, ◌-◌, ◌^◌, ◌⊎◌, min, List, [], ◌∷◌, Ok, Err, Result}
use Rattle.std.specs.Borrow.{Bor}

-- the number of the next line, as 64 bits hold it
abbrev pub next_number : ℕ → ℕ
next_number n = min (n + 1) (2 ^ 64 - 1)

-- calls that answer by `post`, one for each line, took one state to another; the first line comes behind the number n
abbrev pub Serves : {S E : Type 0} → (S → ℕ → Bor (List ℕ) → Result S E → Type 0) → ℕ → S → List (List ℕ) → S → Type 0
Serves post n s [] t = s ≡ t
Serves {S} post n s (line ∷ more) t =
    (u : S) × (shown : Bor (List ℕ)) × (shown.now ≡ line) × post s (next_number n) shown (Ok u) × Serves post (next_number n) u more t

-- the same up to a line at which the call failed
abbrev pub Stops : {S E : Type 0} → (S → ℕ → Bor (List ℕ) → Result S E → Type 0) → ℕ → S → List (List ℕ) → Type 0
Stops post n s [] = ⊥
Stops {S} {E} post n s (line ∷ more) =
    ((e : E) × (shown : Bor (List ℕ)) × (shown.now ≡ line) × post s (next_number n) shown (Err e))
    ⊎ ((u : S) × (shown : Bor (List ℕ)) × (shown.now ≡ line) × post s (next_number n) shown (Ok u) × Stops post (next_number n) u more)

-- each line was served once, the first with the number 1
pub record EachServed {S E : Type 0} (post : S → ℕ → Bor (List ℕ) → Result S E → Type 0) (start : S) (ls : List (List ℕ)) (end : S) : Type 0 where
  pub turns : Serves post 0 start ls end

-- each line was served once, up to one that was refused
pub record OneRefused {S E : Type 0} (post : S → ℕ → Bor (List ℕ) → Result S E → Type 0) (start : S) (ls : List (List ℕ)) : Type 0 where
  pub turns : Stops post 0 start ls
