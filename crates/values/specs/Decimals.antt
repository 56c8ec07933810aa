-- Decimal numbers of at most 32 bits.
use Rattle.std.specs.Prelude.{ℕ, ◌+◌, ◌-◌, ◌*◌, ◌^◌, min, cond, List, [], ◌∷◌, Some, None, Option}
use Rattle.model.specs.Bytes.{between}

-- a number past 32 bits counts as the most that they hold
abbrev pub capped : ℕ → ℕ
capped n = min n (2 ^ 32 - 1)

abbrev pub digit_said : ℕ → Option ℕ
digit_said c = cond (between 0x30 0x39 c) (Some (c - 0x30)) None

-- none where there is no digit
abbrev pub by_digit : Option ℕ → (ℕ → Option ℕ) → Option ℕ
by_digit None f = None
by_digit (Some d) f = f d

-- digits behind a number
abbrev pub digits_said : ℕ → List ℕ → Option ℕ
digits_said n [] = Some n
digits_said n (c ∷ cs) = by_digit (digit_said c) (λ d. digits_said (capped (10 * n + d)) cs)

-- at least one digit, and nothing else
abbrev pub decimal_said : List ℕ → Option ℕ
decimal_said [] = None
decimal_said (c ∷ cs) = digits_said 0 (c ∷ cs)
