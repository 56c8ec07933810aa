-- The page of each block, as a list, and what keeps it one to one.
use Rattle.std.specs.Prelude.{◌≡◌, ℕ, ◌<◌, ◌≤◌, List, ◌≢◌, slice_index}

-- n blocks lie on the pages 0 to n
abbrev pub Within : List ℕ → ℕ → Type 0
Within pages n = (b : ℕ) → b < n → slice_index pages b ≤ n

-- no two blocks share a page
abbrev pub Distinct : List ℕ → ℕ → Type 0
Distinct pages n = (a b : ℕ) → ((a < n) × (b < n) × (slice_index pages a ≡ slice_index pages b)) → a ≡ b

-- no block is on the spare page
abbrev pub Spared : List ℕ → ℕ → ℕ → Type 0
Spared pages spare n = (b : ℕ) → b < n → slice_index pages b ≢ spare
