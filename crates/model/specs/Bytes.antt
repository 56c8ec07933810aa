-- Numbers in bytes: fields of several bytes are little-endian, in SCSI commands and answers big-endian.
use Rattle.std.specs.Prelude.{ℕ, ◌+◌, ◌*◌, ◌/◌, ◌%◌, Bool, ◌&&◌, List, [], ◌∷◌, nat_le, slice_index}

-- the byte at a place
abbrev pub byte : List ℕ → ℕ → ℕ
byte bs i = slice_index bs i

-- the number in 2 or 4 bytes from a place on
abbrev pub le16 : List ℕ → ℕ → ℕ
le16 bs i = byte bs i + 256 * byte bs (i + 1)

abbrev pub le32 : List ℕ → ℕ → ℕ
le32 bs i = byte bs i + 256 * byte bs (i + 1) + 65536 * byte bs (i + 2) + 16777216 * byte bs (i + 3)

abbrev pub be16 : List ℕ → ℕ → ℕ
be16 bs i = 256 * byte bs i + byte bs (i + 1)

abbrev pub be32 : List ℕ → ℕ → ℕ
be32 bs i = 16777216 * byte bs i + 65536 * byte bs (i + 1) + 256 * byte bs (i + 2) + byte bs (i + 3)

-- a number below 2 ^ 16 in 2 bytes
abbrev pub le16_of : ℕ → List ℕ
le16_of n = n % 256 ∷ n / 256 ∷ []

-- a number below 2 ^ 32 in 4 bytes
abbrev pub le32_of : ℕ → List ℕ
le32_of n = n % 256 ∷ n / 256 % 256 ∷ n / 65536 % 256 ∷ n / 16777216 ∷ []

abbrev pub be32_of : ℕ → List ℕ
be32_of n = n / 16777216 ∷ n / 65536 % 256 ∷ n / 256 % 256 ∷ n % 256 ∷ []

-- low ≤ n ≤ high
abbrev pub between : ℕ → ℕ → ℕ → Bool
between low high n = nat_le low n && nat_le n high
