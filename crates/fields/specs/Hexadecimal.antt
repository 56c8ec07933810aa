-- Bytes as hexadecimal text: two digits to a byte, the high one first.
use Rattle.std.specs.Prelude.{ℕ, ◌+◌, ◌-◌, ◌*◌, ◌/◌, ◌%◌, cond, ◌&&◌, List, [], ◌∷◌, ◌++◌, Some, None, Ok, Err, Option, Result, nat_le, nat_lt}
use Rattle.fields.specs.declared.error.LineError.{LineError}
use Rattle.fields.specs.declared.error.LineError.TheVariants.{NotHexadecimal, OddDigits}

-- Reading

-- the value of 0 to 9, A to F, a to f
abbrev pub digit_value : ℕ → Option ℕ
digit_value c =
    cond (nat_le 0x30 c && nat_le c 0x39) (Some (c - 0x30))
    (cond (nat_le 0x41 c && nat_le c 0x46) (Some (c - 0x41 + 10))
    (cond (nat_le 0x61 c && nat_le c 0x66) (Some (c - 0x61 + 10)) None))

abbrev pub byte_by : Option ℕ → Option ℕ → Option ℕ
byte_by None low = None
byte_by (Some h) None = None
byte_by (Some h) (Some l) = Some (16 * h + l)

-- the byte that two characters say
abbrev pub byte_value : ℕ → ℕ → Option ℕ
byte_value h l = byte_by (digit_value h) (digit_value l)

-- a byte more in front
abbrev pub with_byte : Option ℕ → Result (List ℕ) LineError → Result (List ℕ) LineError
with_byte None rest = Err NotHexadecimal
with_byte (Some b) (Ok bs) = Ok (b ∷ bs)
with_byte (Some b) (Err e) = Err e

-- a digit with no other to pair up with
abbrev pub lone_digit : Option ℕ → LineError
lone_digit None = NotHexadecimal
lone_digit (Some d) = OddDigits

-- the bytes that a field says. A character that is no digit is reported, wherever it stands, before an odd number of digits
abbrev pub hex_bytes : List ℕ → Result (List ℕ) LineError
hex_bytes [] = Ok []
hex_bytes (c ∷ []) = Err (lone_digit (digit_value c))
hex_bytes (h ∷ l ∷ cs) = with_byte (byte_value h l) (hex_bytes cs)

-- Writing

-- 0 to 9, A to F
abbrev pub digit_char : ℕ → ℕ
digit_char d = cond (nat_lt d 10) (0x30 + d) (0x41 + (d - 10))

abbrev pub byte_text : ℕ → List ℕ
byte_text b = digit_char (b / 16) ∷ digit_char (b % 16) ∷ []

abbrev pub hex_text : List ℕ → List ℕ
hex_text [] = []
hex_text (b ∷ bs) = byte_text b ++ hex_text bs
