-- The text of bytes says those bytes.
use Rattle.std.proofs.Common.{◌≡◌, ℕ, ◌+◌, ◌*◌, ◌/◌, ◌%◌, ◌<◌, [], ◌∷◌, Some, refl, ap, ◌∙◌, arith}
use Rattle.std.proofs.lemmas.Bool.Decides.{nat_tests}
use Rattle.fields.specs.Hexadecimal.{digit_value, digit_char, byte_value, with_byte, hex_bytes, hex_text}
use Rattle.fields.specs.Laws.{HexReadsBack}

digit_back : (d : ℕ) → d < 16 → digit_value (digit_char d) ≡ Some d
digit_back d h = grind (arith, nat_tests)

byte_back : (b : ℕ) → b < 256 → byte_value (digit_char (b / 16)) (digit_char (b % 16)) ≡ Some b
byte_back b h =
    let high = digit_back (b / 16) (omega arith) in
    let low = digit_back (b % 16) (omega arith) in
    let sum : 16 * (b / 16) + b % 16 ≡ b = omega arith in
    rw (high, low) (ap Some sum)

pub hex_back : HexReadsBack
hex_back [] all = refl
hex_back (b ∷ bs) all =
    ap (λ x. with_byte x (hex_bytes (hex_text bs))) (byte_back b all.0)
    ∙ ap (with_byte (Some b)) (hex_back bs all.1)
