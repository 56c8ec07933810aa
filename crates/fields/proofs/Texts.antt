-- The text that the kit's hexadecimal writer makes of bytes is the text that a record is stated in.
use Rattle.std.proofs.Common.{◌≡◌, ℕ, suc, ◌<◌, ◌/◌, ◌%◌, true, List, [], ◌∷◌, slice_index, ◌==◌, refl, arith}
use Rattle.std.proofs.lemmas.Bool.{agree_below_at, eqb-true}
use Rattle.hex.specs.Hex.{IsBytes, encode_with, encode_upper, upper_digits}
use Rattle.fields.specs.Hexadecimal.{digit_char, hex_text}

digit_upper : (d : ℕ) → d < 16 → slice_index upper_digits d ≡ digit_char d
digit_upper d h =
    eqb-true (slice_index upper_digits d) (digit_char d)
    (agree_below_at (λ k. slice_index upper_digits k == digit_char k) (λ k. true) 16 d refl h)

pub text_upper : (bs : List ℕ) → IsBytes bs → encode_upper bs ≡ hex_text bs
unfolding encode_with
text_upper [] small = refl
text_upper (b ∷ bs) small =
    let fits : b < 256 = small 0 in
    let rest = text_upper bs (λ i. small (suc i)) in
    let high = digit_upper (b / 16) (omega arith) in
    let low = digit_upper (b % 16) (omega arith) in
    rw (high, low, rest) refl
