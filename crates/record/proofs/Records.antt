-- A record line put together: the number, and a blank and the text of CSW and data where there are any.
use Rattle.std.proofs.Common.{◌≡◌, ℕ, ◌+◌, ◌<◌, false, eqb, List, [], ◌∷◌, ◌++◌, length, decimal, sym, refl, ap, ◌∙◌, arith, length-append}
use Rattle.std.proofs.lemmas.List.{append_assoc}
use Rattle.std.proofs.lemmas.Bool.{ne_eqb}
use Rattle.fields.specs.Hexadecimal.{byte_text, hex_text}
use Rattle.record.specs.Records.{record_line}

hex_append : (xs bs : List ℕ) → hex_text (xs ++ bs) ≡ hex_text xs ++ hex_text bs
hex_append [] bs = refl
hex_append (x ∷ xs) bs = ap (λ t. byte_text x ++ t) (hex_append xs bs)

pub line_none : (number : ℕ) (csw answered line : List ℕ) → length csw ≡ 0 → length answered ≡ 0 → line ≡ decimal number
    → line ≡ record_line number (csw ++ answered)
line_none number [] [] line p q e = e
line_none number [] (b ∷ bs) line p q e = absurd (omega arith)
line_none number (x ∷ xs) bs line p q e = absurd (omega arith)

with_bytes : (number : ℕ) (bytes : List ℕ) → 0 < length bytes → decimal number ++ (0x20 ∷ []) ++ hex_text bytes ≡ record_line number bytes
with_bytes number bytes some =
    let dark : eqb (length bytes) 0 ≡ false = ne_eqb (length bytes) 0 (λ e. omega arith) in
    rw dark

pub line_some : (number : ℕ) (csw answered line blank one two : List ℕ) → 0 < length csw + length answered → line ≡ decimal number → blank ≡ line ++ 0x20 ∷ []
    → one ≡ blank ++ hex_text csw → two ≡ one ++ hex_text answered → two ≡ record_line number (csw ++ answered)
line_some number csw answered line blank one two some e f g h =
    h
    ∙ ap (λ t. t ++ hex_text answered) (g ∙ ap (λ t. t ++ hex_text csw) (f ∙ ap (λ t. t ++ 0x20 ∷ []) e))
    ∙ append_assoc (decimal number ++ 0x20 ∷ []) (hex_text csw) (hex_text answered)
    ∙ sym (ap (λ t. decimal number ++ (0x20 ∷ []) ++ t) (hex_append csw answered))
    ∙ with_bytes number (csw ++ answered) (omega (arith, length-append csw answered))
