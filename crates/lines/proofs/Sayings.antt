-- The line that is written for an event says that event.
use Rattle.std.proofs.Common.{◌≡◌, ℕ, ◌+◌, ◌*◌, ◌/◌, ◌%◌, ◌<◌, List, [], ◌∷◌, ◌++◌, length, Some, Ok, sym, refl, ap, ◌∙◌, arith}
use Rattle.std.specs.List.{AllByRecursion}
use Rattle.std.proofs.lemmas.List.{append-nil}
use Rattle.std.proofs.lemmas.Bool.Decides.{nat_tests}
use Rattle.model.specs.Events.{control, bulk, work, clock, reset, suspend, resume, power}
use Rattle.fields.specs.Hexadecimal.{digit_char, hex_text}
use Rattle.lines.specs.Lines.{and_then, four_bytes, words_said}
use Rattle.fields.specs.Words.{words}
use Rattle.fields.specs.Laws.{Bytes}
use Rattle.lines.specs.Laws.{field_text, clock_bytes, Sayable, EventsReadBack}
use Rattle.fields.proofs.Backs.{hex_back}
use Rattle.fields.proofs.Blanks.{words_parted, words_whole}

digit_dark : (d : ℕ) → digit_char d ≡ 0x20 → ⊥
digit_dark d e = grind (arith, nat_tests)

hex_dark : (bs : List ℕ) → AllByRecursion (λ c. c ≡ 0x20 → ⊥) (hex_text bs)
hex_dark [] = tt
hex_dark (b ∷ bs) = (digit_dark (b / 16), (digit_dark (b % 16), hex_dark bs))

abbrev field_words : List ℕ → List (List ℕ)
field_words [] = []
field_words (b ∷ bs) = hex_text (b ∷ bs) ∷ []

-- a field adds its word
words_field : (before bs : List ℕ) → words (before ++ field_text bs) ≡ words before ++ field_words bs
words_field before [] = ap words (append-nil before) ∙ sym (append-nil (words before))
words_field before (b ∷ bs) =
    words_parted before (hex_text (b ∷ bs)) ∙ ap (λ ws. words before ++ ws) (words_whole (hex_text (b ∷ bs)) (omega arith) (hex_dark (b ∷ bs)))

control_back : (s d : List ℕ) → Sayable (control s d) → words_said ((0x43 ∷ []) ∷ (field_words s ++ field_words d)) ≡ Ok (Some (control s d))
control_back [] d h = absurd (omega (arith, h.0))
control_back (b ∷ bs) [] h = rw (hex_back (b ∷ bs) h.1)
control_back (b ∷ bs) (x ∷ xs) h = rw (hex_back (b ∷ bs) h.1, hex_back (x ∷ xs) h.2)

bulk_back : (i : ℕ) (c d : List ℕ) → Sayable (bulk i c d)
    → words_said ((0x42 ∷ []) ∷ (field_words (i ∷ []) ++ field_words c ++ field_words d)) ≡ Ok (Some (bulk i c d))
bulk_back i [] d h = absurd (omega (arith, h.1))
bulk_back i (b ∷ bs) [] h = rw (hex_back (i ∷ []) (h.0, tt), hex_back (b ∷ bs) h.2)
bulk_back i (b ∷ bs) (x ∷ xs) h = rw (hex_back (i ∷ []) (h.0, tt), hex_back (b ∷ bs) h.2, hex_back (x ∷ xs) h.3)

clock_back : (bs : List ℕ) → 0 < length bs → Bytes bs
    → words_said ((0x54 ∷ []) ∷ field_words bs) ≡ and_then (and_then (four_bytes bs) (λ ms. Ok (clock ms))) (λ h. Ok (Some h))
clock_back [] some all = absurd (omega arith)
clock_back (b ∷ bs) some all = rw (hex_back (b ∷ bs) all)

pub events_back : EventsReadBack
events_back (control s d) h =
    ap words_said (words_field (0x43 ∷ field_text s) d ∙ ap (λ ws. ws ++ field_words d) (words_field (0x43 ∷ []) s)) ∙ control_back s d h
events_back (bulk i c d) h =
    let one = 0x42 ∷ field_text (i ∷ []) in
    ap words_said
    (words_field (one ++ field_text c) d
    ∙ ap (λ ws. ws ++ field_words d) (words_field one c ∙ ap (λ ws. ws ++ field_words c) (words_field (0x42 ∷ []) (i ∷ []))))
    ∙ bulk_back i c d h
events_back work h = refl
events_back (clock ms) h =
    let bs = clock_bytes ms in
    let n : ms / 16777216 * 16777216 + ms / 65536 % 256 * 65536 + ms / 256 % 256 * 256 + ms % 256 ≡ ms = omega arith in
    ap words_said (words_field (0x54 ∷ []) bs)
    ∙ clock_back bs (omega arith) (omega arith, (omega arith, (omega arith, (omega arith, tt))))
    ∙ ap (λ k. Ok (Some (clock k))) n
events_back reset h = refl
events_back suspend h = refl
events_back resume h = refl
events_back power h = refl
