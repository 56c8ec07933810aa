-- Arguments taken two by two: what is left, with the choice so far, gives the whole.
use Rattle.std.proofs.Common.{◌≡◌, ℕ, ◌-◌, ◌<◌, ◌≤◌, List, [], ◌∷◌, map, length, get_or, take, drop, Ok, Err, sym, refl, ap, ◌∙◌, arith}
use Rattle.std.proofs.lemmas.List.{take_rest}
use Rattle.options.specs.Choices.{Choice, and_then, name_said, named, lone_word, choices_said}
use Rattle.values.specs.declared.error.Mistake.{Mistake}

module _ {S : Type 0} (text : S → List ℕ) where
  abbrev behind_two : List S → List S
  behind_two ws = take (length ws - 2) (drop 2 ws)

  two : (ws : List S) (c : Choice) (a b : S) → 2 ≤ length ws → a ≡ get_or ws 0 a → b ≡ get_or ws 1 b
      → choices_said (map text ws) c ≡ choices_said (text a ∷ text b ∷ map text (behind_two ws)) c
  two [] c a b h e g = absurd (omega arith)
  two (x ∷ []) c a b h e g = absurd (omega arith)
  two (x ∷ y ∷ ws) c a b h e g =
      sym
      (ap (λ u. choices_said (text u ∷ text b ∷ map text (behind_two (x ∷ y ∷ ws))) c) e
      ∙ ap (λ u. choices_said (text x ∷ text u ∷ map text (behind_two (x ∷ y ∷ ws))) c) g
      ∙ ap (λ us. choices_said (text x ∷ text y ∷ map text us) c) (take_rest (x ∷ y ∷ ws) 2))

  -- a word and its value, as the code has them
  pub taken : (ws : List S) (c d : Choice) (a b : S) (word value : List ℕ) → 2 ≤ length ws → a ≡ get_or ws 0 a → b ≡ get_or ws 1 b
      → word ≡ text a → value ≡ text b → Ok d ≡ named (name_said word) value c → choices_said (map text (behind_two ws)) d ≡ choices_said (map text ws) c
  taken ws c d a b word value h e g p q said =
      ap (λ r. and_then r (λ x. choices_said (map text (behind_two ws)) x)) (said ∙ ap (λ w. named (name_said w) value c) p ∙ ap (λ v. named (name_said (text a)) v c) q)
      ∙ sym (two ws c a b h e g)

  pub stopped : (ws : List S) (c : Choice) (m : Mistake) (a b : S) (word value : List ℕ) → 2 ≤ length ws → a ≡ get_or ws 0 a → b ≡ get_or ws 1 b
      → word ≡ text a → value ≡ text b → Err m ≡ named (name_said word) value c → Err m ≡ choices_said (map text ws) c
  stopped ws c m a b word value h e g p q said =
      ap (λ r. and_then r (λ x. choices_said (map text (behind_two ws)) x)) (said ∙ ap (λ w. named (name_said w) value c) p ∙ ap (λ v. named (name_said (text a)) v c) q)
      ∙ sym (two ws c a b h e g)

  pub ended : (ws : List S) (c : Choice) → length ws ≡ 0 → Ok c ≡ choices_said (map text ws) c
  ended [] c h = refl
  ended (x ∷ ws) c h = absurd (omega arith)

  pub lonely : (ws : List S) (c : Choice) (a : S) (word : List ℕ) → 1 ≤ length ws → length ws < 2 → a ≡ get_or ws 0 a → word ≡ text a
      → Err (lone_word (name_said word)) ≡ choices_said (map text ws) c
  lonely [] c a word h k e p = absurd (omega arith)
  lonely (x ∷ []) c a word h k e p = ap (λ w. Err (lone_word (name_said w))) p ∙ ap (λ u. Err (lone_word (name_said (text u)))) e
  lonely (x ∷ y ∷ ws) c a word h k e p = absurd (omega arith)
