-- A line whose first word is one letter is no blank one.
use Rattle.std.proofs.Common.{◌≡◌, ℕ, List, [], ◌∷◌, length, Some, None, Ok, Err, Result, Option, sym, ap, ◌∙◌, arith}
use Rattle.model.specs.Events.{Event as Happening}
use Rattle.fields.specs.Words.{words}
use Rattle.fields.specs.declared.error.LineError.{LineError}
use Rattle.lines.specs.Lines.{and_then, event_said, words_said, line_said}

some_event : (r : Result Happening LineError) → ◌≡◌ {A = Result (Option Happening) LineError} (and_then r (λ h. Ok (Some h))) (Ok None) → ⊥
some_event (Ok h) e = cc
some_event (Err m) e = cc

pub not_blank : (cs word : List ℕ) (ws : List (List ℕ)) → words cs ≡ word ∷ ws → length word ≡ 1 → line_said cs ≡ Ok None → ⊥
not_blank cs [] ws e one said = absurd (omega arith)
not_blank cs (letter ∷ []) ws e one said = some_event (event_said letter ws) (sym (ap words_said e) ∙ said)
not_blank cs (c ∷ d ∷ more) ws e one said = absurd (omega arith)
