-- A field read by pairs: what is left of it, behind the bytes so far, gives the whole.
use Rattle.std.proofs.Common.{◌≡◌, ℕ, ◌-◌, ◌≤◌, List, [], ◌∷◌, ◌++◌, length, get_or, take, drop, Some, Ok, Err, Result, sym, refl, ap, ◌∙◌, arith}
use Rattle.std.proofs.lemmas.List.{append_assoc, at_drop_more, take_rest}
use Rattle.fields.specs.declared.error.LineError.{LineError}
use Rattle.fields.specs.Hexadecimal.{byte_value, with_byte, hex_bytes}

-- what was read so far, in front of what the rest gives
module _ {X E : Type 0} where
  abbrev pub behind : List X → Result (List X) E → Result (List X) E
  behind xs (Ok ys) = Ok (xs ++ ys)
  behind xs (Err e) = Err e

  -- one more in front, as `more` puts it there
  pub behind_more : (more : Result (List X) E → Result (List X) E) (xs : List X) (x : X) (r : Result (List X) E)
      → ((ys : List X) → more (Ok ys) ≡ Ok (x ∷ ys)) → ((e : E) → more (Err e) ≡ Err e) → behind (xs ++ x ∷ []) r ≡ behind xs (more r)
  behind_more more xs x (Ok ys) ok err = rw (ok ys) (ap Ok (append_assoc xs (x ∷ []) ys))
  behind_more more xs x (Err e) ok err = rw (err e) refl

-- two characters and the rest, as a pattern takes them
cut : (F : List ℕ → Result (List ℕ) LineError) (cs : List ℕ) → 2 ≤ length cs → F cs ≡ F (get_or cs 0 0 ∷ get_or cs 1 0 ∷ take (length cs - 2) (drop 2 cs))
cut F cs h =
    at_drop_more F cs 0 0 (omega arith)
    ∙ at_drop_more (λ x. F (get_or cs 0 0 ∷ x)) cs 1 0 (omega arith)
    ∙ sym (ap (λ x. F (get_or cs 0 0 ∷ get_or cs 1 0 ∷ x)) (take_rest cs 2))

pub behind_pair : (field rest bs more : List ℕ) (b : ℕ) → 2 ≤ length rest → Some b ≡ byte_value (get_or rest 0 0) (get_or rest 1 0)
    → more ≡ bs ++ b ∷ [] → behind bs (hex_bytes rest) ≡ hex_bytes field
    → behind more (hex_bytes (take (length rest - 2) (drop 2 rest))) ≡ hex_bytes field
behind_pair field rest bs more b two byte grown inv =
    let tail = take (length rest - 2) (drop 2 rest) in
    ap (λ x. behind x (hex_bytes tail)) grown
    ∙ behind_more (with_byte (Some b)) bs b (hex_bytes tail) (λ cs. refl) (λ e. refl)
    ∙ ap (λ x. behind bs (with_byte x (hex_bytes tail))) byte
    ∙ sym (ap (behind bs) (cut hex_bytes rest two))
    ∙ inv
