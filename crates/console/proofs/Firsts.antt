-- The first line of a text and the rest, as a reader takes them, are the text's lines.
use Rattle.std.proofs.Common.{◌≡◌, ℕ, zero, suc, ◌-◌, ◌+◌, ◌<◌, ◌⊎◌, inl, inr, Bool, true, false, cond, ◌&&◌, List, [], ◌∷◌, ◌++◌, length, get_or, take, nat_lt, sym, refl, ap, ◌∙◌, arith}
use Rattle.std.specs.Prelude.{◌==◌}
use Rattle.std.specs.List.{slice_split, onto_first, AllByRecursion}
use Rattle.std.specs.Str.Lines.{lines, lines_of_parts, strip_carriage_return}
use Rattle.std.specs.Io.BufRead.{take_through, drop_through, ends_with_byte, strip_last, first_line}
use Rattle.std.proofs.lemmas.Bool.{ne_eqb, eqb-true, lt-ltb, and_from, and_right}
use Rattle.std.proofs.lemmas.List.{length-append, get_or_push, take_at}
use Rattle.std.proofs.lemmas.List.Elements.{All-from_recursion}
use Rattle.std.proofs.lemmas.List.Splits.{slice_split_none, length-slice_split}

abbrev breaks : ℕ → Bool
breaks b = b == 10

-- a line that a newline ends
record Ends (xs : List ℕ) : Type 0 where
  line : List ℕ
  split : slice_split breaks xs ≡ line ∷ slice_split breaks (drop_through 10 xs)
  through : take_through 10 xs ≡ line ++ 10 ∷ []

-- a text with no newline
record Runs (xs : List ℕ) : Type 0 where
  through : take_through 10 xs ≡ xs
  rest : drop_through 10 xs ≡ []
  none : AllByRecursion (λ b. breaks b ≡ false) xs

cut_by : (x : ℕ) (xs : List ℕ) (b : Bool) → breaks x ≡ b → Ends xs ⊎ Runs xs → Ends (x ∷ xs) ⊎ Runs (x ∷ xs)
cut_by x xs true e h =
    let ten : x ≡ 10 = eqb-true x 10 e in
    inl (record { line = []; split = rw e refl; through = rw e (ap (λ b. b ∷ []) ten) })
cut_by x xs false e (inl h) =
    inl (record { line = x ∷ h.line; split = rw e (ap (onto_first x) h.split); through = rw e (ap (λ bs. x ∷ bs) h.through) })
cut_by x xs false e (inr h) =
    inr (record { through = rw e (ap (λ bs. x ∷ bs) h.through); rest = rw e h.rest; none = (e, h.none) })

cut : (xs : List ℕ) → Ends xs ⊎ Runs xs
cut [] = inr (record { through = refl; rest = refl; none = tt })
cut (x ∷ xs) = cut_by x xs (breaks x) refl (cut xs)

none_at : (xs : List ℕ) (k : ℕ) → AllByRecursion (λ b. breaks b ≡ false) xs → breaks (get_or xs k 0) ≡ false
none_at [] k all = refl
none_at (x ∷ xs) zero all = all.0
none_at (x ∷ xs) (suc k) all = none_at xs k all.1

ends_not : (xs : List ℕ) → AllByRecursion (λ b. breaks b ≡ false) xs → ends_with_byte 10 xs ≡ false
ends_not xs all = and_right (nat_lt 0 (length xs)) (breaks (get_or xs (length xs - 1) 0)) (none_at xs (length xs - 1) all)

ends_so : (xs : List ℕ) → ends_with_byte 10 (xs ++ 10 ∷ []) ≡ true
ends_so xs =
    let n : length (xs ++ 10 ∷ []) ≡ length xs + 1 = length-append xs (10 ∷ []) in
    let last : get_or (xs ++ 10 ∷ []) (length (xs ++ 10 ∷ []) - 1) 0 ≡ 10 = get_or_push xs 10 0 (length (xs ++ 10 ∷ []) - 1) (omega arith) in
    and_from (nat_lt 0 (length (xs ++ 10 ∷ []))) (breaks (get_or (xs ++ 10 ∷ []) (length (xs ++ 10 ∷ []) - 1) 0))
    (lt-ltb 0 (length (xs ++ 10 ∷ [])) (omega arith)) (ap breaks last)

strip_so : (xs : List ℕ) → strip_last 10 (xs ++ 10 ∷ []) ≡ xs
strip_so xs =
    let n : length (xs ++ 10 ∷ []) - 1 ≡ length xs = let m = length-append xs (10 ∷ []) in omega arith in
    ap (λ b. cond b (take (length (xs ++ 10 ∷ []) - 1) (xs ++ 10 ∷ [])) (xs ++ 10 ∷ [])) (ends_so xs)
    ∙ take_at xs (10 ∷ []) (length (xs ++ 10 ∷ []) - 1) (sym n)

strip_same : (xs : List ℕ) → strip_last 13 xs ≡ strip_carriage_return xs
strip_same [] = refl
strip_same (x ∷ xs) =
    ap (λ b. cond (b && (get_or (x ∷ xs) (length (x ∷ xs) - 1) 0 == 13)) (take (length (x ∷ xs) - 1) (x ∷ xs)) (x ∷ xs))
    (lt-ltb 0 (length (x ∷ xs)) (omega arith))

abbrev as_line : List ℕ → List ℕ
as_line t = cond (ends_with_byte 10 t) (strip_last 13 (strip_last 10 t)) (strip_last 10 t)

first_ends : (xs : List ℕ) (h : Ends xs) → first_line xs ≡ strip_carriage_return h.line
first_ends xs h =
    let whole = h.line ++ 10 ∷ [] in
    ap as_line h.through
    ∙ ap (λ b. cond b (strip_last 13 (strip_last 10 whole)) (strip_last 10 whole)) (ends_so h.line)
    ∙ ap (strip_last 13) (strip_so h.line)
    ∙ strip_same h.line

first_runs : (xs : List ℕ) → Runs xs → first_line xs ≡ xs
first_runs xs h =
    let not = ends_not xs h.none in
    ap as_line h.through
    ∙ ap (λ b. cond b (strip_last 13 (strip_last 10 xs)) (strip_last 10 xs)) not
    ∙ ap (λ b. cond b (take (length xs - 1) xs) xs) not

parts_cons : (x : List ℕ) (parts : List (List ℕ)) → 0 < length parts → lines_of_parts (x ∷ parts) ≡ strip_carriage_return x ∷ lines_of_parts parts
parts_cons x [] some = absurd (omega arith)
parts_cons x (y ∷ more) some = refl

lines_by : (xs : List ℕ) → 0 < length xs → Ends xs ⊎ Runs xs → lines xs ≡ first_line xs ∷ lines (drop_through 10 xs)
lines_by xs some (inl h) =
    let rest = slice_split breaks (drop_through 10 xs) in
    ap lines_of_parts h.split
    ∙ parts_cons h.line rest (omega (arith, length-slice_split breaks (drop_through 10 xs)))
    ∙ ap (λ l. l ∷ lines_of_parts rest) (sym (first_ends xs h))
lines_by xs some (inr h) =
    ap lines_of_parts (slice_split_none breaks xs (All-from_recursion _ xs h.none))
    ∙ ap (λ b. cond b [] (xs ∷ [])) (ne_eqb (length xs) 0 (λ e. omega arith))
    ∙ ap (λ l. l ∷ []) (sym (first_runs xs h))
    ∙ ap (λ r. first_line xs ∷ lines r) (sym h.rest)

pub lines_first : (xs : List ℕ) → 0 < length xs → lines xs ≡ first_line xs ∷ lines (drop_through 10 xs)
lines_first xs some = lines_by xs some (cut xs)
