-- How blanks part a text into words.
use Rattle.std.proofs.Common.{◌≡◌, ℕ, ◌<◌, Bool, true, false, List, [], ◌∷◌, ◌++◌, length, refl, ap, ◌∙◌, arith}
use Rattle.std.specs.List.{AllByRecursion, onto_first}
use Rattle.std.proofs.lemmas.Bool.{ne_eqb}
use Rattle.std.proofs.lemmas.List.Elements.{All-from_recursion, All-weaker}
use Rattle.std.proofs.lemmas.List.Splits.{slice_split_none, length-slice_split}
use Rattle.fields.specs.Words.{is_blank, pieces, non_empty, words}
use Rattle.fields.specs.Laws.{WordsArePartedByBlanks}

-- a character goes to the first piece, whatever follows
onto_first_append : (c : ℕ) (vs ws : List (List ℕ)) → 0 < length vs → onto_first c (vs ++ ws) ≡ onto_first c vs ++ ws
onto_first_append c [] ws some = absurd (omega arith)
onto_first_append c (v ∷ vs) ws some = refl

pieces_parted_by : (c : ℕ) (cs after : List ℕ) (b : Bool) → is_blank c ≡ b → pieces (cs ++ (0x20 ∷ after)) ≡ pieces cs ++ pieces after
    → pieces (c ∷ (cs ++ (0x20 ∷ after))) ≡ pieces (c ∷ cs) ++ pieces after
pieces_parted_by c cs after true e p = rw e (ap (λ ws. [] ∷ ws) p)
pieces_parted_by c cs after false e p = rw e (ap (onto_first c) p ∙ onto_first_append c (pieces cs) (pieces after) (omega (arith, length-slice_split is_blank cs)))

pieces_parted : (before after : List ℕ) → pieces (before ++ (0x20 ∷ after)) ≡ pieces before ++ pieces after
pieces_parted [] after = refl
pieces_parted (c ∷ cs) after = pieces_parted_by c cs after (is_blank c) refl (pieces_parted cs after)

non_empty_append : (vs ws : List (List ℕ)) → non_empty (vs ++ ws) ≡ non_empty vs ++ non_empty ws
non_empty_append [] ws = refl
non_empty_append ([] ∷ vs) ws = non_empty_append vs ws
non_empty_append ((c ∷ v) ∷ vs) ws = ap (λ us. (c ∷ v) ∷ us) (non_empty_append vs ws)

pub words_parted : (before after : List ℕ) → words (before ++ (0x20 ∷ after)) ≡ words before ++ words after
words_parted before after = ap non_empty (pieces_parted before after) ∙ non_empty_append (pieces before) (pieces after)

pub words_whole : (word : List ℕ) → 0 < length word → AllByRecursion (λ c. c ≡ 0x20 → ⊥) word → words word ≡ word ∷ []
words_whole [] some all = absurd (omega arith)
words_whole (c ∷ cs) some all =
    ap non_empty (slice_split_none is_blank (c ∷ cs) (All-weaker _ _ (λ x dark. ne_eqb x 0x20 dark) (c ∷ cs) (All-from_recursion _ (c ∷ cs) all)))

pub words_law : WordsArePartedByBlanks
words_law = record { parted = words_parted; whole = words_whole }
