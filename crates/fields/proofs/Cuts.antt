-- The first word of a text, cut off behind the blanks that lead it.
use Rattle.std.proofs.Common.{◌≡◌, ℕ, ◌+◌, ◌<◌, ◌≤◌, Bool, true, false, cond, not, List, [], ◌∷◌, length, get_or, take, drop, Some, None, sym, refl, ap, ◌∙◌, one-add, ⊎_elim, arith}
use Rattle.std.specs.List.{prefix_len, position, position_or_len}
use Rattle.std.proofs.lemmas.List.{at_drop_more, at_drop_all, take_all, length-take, length-drop}
use Rattle.std.proofs.lemmas.List.Sums.{prefix_len-drop_yes, fails_before_first, passes_at_first}
use Rattle.std.proofs.lemmas.List.Splits.{slice_split-cons_yes, slice_split_none, slice_split_first}
use Rattle.std.proofs.lemmas.Bool.{ne_eqb, both_ways, not-true, cases_lt}
use Rattle.std.proofs.lemmas.Bool.Decides.{nat_tests}
use Rattle.fields.specs.Words.{is_blank, in_word, pieces, non_empty, words}

some_first : (w : List ℕ) (ws : List (List ℕ)) → 0 < length w → non_empty (w ∷ ws) ≡ w ∷ non_empty ws
some_first [] ws some = absurd (omega arith)
some_first (c ∷ w) ws some = refl

-- the first piece ends at the first blank
words_parted : (cs : List ℕ) (n : ℕ) → n ≡ prefix_len in_word cs → 0 < n → 0 < length cs → words cs ≡ take n cs ∷ words (drop n cs)
words_parted cs n is pos some =
    ⊎_elim
    (λ (h : n < length cs).
    let rest = drop (n + 1) cs in
    let at : pieces cs ≡ take n cs ∷ pieces rest = rw is (slice_split_first is_blank cs 0 (omega arith)) in
    let blank : is_blank (get_or cs n 0) ≡ true = rw is (passes_at_first is_blank cs 0 (omega arith)) in
    let left : words (drop n cs) ≡ words rest = at_drop_more words cs n 0 h ∙ ap non_empty (slice_split-cons_yes is_blank (get_or cs n 0) rest blank) in
    ap non_empty at ∙ some_first (take n cs) (pieces rest) (omega (arith, length-take n cs)) ∙ sym (ap (λ ws. take n cs ∷ ws) left))
    (λ (h : length cs ≤ n).
    let none : pieces cs ≡ cs ∷ [] = slice_split_none is_blank cs (λ k d l. fails_before_first is_blank cs k d (omega arith)) in
    let left : words (drop n cs) ≡ [] = at_drop_all words cs n h in
    rw (take_all n cs h, left) (ap non_empty none ∙ some_first cs [] some))
    (cases_lt n (length cs))

-- a text that begins with a word
pub words_first : (cs word rest : List ℕ) (n : ℕ) → 0 < length cs → (get_or cs 0 0 ≡ 0x20 → ⊥)
    → n ≡ prefix_len in_word cs → word ≡ take n cs → rest ≡ drop n cs → words cs ≡ word ∷ words rest
words_first cs word rest n some dark len front back =
    let first = prefix_len-drop_yes in_word cs 0 0 some (ap not (ne_eqb (get_or cs 0 0) 0x20 dark)) in
    let p = words_parted cs n len (omega (arith, first)) some in
    cc

-- the blanks that lead a text
abbrev lead : List ℕ → ℕ
lead cs = position_or_len in_word cs

abbrev lead_by : Bool → ℕ → ℕ
lead_by b n = cond (not (not b)) (1 + n) 0

led_by : (c : ℕ) (cs : List ℕ) (b : Bool) → is_blank c ≡ b → words (drop (lead cs) cs) ≡ words cs → words (drop (lead_by b (lead cs)) (c ∷ cs)) ≡ words (c ∷ cs)
led_by c cs true e ih = rw (e, one-add) ih
led_by c cs false e ih = refl

led : (cs : List ℕ) → words (drop (lead cs) cs) ≡ words cs
led [] = refl
led (c ∷ cs) = led_by c cs (is_blank c) refl (led cs)

dark_led : (cs : List ℕ) → lead cs < length cs → get_or (drop (lead cs) cs) 0 0 ≡ 0x20 → ⊥
dark_led cs within dark =
    let here : in_word (get_or (drop (lead cs) cs) 0 0) ≡ true = at_drop_more (λ xs. in_word (get_or xs 0 0)) cs (lead cs) 0 within ∙ passes_at_first in_word cs 0 within in
    both_ways (is_blank (get_or (drop (lead cs) cs) 0 0)) (not-true _ here) (ap is_blank dark)

pub no_words : (cs : List ℕ) → None ≡ position in_word cs → words cs ≡ []
no_words cs e =
    let past : length cs ≤ lead cs = grind (arith, nat_tests) in
    sym (led cs) ∙ at_drop_all words cs (lead cs) past

pub words_led : (cs rest word after : List ℕ) (start n : ℕ) → Some start ≡ position in_word cs → rest ≡ drop start cs
    → n ≡ prefix_len in_word rest → word ≡ take n rest → after ≡ drop n rest → words cs ≡ word ∷ words after
words_led cs rest word after start n found left len front back =
    let within : lead cs < length cs = grind (arith, nat_tests) in
    let here : start ≡ lead cs = grind (arith, nat_tests) in
    let same : rest ≡ drop (lead cs) cs = left ∙ ap (λ k. drop k cs) here in
    let dark : get_or rest 0 0 ≡ 0x20 → ⊥ = rw same (dark_led cs within) in
    let some : 0 < length rest = rw same (omega (arith, length-drop (lead cs) cs)) in
    sym (led cs) ∙ sym (ap words same) ∙ words_first rest word after n some dark len front back
