-- A text cut at its first mark, and runs read so far.
use Rattle.std.proofs.Common.{◌≡◌, ℕ, ◌+◌, ◌-◌, ◌<◌, ◌≤◌, true, List, [], ◌∷◌, ◌++◌, length, get_or, take, drop, is_some, Some, None, Ok, Err, Option, Result, sym, refl, ap, ◌∙◌, arith, Bor, MatchOption}
use Rattle.std.specs.List.{position, position_or_len}
use Rattle.std.specs.Prelude.{◌==◌}
use Rattle.std.proofs.lemmas.Bool.Decides.{nat_tests}
use Rattle.std.proofs.lemmas.List.{append-nil, at_drop_more, at_drop_all, take_rest}
use Rattle.std.proofs.lemmas.List.Sums.{fails_before_first}
use Rattle.std.proofs.lemmas.List.Splits.{slice_split_none, slice_split_first, length-slice_split}
use Rattle.fields.proofs.Pairs.{behind, behind_more}
use Rattle.model.specs.declared.layout.BadRun.{BadRun}
use Rattle.values.specs.Runs.{pieces, pair_of, pair_said, with_run, pairs_said}
use Rattle.values.specs.declared.error.Mistake.{Mistake}
use Rattle.values.specs.declared.error.Mistake.TheVariants.{MalformedValue}

abbrev first : ℕ → List ℕ → ℕ
first mark cs = position_or_len (λ c. c == mark) cs

-- where no mark stands, the text is the one piece
pub uncut : (mark : ℕ) (cs : List ℕ) → None ≡ position (λ c. c == mark) cs → pieces mark cs ≡ cs ∷ []
uncut mark cs e =
    let past : length cs ≤ first mark cs = grind (arith, nat_tests) in
    slice_split_none (λ c. c == mark) cs (λ k d l. fails_before_first (λ c. c == mark) cs k d (omega arith))

-- the two parts at the first mark, as a slice has them
pub parts : (mark : ℕ) (cs : List ℕ) (i : ℕ) → Some i ≡ position (λ c. c == mark) cs
    → pieces mark cs ≡ take i cs ∷ pieces mark (take (length cs - (i + 1)) (drop (i + 1) cs))
parts mark cs i e =
    let within : first mark cs < length cs = grind (arith, nat_tests) in
    let here : first mark cs ≡ i = grind (arith, nat_tests) in
    slice_split_first (λ c. c == mark) cs 0 within
    ∙ ap (λ n. take n cs ∷ pieces mark (drop (n + 1) cs)) here
    ∙ sym (ap (λ xs. take i cs ∷ pieces mark xs) (take_rest cs (i + 1)))

-- pieces are never none, so a third is one too many
pair_three_of : (s c : List ℕ) (ws : List (List ℕ)) → 0 < length ws → pair_of (s ∷ c ∷ ws) ≡ None
pair_three_of s c [] h = absurd (omega arith)
pair_three_of s c (w ∷ ws) h = refl

pair_three : (mark : ℕ) (s c cs : List ℕ) → pair_of (s ∷ c ∷ pieces mark cs) ≡ None
pair_three mark s c cs = pair_three_of s c (pieces mark cs) (omega (arith, length-slice_split (λ x. x == mark) cs))

-- what `cut` says
abbrev Cuts : ℕ → List ℕ → Option (Bor (List ℕ) × Bor (List ℕ)) → Type 0
Cuts mark cs r = MatchOption r (pieces mark cs ≡ cs ∷ []) (λ p. pieces mark cs ≡ p.0.now ∷ pieces mark p.1.now)

pub pair_three_said : (cs start count : List ℕ) (r : Option (Bor (List ℕ) × Bor (List ℕ))) → pieces 0x3A cs ≡ start ∷ pieces 0x3A count → Cuts 0x3A count r
    → is_some r ≡ true → pair_said cs ≡ None
pair_three_said cs start count None e f h = absurd (let z : ◌≡◌ {A = ℕ} 0 1 = cc in omega arith)
pair_three_said cs start count (Some p) e f h = ap pair_of (e ∙ ap (λ ws. start ∷ ws) f) ∙ pair_three 0x3A start p.0.now p.1.now

-- the piece at n said a run, or none
abbrev pub At : List (List ℕ) → ℕ → List ℕ → Type 0
At ps n piece = (n < length ps) × (piece ≡ get_or ps n piece)

pub behind_pair : (ps : List (List ℕ)) (n : ℕ) (pair : List ℕ) (rs more : List BadRun) (r : BadRun) (due : Result (List BadRun) Mistake)
    → At ps n pair → Some r ≡ pair_said pair → more ≡ rs ++ r ∷ [] → behind rs (pairs_said (drop n ps)) ≡ due → behind more (pairs_said (drop (n + 1) ps)) ≡ due
behind_pair ps n pair rs more r due at said grown inv =
    let rest = pairs_said (drop (n + 1) ps) in
    ap (λ x. behind x rest) grown
    ∙ behind_more (with_run (Some r)) rs r rest (λ ys. refl) (λ m. refl)
    ∙ ap (λ x. behind rs (with_run x rest)) (said ∙ ap pair_said at.1)
    ∙ sym (ap (behind rs) (at_drop_more pairs_said ps n pair at.0))
    ∙ inv

pub behind_stop : (ps : List (List ℕ)) (n : ℕ) (pair : List ℕ) (rs : List BadRun) (due : Result (List BadRun) Mistake)
    → At ps n pair → None ≡ pair_said pair → behind rs (pairs_said (drop n ps)) ≡ due → Err MalformedValue ≡ due
behind_stop ps n pair rs due at said inv =
    let rest = pairs_said (drop (n + 1) ps) in
    ap (λ x. behind rs (with_run x rest)) (said ∙ ap pair_said at.1)
    ∙ sym (ap (behind rs) (at_drop_more pairs_said ps n pair at.0))
    ∙ inv

pub behind_all : (ps : List (List ℕ)) (n : ℕ) (rs : List BadRun) (due : Result (List BadRun) Mistake)
    → n ≡ length ps → behind rs (pairs_said (drop n ps)) ≡ due → Ok rs ≡ due
behind_all ps n rs due end inv =
    sym (ap (behind rs) (at_drop_all pairs_said ps n (omega arith)) ∙ ap Ok (append-nil rs)) ∙ inv
