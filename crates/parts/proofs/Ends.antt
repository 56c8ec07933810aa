-- Parts cut one behind the other, and where they end.
use Rattle.std.proofs.Common.{◌≡◌, ℕ, zero, suc, ◌+◌, ◌-◌, ◌<◌, ◌≤◌, Bool, true, false, cond, ◌&&◌, eqb, List, [], ◌∷◌, length, get_or, take, Some, None, sym, refl, ap, ◌∙◌, arith}
use Rattle.std.specs.Bool.{then_some}
use Rattle.std.specs.List.{AllByRecursion}
use Rattle.model.specs.Bytes.{byte}
use Rattle.model.specs.Extents.{sound}
use Rattle.model.specs.Parts.{part, part_start, part_length, cut_parts, parts_end, parts_fill}
use Rattle.model.specs.declared.part.Part.{Part}

-- by the last of them
pub last_end : (at : ℕ) (ps : List Part) (d : Part) → 0 < length ps
    → parts_end at ps ≡ part_start (get_or ps (length ps - 1) d) + part_length (get_or ps (length ps - 1) d)
last_end at [] d h = absurd (omega arith)
last_end at (p ∷ []) d h = refl
last_end at (p ∷ q ∷ ps) d h =
    let here : suc (length ps) - 1 ≡ length ps = omega arith in
    let next : suc (suc (length ps)) - 1 ≡ suc (length ps) = omega arith in
    let step : get_or (q ∷ ps) (suc (length ps) - 1) d ≡ get_or (p ∷ q ∷ ps) (suc (suc (length ps)) - 1) d =
    ap (λ n. get_or (q ∷ ps) n d) here ∙ sym (ap (λ n. get_or (p ∷ q ∷ ps) n d) next) in
    last_end (p.start + p.length) (q ∷ ps) d (omega arith) ∙ ap (λ (x : Part). part_start x + part_length x) step

-- no later than the latest of them, and so the first n
pub ends_within : (b at n : ℕ) (ps : List Part) → at ≤ b → AllByRecursion (λ p. p.start + p.length ≤ b) ps → parts_end at (take n ps) ≤ b
ends_within b at zero ps h all = h
ends_within b at (suc n) [] h all = h
ends_within b at (suc n) (p ∷ ps) h (here, all) = ends_within b (p.start + p.length) n ps here all

-- the first n of m are n
take_cut : (n m at : ℕ) (ds : List ℕ) → n ≤ m → take n (cut_parts m at ds) ≡ cut_parts n at ds
take_cut zero m at ds h = refl
take_cut (suc n) zero at ds h = absurd (omega arith)
take_cut (suc n) (suc m) at ds h = ap (λ ps. part at (byte ds at) ∷ ps) (take_cut n m (at + byte ds at) ds (omega arith))

then_some_is : (b : Bool) (ps : List Part) → then_some b ps ≡ cond b (Some ps) None
then_some_is true ps = refl
then_some_is false ps = refl

-- the test of the first n of m parts tells whether n parts fill the data
pub fill_told : (n m : ℕ) (ds : List ℕ) (ps : List Part) (b : Bool) → n ≤ m → ps ≡ cut_parts m 0 ds
    → b ≡ (sound part_start part_length 0 (length ds) (take n ps) && eqb (parts_end 0 (take n ps)) (length ds))
    → then_some b ps ≡ cond (parts_fill n ds) (Some (cut_parts m 0 ds)) None
fill_told n m ds ps b h cut told =
    let first : take n ps ≡ cut_parts n 0 ds = ap (take n) cut ∙ take_cut n m 0 ds h in
    ap (λ t. then_some t ps) (told ∙ ap (λ qs. sound part_start part_length 0 (length ds) qs && eqb (parts_end 0 qs) (length ds)) first)
    ∙ then_some_is (parts_fill n ds) ps
    ∙ ap (λ qs. cond (parts_fill n ds) (Some qs) None) cut
