-- Places read one by one.
use Rattle.std.proofs.Common.{◌≡◌, ℕ, zero, suc, ◌<◌, List, ◌∷◌, map, take, drop, refl, ap, ◌∙◌, arith}
use Rattle.std.proofs.lemmas.List.{get_or-take}
use Rattle.std.specs.Simd.{first_chunks}
use Rattle.model.specs.Bytes.{le32}
use Rattle.model.specs.Layouts.{place, pairs}
use Rattle.model.specs.declared.layout.Place.{Place}

-- the place in 8 bytes
abbrev pub place_in : List ℕ → Place
place_in bs = place (le32 bs 0) (le32 bs 4)

-- the first 8 bytes tell the first place
first_place : (bs : List ℕ) → place_in (take 8 bs) ≡ place_in bs
first_place bs =
    let at = λ (i : ℕ) (h : i < 8). get_or-take 8 bs i 0 h in
    let a = at 0 (omega arith) in
    let b = at 1 (omega arith) in
    let c = at 2 (omega arith) in
    let d = at 3 (omega arith) in
    let e = at 4 (omega arith) in
    let f = at 5 (omega arith) in
    let g = at 6 (omega arith) in
    let h = at 7 (omega arith) in
    cc

-- the chunks of 8 bytes, read as places
pub pairs_in_chunks : (n : ℕ) (bs : List ℕ) → map place_in (first_chunks 8 n bs) ≡ pairs n bs
pairs_in_chunks zero bs = refl
pairs_in_chunks (suc n) bs = ap (λ p. p ∷ map place_in (first_chunks 8 n (drop 8 bs))) (first_place bs) ∙ ap (λ ps. place_in bs ∷ ps) (pairs_in_chunks n (drop 8 bs))
