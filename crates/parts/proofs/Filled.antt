-- What data carry, once their parts are known to fill them.
use Rattle.std.proofs.Common.{◌≡◌, ℕ, Bool, true, false, cond, List, get_or, Some, None, sym, refl, ap, ◌∙◌, arith}
use Rattle.model.specs.Parts.{part, cut_parts, parts_fill, part_bytes, nth_part, phrase_in, hint_in, secret_of, change_of, secret_in, change_in}
use Rattle.model.specs.declared.part.Part.{Part}

-- parts were found, so the test was passed
passed : (b : Bool) (ps qs : List Part) → Some ps ≡ cond b (Some qs) None → (b ≡ true) × (ps ≡ qs)
passed true ps qs e = (refl, cc)
passed false ps qs e = let z : ◌≡◌ {A = ℕ} 0 1 = cc in absurd (omega arith)

-- the bytes of part k of n, out of m that were cut
nth_is : (k m n : ℕ) (ds bs : List ℕ) (ps : List Part) → ps ≡ cut_parts m 0 ds → bs ≡ part_bytes ds (get_or ps k (part 0 0))
    → get_or (cut_parts m 0 ds) k (part 0 0) ≡ get_or (cut_parts n 0 ds) k (part 0 0) → bs ≡ nth_part n k ds
nth_is k m n ds bs ps cut is same = is ∙ ap (λ qs. part_bytes ds (get_or qs k (part 0 0))) cut ∙ ap (part_bytes ds) same

pub secret_filled : (ds p h : List ℕ) (ps : List Part) → Some ps ≡ cond (parts_fill 2 ds) (Some (cut_parts 3 0 ds)) None
    → p ≡ part_bytes ds (get_or ps 0 (part 0 0)) → h ≡ part_bytes ds (get_or ps 1 (part 0 0)) → secret_of (phrase_in p) (hint_in h) ≡ secret_in ds
secret_filled ds p h ps fills ep eh =
    let f = passed (parts_fill 2 ds) ps (cut_parts 3 0 ds) fills in
    let carries = secret_of (phrase_in (nth_part 2 0 ds)) (hint_in (nth_part 2 1 ds)) in
    ap (λ x. secret_of (phrase_in x) (hint_in h)) (nth_is 0 3 2 ds p ps f.1 ep refl)
    ∙ ap (λ x. secret_of (phrase_in (nth_part 2 0 ds)) (hint_in x)) (nth_is 1 3 2 ds h ps f.1 eh refl)
    ∙ sym (ap (λ t. cond t carries None) f.0)

pub change_filled : (ds c p h : List ℕ) (ps : List Part) → Some ps ≡ cond (parts_fill 3 ds) (Some (cut_parts 3 0 ds)) None
    → c ≡ part_bytes ds (get_or ps 0 (part 0 0)) → p ≡ part_bytes ds (get_or ps 1 (part 0 0)) → h ≡ part_bytes ds (get_or ps 2 (part 0 0))
    → change_of (phrase_in c) (secret_of (phrase_in p) (hint_in h)) ≡ change_in ds
change_filled ds c p h ps fills ec ep eh =
    let f = passed (parts_fill 3 ds) ps (cut_parts 3 0 ds) fills in
    let first = nth_part 3 0 ds in
    let second = nth_part 3 1 ds in
    let carries = change_of (phrase_in first) (secret_of (phrase_in second) (hint_in (nth_part 3 2 ds))) in
    ap (λ x. change_of (phrase_in x) (secret_of (phrase_in p) (hint_in h))) (nth_is 0 3 3 ds c ps f.1 ec refl)
    ∙ ap (λ x. change_of (phrase_in first) (secret_of (phrase_in x) (hint_in h))) (nth_is 1 3 3 ds p ps f.1 ep refl)
    ∙ ap (λ x. change_of (phrase_in first) (secret_of (phrase_in second) (hint_in x))) (nth_is 2 3 3 ds h ps f.1 eh refl)
    ∙ sym (ap (λ t. cond t carries None) f.0)
