-- A sum of differences that is 0 exactly where nothing differs.
use Rattle.std.proofs.Common.{◌≡◌, ℕ, ◌≤◌, eqb, List, [], ◌∷◌, length, take, Decides, sym, refl, ap, ◌∙◌, arith}
use Rattle.std.specs.List.{fold, zip}
use lib.Bits.{bit_or, bit_xor, or_add_and, xor_add_and, and_le_l, and_le_r, xor_self, or_zero_l}
use Rattle.std.specs.Str.{bytes_eq}
use Rattle.std.proofs.lemmas.Slice.Eq.{bytes_eq-Decides}
use Rattle.std.proofs.lemmas.List.{length-take}
use Rattle.std.proofs.lemmas.Bool.{eqb-true, eq-eqb}
use Rattle.std.proofs.lemmas.Bool.Decides.{same_from_decides}

xor_zero : (a b : ℕ) → bit_xor a b ≡ 0 → a ≡ b
xor_zero a b e = omega (arith, xor_add_and a b, and_le_l a b, and_le_r a b)

xor_same : (a b : ℕ) → a ≡ b → bit_xor a b ≡ 0
xor_same a b e = ap (bit_xor a) (sym e) ∙ xor_self a

or_left_zero : (a b : ℕ) → bit_or a b ≡ 0 → a ≡ 0
or_left_zero a b e = omega (arith, or_add_and a b, and_le_l a b, and_le_r a b)

or_right_zero : (a b : ℕ) → bit_or a b ≡ 0 → b ≡ 0
or_right_zero a b e = omega (arith, or_add_and a b, and_le_l a b, and_le_r a b)

or_zeros : (a b : ℕ) → a ≡ 0 → b ≡ 0 → bit_or a b ≡ 0
or_zeros a b p q = ap (λ x. bit_or x b) p ∙ or_zero_l b ∙ q

abbrev gathered : ℕ → List ℕ → List ℕ → ℕ
gathered d ys xs = fold (λ (d : ℕ) (p : ℕ × ℕ). bit_or d (bit_xor p.0 p.1)) d (zip ys xs)

none_differs : (ys xs : List ℕ) (d : ℕ) → length ys ≤ length xs → gathered d ys xs ≡ 0 → (d ≡ 0) × (take (length ys) xs ≡ ys)
none_differs [] xs d h e = (e, refl)
none_differs (y ∷ ys) [] d h e = absurd (omega arith)
none_differs (y ∷ ys) (x ∷ xs) d h e =
    let rest = none_differs ys xs (bit_or d (bit_xor y x)) (omega arith) e in
    let same : y ≡ x = xor_zero y x (or_right_zero d (bit_xor y x) rest.0) in
    (or_left_zero d (bit_xor y x) rest.0, ap (λ z. z ∷ take (length ys) xs) (sym same) ∙ ap (λ zs. y ∷ zs) rest.1)

all_same : (ys xs : List ℕ) (d : ℕ) → length ys ≤ length xs → d ≡ 0 → take (length ys) xs ≡ ys → gathered d ys xs ≡ 0
all_same [] xs d h z e = z
all_same (y ∷ ys) [] d h z e = absurd (omega arith)
all_same (y ∷ ys) (x ∷ xs) d h z e =
    let here : y ≡ x = cc in
    let rest : take (length ys) xs ≡ ys = cc in
    all_same ys xs (bit_or d (bit_xor y x)) (omega arith) (or_zeros d (bit_xor y x) z (xor_same y x here)) rest

-- the sum over a candidate, begun with the difference of the lengths
pub compared : (stored : List ℕ) (n : ℕ) (cand : List ℕ) (d : ℕ) → length cand ≤ length stored → n ≤ length stored → d ≡ gathered (bit_xor n (length cand)) cand stored
    → eqb d 0 ≡ bytes_eq (take n stored) cand
compared stored n cand d short low is =
    let decides : Decides (eqb d 0) (take n stored ≡ cand) = (
      λ e. (
          let p = none_differs cand stored (bit_xor n (length cand)) short (sym is ∙ eqb-true d 0 e) in
          ap (λ k. take k stored) (xor_zero n (length cand) p.0) ∙ p.1
          ),
      λ e. (
          let l : n ≡ length cand = (let q : length (take n stored) ≡ length cand = ap length e in omega (arith, length-take n stored)) in
          eq-eqb d 0 (is ∙ all_same cand stored (bit_xor n (length cand)) short (xor_same n (length cand) l) (ap (λ k. take k stored) (sym l) ∙ e))
          ),
    ) in
    same_from_decides (eqb d 0) (bytes_eq (take n stored) cand) decides (bytes_eq-Decides (take n stored) cand)
