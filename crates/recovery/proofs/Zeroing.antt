-- Blocks zeroed one after another.
use Rattle.std.proofs.Common.{◌≡◌, ℕ, zero, suc, ◌+◌, ◌-◌, ◌<◌, ◌≤◌, true, false, List, [], ◌∷◌, length, replicate, sym, refl, ap, ◌∙◌, ⊎_elim, arith}
use Rattle.std.proofs.lemmas.Bool.{cases_lt}
use Rattle.std.proofs.lemmas.Bool.Decides.{nat_tests}
use Rattle.model.specs.Blocks.{Block, bad, good, reaches, replaced, written}
use Rattle.model.specs.Recovery.{zeros, zeroed_block, zeroed}
use Rattle.model.proofs.Zeroed.{zeroed_none}

-- the 512 zeros that are written
abbrev pub zs : List ℕ
zs = replicate 512 0

zeroed_one : (b : Block) → replaced b zs ≡ zeroed_block b
unfolding zeros
zeroed_one bad = refl
zeroed_one (good bs) = refl

written_first : (b : Block) (m : List Block) → written (b ∷ m) 0 zs ≡ zeroed_block b ∷ m
written_first b m = let here : reaches (b ∷ m) 0 512 ≡ true = grind (arith, nat_tests) in rw here (ap (λ x. x ∷ m) (zeroed_one b))

-- a write behind the first block
written_behind : (b : Block) (m : List Block) (s : ℕ) → written (b ∷ m) (suc s) zs ≡ b ∷ written m s zs
written_behind b m s =
    ⊎_elim
    (λ (h : s < length m). let here : reaches m s 512 ≡ true = grind (arith, nat_tests) in let there : reaches (b ∷ m) (suc s) 512 ≡ true = grind (arith, nat_tests) in rw (here, there) refl)
    (λ (h : length m ≤ s). let here : reaches m s 512 ≡ false = grind (arith, nat_tests) in let there : reaches (b ∷ m) (suc s) 512 ≡ false = grind (arith, nat_tests) in rw (here, there) refl)
    (cases_lt s (length m))

-- the first of some blocks, then the others
pub zeroed_next : (m : List Block) (s n : ℕ) → zeroed s (suc n) m ≡ zeroed (suc s) n (written m s zs)
zeroed_next [] s n = let no : reaches [] s 512 ≡ false = grind (arith, nat_tests) in rw no refl
zeroed_next (b ∷ m) zero n = ap (zeroed (suc zero) n) (sym (written_first b m))
zeroed_next (b ∷ m) (suc s) n = ap (λ x. b ∷ x) (zeroed_next m s n) ∙ ap (zeroed (suc (suc s)) n) (sym (written_behind b m s))

-- up to block e of the unit at s are still to be zeroed, from block i on
abbrev pub Left : List Block → ℕ → ℕ → ℕ → List Block → Type 0
Left all s i e m = zeroed (s + i) (e - i) m ≡ all

module _ (all : List Block) (s i e : ℕ) (m : List Block) where
  pub one_less : i < e → Left all s i e m → Left all s (i + 1) e (written m (s + i) zs)
  one_less lt is =
      let left : e - i ≡ suc (e - (i + 1)) = omega arith in
      let next : s + (i + 1) ≡ suc (s + i) = omega arith in
      rw next (sym (zeroed_next m (s + i) (e - (i + 1))) ∙ ap (λ n. zeroed (s + i) n m) (sym left) ∙ is)

  pub none_left : e ≤ i → Left all s i e m → m ≡ all
  none_left le is = let none : e - i ≡ 0 = omega arith in sym (zeroed_none (s + i) m) ∙ ap (λ n. zeroed (s + i) n m) (sym none) ∙ is
