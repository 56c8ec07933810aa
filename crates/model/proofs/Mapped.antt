-- Blocks on the pages of a memory: how many there are, what each of them is, and that the good ones are whole.
use Rattle.std.proofs.Common.{◌≡◌, ℕ, ◌+◌, ◌*◌, ◌<◌, ◌≤◌, true, false, List, length, take, drop, get_or, sym, subst, ⊎_elim, arith}
use Rattle.std.specs.List.{AllByRecursion}
use Rattle.std.proofs.ByRecursion.{All-from_get_or}
use Rattle.std.proofs.lemmas.Bool.{cases_Bool}
use Rattle.std.proofs.lemmas.List.{length-take, length-drop}
use Rattle.std.proofs.lemmas.List.FromFn.{length-map-range_with_len, get_or-map-range_with_len}
use Rattle.model.specs.declared.layout.BadRun.{BadRun}
use Rattle.model.specs.Blocks.{Block, bad, Whole, is_bad, block_on, mapped_blocks}

pub length_part : (a w : ℕ) (xs : List ℕ) → a + w ≤ length xs → length (take w (drop a xs)) ≡ w
length_part a w xs h = simp (length-take, length-drop) (omega arith)

whole_on : (mem : List ℕ) (runs : List BadRun) (b p : ℕ) → 512 * p + 512 ≤ length mem → Whole (block_on mem runs b p)
whole_on mem runs b p h =
    ⊎_elim
    (λ (e : is_bad runs b ≡ true). rw e tt)
    (λ (e : is_bad runs b ≡ false). rw e (length_part (512 * p) 512 mem h))
    (cases_Bool (is_bad runs b))

module _ (mem : List ℕ) (runs : List BadRun) (at : ℕ → ℕ) (n : ℕ) where
  pub length_mapped : length (mapped_blocks mem runs at n) ≡ n
  length_mapped = length-map-range_with_len (λ b. block_on mem runs b (at b)) 0 n

  pub block_mapped : (b : ℕ) (d : Block) → b < n → get_or (mapped_blocks mem runs at n) b d ≡ block_on mem runs b (at b)
  block_mapped b d h = get_or-map-range_with_len (λ k. block_on mem runs k (at k)) 0 n b b d h (omega arith)

  pub whole_mapped : ((b : ℕ) → b < n → 512 * at b + 512 ≤ length mem) → AllByRecursion Whole (mapped_blocks mem runs at n)
  whole_mapped room =
      All-from_get_or Whole (mapped_blocks mem runs at n) bad
      (λ b i. let h : b < n = subst (λ (x : ℕ). b < x) length_mapped i in
      subst (λ (x : Block). Whole x) (sym (block_mapped b bad h)) (whole_on mem runs b (at b) (room b h)))
