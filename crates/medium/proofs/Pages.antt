-- Pages of 512 bytes in a memory, and a write to one of them.
use Rattle.std.proofs.Common.{◌≡◌, ℕ, ◌+◌, ◌-◌, ◌*◌, ◌<◌, ◌≤◌, List, ◌++◌, length, take, drop, sym, ap, ◌∙◌, subst, ⊎_elim, arith}
use borrow.Rule.Slice.PartMut.{put_mid}
use Rattle.std.proofs.lemmas.List.{drop-take, drop-drop}
use Rattle.std.proofs.lemmas.Slice.{between-put_mid, drop-put_mid, take-put_mid_below}
use Rattle.std.proofs.lemmas.Bool.{cases_lt, cond-true, and_from, eq-eqb, le-leb}
use Rattle.model.specs.Blocks.{page}
use Rattle.medium.specs.Stored.{with_page, repaged}

-- a write to the part of w elements from a on, seen at that part and at another
part_same : (a w : ℕ) (xs ys : List ℕ) → a + w ≤ length xs → length ys ≡ w → take w (drop a (put_mid a w xs ys)) ≡ ys
part_same a w xs ys h l =
    let k : a + w - a ≡ w = omega arith in
    subst (λ (n : ℕ). take n (drop a (put_mid a w xs ys)) ≡ ys) k (between-put_mid a w xs ys (a + w) (omega arith) (l ∙ sym k))

part_above : (a w n v : ℕ) (xs ys : List ℕ) → a + w ≤ n → a ≤ length xs → length ys ≡ w → take v (drop n (put_mid a w xs ys)) ≡ take v (drop n xs)
part_above a w n v xs ys h i l = ap (take v) (drop-put_mid a w xs ys n h i l)

part_below : (a w n v : ℕ) (xs ys : List ℕ) → n + v ≤ a → a ≤ length xs → take v (drop n (put_mid a w xs ys)) ≡ take v (drop n xs)
part_below a w n v xs ys h i =
    sym (drop-take n v (put_mid a w xs ys)) ∙ ap (drop n) (take-put_mid_below a w xs ys (n + v) h i) ∙ drop-take n v xs

-- the memory after a write to a page, as the part that was put
pub put_page : (mem bs : List ℕ) (p : ℕ) → put_mid (512 * p) 512 mem bs ≡ with_page mem p bs
put_page mem bs p = ap (λ t. take (512 * p) mem ++ (bs ++ t)) (drop-drop 512 (512 * p) mem)

-- a write to page p
module _ (mem bs : List ℕ) (p : ℕ) (room : 512 * p + 512 ≤ length mem) (l : length bs ≡ 512) where
  pub page_same : page (with_page mem p bs) p ≡ bs
  page_same = ap (λ m. page m p) (sym (put_page mem bs p)) ∙ part_same (512 * p) 512 mem bs room l

  pub repaged_whole : repaged mem p bs ≡ with_page mem p bs
  repaged_whole = cond-true _ _ _ (and_from _ _ (eq-eqb (length bs) 512 l) (le-leb (512 * p + 512) (length mem) room))

  pub page_other : (k : ℕ) → (k ≡ p → ⊥) → page (with_page mem p bs) k ≡ page mem k
  page_other k ne =
      ap (λ m. page m k) (sym (put_page mem bs p))
      ∙ ⊎_elim
      (λ (lt : k < p). part_below (512 * p) 512 (512 * k) 512 mem bs (omega arith) (omega arith))
      (λ (le : p ≤ k). part_above (512 * p) 512 (512 * k) 512 mem bs (omega arith) (omega arith) l)
      (cases_lt k p)
