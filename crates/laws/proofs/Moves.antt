-- Blocks that are written one after another: which change, and how they read afterwards.
use Rattle.std.proofs.Common.{◌≡◌, ℕ, zero, suc, ◌+◌, ◌*◌, ◌<◌, ◌≤◌, true, ◌⊎◌, List, [], ◌++◌, length, get_or, take, drop, set, sym, refl, ap, ◌∙◌, subst, inl, inr, ⊎_elim, arith, take-add}
use Rattle.std.proofs.lemmas.List.{length-set, length-take-le, length-drop, get_or-set_same, get_or-set_other, get_or_past}
use Rattle.std.proofs.lemmas.Bool.{cases_eq, cases_lt, cond_both, cond-true}
use Rattle.std.proofs.lemmas.Bool.Decides.{nat_tests}
use Rattle.model.specs.Blocks.{Block, bad, good, reaches, bytes_or, replaced, written}
use Rattle.model.specs.Commands.{one_more, good_run, bytes_from, stored}

good_not_bad : (x : Block) (p : List ℕ) → x ≡ good p → x ≡ bad → ⊥
good_not_bad x p e q = let z : ◌≡◌ {A = ℕ} 0 1 = cc in omega arith

-- one block
module _ (m : List Block) (b : ℕ) (bs : List ℕ) where
  pub length_written : length (written m b bs) ≡ length m
  length_written =
      cond_both (reaches m b (length bs)) (set m b (replaced (get_or m b bad) bs)) m (λ x. length x ≡ length m)
      (λ _. length-set m b (replaced (get_or m b bad) bs)) (λ _. refl)

  pub written_other : (c : ℕ) → (c ≡ b → ⊥) → get_or (written m b bs) c bad ≡ get_or m c bad
  written_other c ne =
      cond_both (reaches m b (length bs)) (set m b (replaced (get_or m b bad) bs)) m (λ x. get_or x c bad ≡ get_or m c bad)
      (λ _. get_or-set_other m b c (replaced (get_or m b bad) bs) bad ne) (λ _. refl)

  -- what is good stays good
  replaced_more : (x : Block) (k : ℕ) → one_more (replaced x bs) k ≡ one_more x k
  replaced_more bad k = refl
  replaced_more (good old) k = refl

  inside : reaches m b (length bs) ≡ true → b < length m
  inside e = grind (arith, nat_tests)

  same_more : (k : ℕ) → one_more (get_or (written m b bs) b bad) k ≡ one_more (get_or m b bad) k
  same_more k =
      cond_both (reaches m b (length bs)) (set m b (replaced (get_or m b bad) bs)) m (λ x. one_more (get_or x b bad) k ≡ one_more (get_or m b bad) k)
      (λ e. ap (λ x. one_more x k) (get_or-set_same m b (replaced (get_or m b bad) bs) bad (inside e)) ∙ replaced_more (get_or m b bad) k) (λ _. refl)

  pub written_more : (c k : ℕ) → one_more (get_or (written m b bs) c bad) k ≡ one_more (get_or m c bad) k
  written_more c k =
      ⊎_elim
      (λ (e : c ≡ b). subst (λ (x : ℕ). one_more (get_or (written m b bs) x bad) k ≡ one_more (get_or m x bad) k) (sym e) (same_more k))
      (λ (ne : c ≡ b → ⊥). ap (λ x. one_more x k) (written_other c ne))
      (cases_eq c b)

  pub written_run : (n c : ℕ) → good_run n c (written m b bs) ≡ good_run n c m
  written_run zero c = refl
  written_run (suc n) c = written_more c (good_run n (suc c) (written m b bs)) ∙ ap (one_more (get_or m c bad)) (written_run n (suc c))

  -- a good block has the bytes that were written
  reaching : b < length m → length bs ≡ 512 → reaches m b (length bs) ≡ true
  reaching h l = grind (arith, nat_tests)

  pub written_here : (old : List ℕ) → get_or m b bad ≡ good old → length bs ≡ 512 → get_or (written m b bs) b bad ≡ good bs
  written_here old is l =
      let h : b < length m = ⊎_elim (λ (lt : b < length m). lt) (λ (le : length m ≤ b). absurd (good_not_bad (get_or m b bad) old is (get_or_past m b bad le))) (cases_lt b (length m)) in
      ap (λ x. get_or x b bad) (cond-true (reaches m b (length bs)) (set m b (replaced (get_or m b bad) bs)) m (reaching h l))
      ∙ get_or-set_same m b (replaced (get_or m b bad) bs) bad h
      ∙ ap (λ x. replaced x bs) is

-- several
pub length_stored : (n b : ℕ) (ds : List ℕ) (m : List Block) → length (stored n b ds m) ≡ length m
length_stored zero b ds m = refl
length_stored (suc n) b ds m = length_stored n (suc b) (drop 512 ds) (written m b (take 512 ds)) ∙ length_written m b (take 512 ds)

pub stored_other : (n b : ℕ) (ds : List ℕ) (m : List Block) (c : ℕ) → (c < b) ⊎ (b + n ≤ c) → get_or (stored n b ds m) c bad ≡ get_or m c bad
stored_other zero b ds m c out = refl
stored_other (suc n) b ds m c out =
    stored_other n (suc b) (drop 512 ds) (written m b (take 512 ds)) c
    (⊎_elim (λ (h : c < b). inl (omega arith)) (λ (h : b + suc n ≤ c). inr (omega arith)) out)
    ∙ written_other m b (take 512 ds) c (λ e. ⊎_elim (λ (h : c < b). omega arith) (λ (h : b + suc n ≤ c). omega arith) out)

pub stored_run : (n b : ℕ) (ds : List ℕ) (m : List Block) (k c : ℕ) → good_run k c (stored n b ds m) ≡ good_run k c m
stored_run zero b ds m k c = refl
stored_run (suc n) b ds m k c = stored_run n (suc b) (drop 512 ds) (written m b (take 512 ds)) k c ∙ written_run m b (take 512 ds) k c

-- a run is no longer than it was looked for
one_more_le : (x : Block) (k n : ℕ) → k ≤ n → one_more x k ≤ suc n
one_more_le bad k n h = omega arith
one_more_le (good bs) k n h = omega arith

pub run_le : (n b : ℕ) (m : List Block) → good_run n b m ≤ n
run_le zero b m = omega arith
run_le (suc n) b m = one_more_le (get_or m b bad) (good_run n (suc b) m) n (run_le n (suc b) m)

-- a run of good blocks begins with a good one
data Run (n b : ℕ) (m : List Block) : Type 0 where
  run : (old : List ℕ) → get_or m b bad ≡ good old → good_run n (suc b) m ≡ n → Run n b m

run_from : (n b : ℕ) (m : List Block) (x : Block) → get_or m b bad ≡ x → one_more x (good_run n (suc b) m) ≡ suc n → Run n b m
run_from n b m bad is e = absurd (omega arith)
run_from n b m (good old) is e = run old is (omega arith)

run_rest : (n b : ℕ) (m : List Block) → Run n b m → good_run n (suc b) m ≡ n
run_rest n b m (run old is e) = e

stored_first : (n b : ℕ) (ds : List ℕ) (m : List Block) → Run n b m → 512 ≤ length ds
    → bytes_or (get_or (stored n (suc b) (drop 512 ds) (written m b (take 512 ds))) b bad) [] ≡ take 512 ds
stored_first n b ds m (run old is e) h =
    ap (λ x. bytes_or x [])
    (stored_other n (suc b) (drop 512 ds) (written m b (take 512 ds)) b (inl (omega arith)) ∙ written_here m b (take 512 ds) old is (length-take-le 512 ds h))

-- what was written is read
pub stored_bytes : (n b : ℕ) (ds : List ℕ) (m : List Block) → good_run n b m ≡ n → 512 * n ≤ length ds → bytes_from n b (stored n b ds m) ≡ take (512 * n) ds
stored_bytes zero b ds m e h = refl
stored_bytes (suc n) b ds m e h =
    let m' = written m b (take 512 ds) in
    let r : Run n b m = run_from n b m (get_or m b bad) refl e in
    let l : 512 * n ≤ length (drop 512 ds) = simp length-drop (omega arith) in
    let k : 512 + 512 * n ≡ 512 * suc n = omega arith in
    ap (λ (x : List ℕ). x ++ bytes_from n (suc b) (stored n (suc b) (drop 512 ds) m')) (stored_first n b ds m r (omega arith))
    ∙ ap (λ (x : List ℕ). take 512 ds ++ x) (stored_bytes n (suc b) (drop 512 ds) m' (written_run m b (take 512 ds) n (suc b) ∙ run_rest n b m r) l)
    ∙ sym (take-add 512 (512 * n) ds)
    ∙ ap (λ (x : ℕ). take x ds) k
