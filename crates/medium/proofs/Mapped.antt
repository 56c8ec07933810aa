-- Blocks on the pages of a memory: what they are one by one, which calls they take, and what a write to one page makes of them.
use Rattle.std.proofs.Common.{◌≡◌, ℕ, ◌+◌, ◌*◌, ◌<◌, ◌≤◌, true, false, cond, ◌⊎◌, List, length, get_or, set, Ok, Err, sym, ap, ◌∙◌, subst, inl, inr, ⊎_elim}
use Rattle.std.proofs.lemmas.List.{same_lists, length-set, get_or-set_same, get_or-set_other}
use Rattle.std.proofs.lemmas.Bool.{cases_eq, cases_Bool}
use Rattle.model.specs.declared.layout.BadRun.{BadRun}
use Rattle.model.specs.declared.refusal.Fault.TheVariants.{Outside, Bad}
use Rattle.model.specs.Blocks.{bad, good, block_answer, answer, filled, written, page, is_bad, block_on, mapped_blocks}
use Rattle.model.proofs.Mapped.{length_mapped, block_mapped}
use Rattle.medium.specs.Laws.{GoodAt}
use Rattle.medium.specs.Stored.{with_page}
use Rattle.medium.proofs.Calls.{way, good_not_bad, answer_outside, answer_at, good_from, read_good, write_good}
use Rattle.medium.proofs.Pages.{page_same, page_other}

module _ (mem : List ℕ) (runs : List BadRun) (at : ℕ → ℕ) (n : ℕ) where
  inside : (b : ℕ) → b < n → b < length (mapped_blocks mem runs at n)
  inside b h = subst (λ (x : ℕ). b < x) (sym (length_mapped mem runs at n)) h

  -- the three answers to a call
  pub call_outside : (b l : ℕ) → (n ≤ b) ⊎ ((b < n) × (l ≡ 512 → ⊥)) → Err Outside ≡ answer (mapped_blocks mem runs at n) b l
  call_outside b l h =
      sym (answer_outside (mapped_blocks mem runs at n) b l
      (⊎_elim (λ (le : n ≤ b). inl (subst (λ (x : ℕ). x ≤ b) (sym (length_mapped mem runs at n)) le)) (λ (p : (b < n) × (l ≡ 512 → ⊥)). inr p.1) h))

  pub call_at : (b l : ℕ) → b < n → l ≡ 512 → block_answer (block_on mem runs b (at b)) ≡ answer (mapped_blocks mem runs at n) b l
  call_at b l h e = sym (answer_at (mapped_blocks mem runs at n) b l (inside b h) e ∙ ap block_answer (block_mapped mem runs at n b bad h))

  pub call_bad : (b l : ℕ) → b < n → l ≡ 512 → is_bad runs b ≡ true → Err Bad ≡ answer (mapped_blocks mem runs at n) b l
  call_bad b l h e t = ap (λ x. block_answer (cond x bad (good (page mem (at b))))) (sym t) ∙ call_at b l h e

  pub call_good : (b l : ℕ) → b < n → l ≡ 512 → is_bad runs b ≡ false → Ok tt ≡ answer (mapped_blocks mem runs at n) b l
  call_good b l h e t = ap (λ x. block_answer (cond x bad (good (page mem (at b))))) (sym t) ∙ call_at b l h e

  not_bad : (b : ℕ) (p : List ℕ) → block_on mem runs b (at b) ≡ good p → is_bad runs b ≡ false
  not_bad b p e =
      ⊎_elim
      (λ (t : is_bad runs b ≡ true). absurd (good_not_bad (block_on mem runs b (at b)) p e (ap (λ x. cond x bad (good (page mem (at b)))) t)))
      (λ (f : is_bad runs b ≡ false). f)
      (cases_Bool (is_bad runs b))

  -- a call that is accepted
  pub record Accepted (b l : ℕ) : Type 0 where
    pub within : b < n
    pub size : l ≡ 512
    pub fine : is_bad runs b ≡ false

  pub accepted : (b l : ℕ) → Ok tt ≡ answer (mapped_blocks mem runs at n) b l → Accepted b l
  accepted b l ok =
      let m = mapped_blocks mem runs at n in
      let g = good_from m b l (way m b l) (sym ok) in
      let h : b < n = subst (λ (x : ℕ). b < x) (length_mapped mem runs at n) g.1.1.0 in
      record { within = h; size = g.0; fine = not_bad b g.1.0 (sym (block_mapped mem runs at n b bad h) ∙ g.1.1.1) }

  good_at : (b : ℕ) → b < n → is_bad runs b ≡ false → GoodAt (mapped_blocks mem runs at n) b (page mem (at b))
  good_at b h f = (inside b h, block_mapped mem runs at n b bad h ∙ ap (λ x. cond x bad (good (page mem (at b)))) f)

  pub read_mapped : (b : ℕ) (buf : List ℕ) → Ok tt ≡ answer (mapped_blocks mem runs at n) b (length buf) → page mem (at b) ≡ filled (mapped_blocks mem runs at n) b buf
  read_mapped b buf ok =
      let a = accepted b (length buf) ok in
      sym (read_good (mapped_blocks mem runs at n) b (page mem (at b)) buf (good_at b a.within a.fine) a.size).1

  written_mapped : (b : ℕ) (bs : List ℕ) → Ok tt ≡ answer (mapped_blocks mem runs at n) b (length bs)
      → set (mapped_blocks mem runs at n) b (good bs) ≡ written (mapped_blocks mem runs at n) b bs
  written_mapped b bs ok =
      let a = accepted b (length bs) ok in
      sym (write_good (mapped_blocks mem runs at n) b (page mem (at b)) bs (good_at b a.within a.fine) a.size)

-- the bytes of a block go to page p, which no other block is on, and the other blocks stay on their pages
pub write_mapped : (mem : List ℕ) (runs : List BadRun) (at at' : ℕ → ℕ) (n b p : ℕ) (bs : List ℕ)
    → Ok tt ≡ answer (mapped_blocks mem runs at n) b (length bs)
    → 512 * p + 512 ≤ length mem
    → at' b ≡ p
    → ((k : ℕ) → k < n → (k ≡ b → ⊥) → (at' k ≡ at k) × (at k ≡ p → ⊥))
    → mapped_blocks (with_page mem p bs) runs at' n ≡ written (mapped_blocks mem runs at n) b bs
write_mapped mem runs at at' n b p bs ok room here there =
    let a = accepted mem runs at n b (length bs) ok in
    let mem' = with_page mem p bs in
    let m = mapped_blocks mem runs at n in
    let i : b < length m = inside mem runs at n b a.within in
    same_lists _ _
    (length_mapped mem' runs at' n ∙ sym (length-set m b (good bs) ∙ length_mapped mem runs at n))
    (λ k d j.
    let lt : k < n = subst (λ (x : ℕ). k < x) (length_mapped mem' runs at' n) j in
    block_mapped mem' runs at' n k d lt ∙
    ⊎_elim
    (λ (e : k ≡ b).
    ap (λ x. block_on mem' runs x (at' x)) e
    ∙ ap (λ t. cond t bad (good (page mem' (at' b)))) a.fine
    ∙ ap (λ x. good (page mem' x)) here
    ∙ ap good (page_same mem bs p room a.size)
    ∙ sym (get_or-set_same m b (good bs) d i)
    ∙ ap (λ x. get_or (set m b (good bs)) x d) (sym e))
    (λ (ne : k ≡ b → ⊥).
    let o = there k lt ne in
    ap (λ x. block_on mem' runs k x) o.0
    ∙ ap (λ x. cond (is_bad runs k) bad (good x)) (page_other mem bs p room a.size (at k) o.1)
    ∙ sym (block_mapped mem runs at n k d lt)
    ∙ sym (get_or-set_other m b k (good bs) d ne))
    (cases_eq k b))
    ∙ written_mapped mem runs at n b bs ok

-- maps that agree below n put the blocks on the same pages
pub mapped_same : (mem : List ℕ) (runs : List BadRun) (at at' : ℕ → ℕ) (n : ℕ) → ((k : ℕ) → k < n → at k ≡ at' k) → mapped_blocks mem runs at n ≡ mapped_blocks mem runs at' n
mapped_same mem runs at at' n same =
    same_lists _ _
    (length_mapped mem runs at n ∙ sym (length_mapped mem runs at' n))
    (λ k d j.
    let lt : k < n = subst (λ (x : ℕ). k < x) (length_mapped mem runs at n) j in
    block_mapped mem runs at n k d lt ∙ ap (block_on mem runs k) (same k lt) ∙ sym (block_mapped mem runs at' n k d lt))
