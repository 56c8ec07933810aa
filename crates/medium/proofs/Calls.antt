-- The ways out of a call, over any blocks, and the laws that follow.
use Rattle.std.proofs.Common.{◌≡◌, ℕ, ◌<◌, ◌≤◌, true, false, cond, ◌&&◌, eqb, ltb, ◌⊎◌, ◌↔◌, List, length, get_or, set, Ok, Err, Result, sym, refl, ap, ◌∙◌, subst, inl, inr, ⊎_elim, arith}
use Rattle.std.specs.List.{AllByRecursion}
use Rattle.std.proofs.lemmas.List.{length-set, get_or-set_same, get_or-set_other, set-get_or}
use Rattle.std.proofs.ByRecursion.{All-set}
use Rattle.std.proofs.lemmas.Bool.{cases_eq, cases_lt}
use Rattle.std.proofs.lemmas.Bool.Decides.{nat_tests}
use Rattle.model.specs.declared.refusal.Fault.{Fault}
use Rattle.model.specs.declared.refusal.Fault.TheVariants.{Outside, Bad}
use Rattle.model.specs.Blocks.{Block, bad, good, reaches, block_answer, bytes_or, Whole, answer, filled, written}
use Rattle.medium.specs.Laws.{BadAt, GoodAt, MediumLaws}

-- a call with n bytes for block b: past the end or not 512 bytes; a bad block; a good one
pub data Way (m : List Block) (b n : ℕ) : Type 0 where
  outside : reaches m b n ≡ false → (length m ≤ b) ⊎ (n ≡ 512 → ⊥) → Way m b n
  at_bad : reaches m b n ≡ true → b < length m → n ≡ 512 → get_or m b bad ≡ bad → Way m b n
  at_good : (p : List ℕ) → reaches m b n ≡ true → b < length m → n ≡ 512 → get_or m b bad ≡ good p → Way m b n

reaches_true : (m : List Block) (b n : ℕ) → b < length m → n ≡ 512 → reaches m b n ≡ true
reaches_true m b n h e = grind (arith, nat_tests)

reaches_false : (m : List Block) (b n : ℕ) → (length m ≤ b) ⊎ (n ≡ 512 → ⊥) → reaches m b n ≡ false
reaches_false m b n h = grind (arith, nat_tests)

way_at : (m : List Block) (b n : ℕ) → b < length m → n ≡ 512 → (x : Block) → get_or m b bad ≡ x → Way m b n
way_at m b n h e bad is = at_bad (reaches_true m b n h e) h e is
way_at m b n h e (good p) is = at_good p (reaches_true m b n h e) h e is

pub way : (m : List Block) (b n : ℕ) → Way m b n
way m b n =
    ⊎_elim
    (λ (h : b < length m). ⊎_elim
    (λ (e : n ≡ 512). way_at m b n h e (get_or m b bad) refl)
    (λ (ne : n ≡ 512 → ⊥). outside (reaches_false m b n (inr ne)) (inr ne))
    (cases_eq n 512))
    (λ (h : length m ≤ b). outside (reaches_false m b n (inl h)) (inl h))
    (cases_lt b (length m))

-- no call is both accepted and refused
pub never_both : (r : Result (Unit {0}) Fault) (f : Fault) → r ≡ Ok tt → r ≡ Err f → ⊥
never_both r f p q = let z : ◌≡◌ {A = ℕ} 0 1 = cc in omega arith

-- nor refused for both reasons
never_two : (r : Result (Unit {0}) Fault) → r ≡ Err Outside → r ≡ Err Bad → ⊥
never_two r p q = let z : ◌≡◌ {A = ℕ} 0 1 = cc in omega arith

pub good_not_bad : (x : Block) (p : List ℕ) → x ≡ good p → x ≡ bad → ⊥
good_not_bad x p e q = let z : ◌≡◌ {A = ℕ} 0 1 = cc in omega arith

-- What each way answers and leaves.
module _ (m : List Block) (b : ℕ) where
  pub answer_outside : (n : ℕ) → (length m ≤ b) ⊎ (n ≡ 512 → ⊥) → answer m b n ≡ Err Outside
  answer_outside n h = rw (reaches_false m b n h) refl

  pub answer_at : (n : ℕ) → b < length m → n ≡ 512 → answer m b n ≡ block_answer (get_or m b bad)
  answer_at n h e = rw (reaches_true m b n h e) refl

  outside_from : (n : ℕ) → Way m b n → answer m b n ≡ Err Outside → (length m ≤ b) ⊎ (n ≡ 512 → ⊥)
  outside_from n (outside r h) e = h
  outside_from n (at_bad r h l is) e = absurd (never_two (answer m b n) e (rw (r, is) refl))
  outside_from n (at_good p r h l is) e = absurd (never_both (answer m b n) Outside (rw (r, is) refl) e)

  bad_from : (n : ℕ) → Way m b n → answer m b n ≡ Err Bad → BadAt m b × (n ≡ 512)
  bad_from n (outside r h) e = absurd (never_two (answer m b n) (rw r refl) e)
  bad_from n (at_bad r h l is) e = ((h, is), l)
  bad_from n (at_good p r h l is) e = absurd (never_both (answer m b n) Bad (rw (r, is) refl) e)

  pub good_from : (n : ℕ) → Way m b n → answer m b n ≡ Ok tt → (n ≡ 512) × ((p : List ℕ) × GoodAt m b p)
  good_from n (outside r h) e = absurd (never_both (answer m b n) Outside e (rw r refl))
  good_from n (at_bad r h l is) e = absurd (never_both (answer m b n) Bad e (rw (r, is) refl))
  good_from n (at_good p r h l is) e = (l, (p, (h, is)))

  pub read_good : (p buf : List ℕ) → GoodAt m b p → length buf ≡ 512 → (answer m b (length buf) ≡ Ok tt) × (filled m b buf ≡ p)
  read_good p buf (h, is) l = let r = reaches_true m b (length buf) h l in (rw (r, is) refl, rw (r, is) refl)

  pub write_good : (p bs : List ℕ) → GoodAt m b p → length bs ≡ 512 → written m b bs ≡ set m b (good bs)
  write_good p bs (h, is) l = let r = reaches_true m b (length bs) h l in rw (r, is) refl

  read_refused : (buf : List ℕ) (f : Fault) → Way m b (length buf) → answer m b (length buf) ≡ Err f → filled m b buf ≡ buf
  read_refused buf f (outside r h) e = rw r refl
  read_refused buf f (at_bad r h l is) e = rw (r, is) refl
  read_refused buf f (at_good p r h l is) e = absurd (never_both (answer m b (length buf)) f (rw (r, is) refl) e)

  write_refused : (bs : List ℕ) (f : Fault) → Way m b (length bs) → answer m b (length bs) ≡ Err f → written m b bs ≡ m
  write_refused bs f (outside r h) e = rw r refl
  write_refused bs f (at_bad r h l is) e = rw (r, is) (ap (set m b) (sym is) ∙ set-get_or m b bad)
  write_refused bs f (at_good p r h l is) e = absurd (never_both (answer m b (length bs)) f (rw (r, is) refl) e)

  pub refused_read : (buf : List ℕ) (f : Fault) → answer m b (length buf) ≡ Err f → filled m b buf ≡ buf
  refused_read buf f e = read_refused buf f (way m b (length buf)) e

  pub refused_write : (bs : List ℕ) (f : Fault) → answer m b (length bs) ≡ Err f → written m b bs ≡ m
  refused_write bs f e = write_refused bs f (way m b (length bs)) e

-- the blocks after a write: as they were, or with one good block set
data After (m : List Block) (b : ℕ) (bs : List ℕ) : Type 0 where
  as_before : written m b bs ≡ m → After m b bs
  one_set : (p : List ℕ) → length bs ≡ 512 → GoodAt m b p → written m b bs ≡ set m b (good bs) → After m b bs

after_way : (m : List Block) (b : ℕ) (bs : List ℕ) → Way m b (length bs) → After m b bs
after_way m b bs (outside r h) = as_before (refused_write m b bs Outside (rw r refl))
after_way m b bs (at_bad r h l is) = as_before (refused_write m b bs Bad (rw (r, is) refl))
after_way m b bs (at_good p r h l is) = one_set p l (h, is) (write_good m b p bs (h, is) l)

after : (m : List Block) (b : ℕ) (bs : List ℕ) → After m b bs
after m b bs = after_way m b bs (way m b (length bs))

module _ (m : List Block) (b : ℕ) (bs : List ℕ) where
  length_after : After m b bs → length (written m b bs) ≡ length m
  length_after (as_before e) = ap length e
  length_after (one_set p l g e) = ap length e ∙ length-set m b (good bs)

  other_after : After m b bs → (c : ℕ) → (c ≡ b → ⊥) → get_or (written m b bs) c bad ≡ get_or m c bad
  other_after (as_before e) c ne = ap (λ x. get_or x c bad) e
  other_after (one_set p l g e) c ne = ap (λ x. get_or x c bad) e ∙ get_or-set_other m b c (good bs) bad ne

  whole_after : After m b bs → AllByRecursion Whole m → AllByRecursion Whole (written m b bs)
  whole_after (as_before e) w = subst (λ (x : List Block). AllByRecursion Whole x) (sym e) w
  whole_after (one_set p l g e) w = subst (λ (x : List Block). AllByRecursion Whole x) (sym e) (All-set Whole m b (good bs) l w)

  -- at the block itself, the mark stays
  here_after : After m b bs → (get_or (written m b bs) b bad ≡ bad) ↔ (get_or m b bad ≡ bad)
  here_after (as_before e) = (λ h. ap (λ x. get_or x b bad) (sym e) ∙ h, λ h. ap (λ x. get_or x b bad) e ∙ h)
  here_after (one_set p l (h, is) e) =
      let there : get_or (written m b bs) b bad ≡ good bs = ap (λ x. get_or x b bad) e ∙ get_or-set_same m b (good bs) bad h in
      (λ q. absurd (good_not_bad (get_or (written m b bs) b bad) bs there q), λ q. absurd (good_not_bad (get_or m b bad) p is q))

  mark_kept : (c : ℕ) → (get_or (written m b bs) c bad ≡ bad) ↔ (get_or m c bad ≡ bad)
  mark_kept c =
      ⊎_elim
      (λ (e : c ≡ b). subst (λ (k : ℕ). (get_or (written m b bs) k bad ≡ bad) ↔ (get_or m k bad ≡ bad)) (sym e) (here_after (after m b bs)))
      (λ (ne : c ≡ b → ⊥). let o = other_after (after m b bs) c ne in (λ h. sym o ∙ h, λ h. o ∙ h))
      (cases_eq c b)

  pub other_kept : (c : ℕ) → (c ≡ b → ⊥) → get_or (written m b bs) c bad ≡ get_or m c bad
  other_kept c ne = other_after (after m b bs) c ne

  pub count_kept : length (written m b bs) ≡ length m
  count_kept = length_after (after m b bs)

  marks_kept : (c : ℕ) → BadAt (written m b bs) c ↔ BadAt m c
  marks_kept c =
      let k = mark_kept c in
      let n = count_kept in
      (λ h. (subst (λ (x : ℕ). c < x) n h.0, k.0 h.1), λ h. (subst (λ (x : ℕ). c < x) (sym n) h.0, k.1 h.1))

  read_other : (c : ℕ) (buf : List ℕ) → (c ≡ b → ⊥) → (answer (written m b bs) c (length buf) ≡ answer m c (length buf)) × (filled (written m b bs) c buf ≡ filled m c buf)
  read_other c buf ne =
      let n = count_kept in
      let o = other_after (after m b bs) c ne in (
        ap (λ x. cond (ltb c x && eqb (length buf) 512) (block_answer (get_or (written m b bs) c bad)) (Err Outside)) n
            ∙ ap (λ x. cond (ltb c (length m) && eqb (length buf) 512) (block_answer x) (Err Outside)) o,
        ap (λ x. cond (ltb c x && eqb (length buf) 512) (bytes_or (get_or (written m b bs) c bad) buf) buf) n
            ∙ ap (λ x. cond (ltb c (length m) && eqb (length buf) 512) (bytes_or x buf) buf) o,
      )

  read_back : (buf : List ℕ) → answer m b (length bs) ≡ Ok tt → length buf ≡ 512 → (answer (written m b bs) b (length buf) ≡ Ok tt) × (filled (written m b bs) b buf ≡ bs)
  read_back buf ok l =
      let g = good_from m b (length bs) (way m b (length bs)) ok in
      let e = write_good m b g.1.0 bs g.1.1 g.0 in
      let h : b < length (written m b bs) = subst (λ (x : ℕ). b < x) (sym count_kept) g.1.1.0 in
      read_good (written m b bs) b bs buf (h, ap (λ x. get_or x b bad) e ∙ get_or-set_same m b (good bs) bad g.1.1.0) l

pub laws : MediumLaws
laws = record {
  outside = λ m b n. (outside_from m b n (way m b n), answer_outside m b n);
  refused_bad = λ m b n. (bad_from m b n (way m b n), λ h. answer_at m b n h.0.0 h.1 ∙ ap block_answer h.0.1);
  reads = λ m b bs buf g l. read_good m b bs buf g l;
  read_back = λ m b bs buf ok l. read_back m b bs buf ok l;
  others = λ m b c bs buf ne. read_other m b bs c buf ne;
  refused_read = refused_read;
  refused_write = refused_write;
  count = count_kept;
  marks = λ m b c bs. marks_kept m b bs c;
  whole = λ m b bs w. whole_after m b bs (after m b bs) w;
}
