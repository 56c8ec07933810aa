-- Places that pass the check lie apart.
use Rattle.std.proofs.Common.{◌≡◌, ℕ, zero, suc, ◌+◌, ◌<◌, ◌≤◌, Bool, true, ◌&&◌, ltb, leb, ◌⊎◌, List, [], ◌∷◌, length, get_or, drop, sym, refl, ap, subst, inl, inr, arith}
use Rattle.std.proofs.lemmas.Bool.{and_parts, leb-true, ltb-true}
use Rattle.model.specs.Bulk.{place_at}
use Rattle.model.specs.Bytes.{byte}
use Rattle.model.specs.Extents.{fitting, sound}
use Rattle.model.specs.Layouts.{Layout, place, place_start, place_count, own_rules, layout_rules, said_layout, no_layout, sum}
use Rattle.model.specs.declared.layout.Place.{Place}
use Rattle.model.proofs.Paired.{length_pairs}
use Rattle.privacy.specs.Claims.{fits, FitsAlways}
use Rattle.privacy.specs.Causes.{UnitsHaveBlocks}
use Rattle.privacy.proofs.Calm.{cond_facts}

-- no two units share a block, which the check of the places shows
pub record Disjoint (lay : Layout) : Type 0 where
  pub apart : (u v : ℕ) → (u ≡ v → ⊥) → ((place_at lay u).start + (place_at lay u).count ≤ (place_at lay v).start) ⊎ ((place_at lay v).start + (place_at lay v).count ≤ (place_at lay u).start)

-- an earlier place ends before a later one starts, or the later one is none
abbrev Before : Place → Place → Type 0
Before p q = (p.start + p.count ≤ q.start) ⊎ (q.start + q.count ≤ p.start)

abbrev checked : ℕ → ℕ → List Place → Bool
checked low end ps = sound place_start place_count low end ps

starts_later : (low : ℕ) (p q : Place) → low ≤ p.start → (p.start + p.count ≤ q.start) ⊎ (q ≡ place 0 0) → (low ≤ q.start) ⊎ (q ≡ place 0 0)
starts_later low p q g (inl k) = inl (omega arith)
starts_later low p q g (inr k) = inr k

after_low : (low end : ℕ) (ps : List Place) (v : ℕ) → checked low end ps ≡ true → (low ≤ (get_or ps v (place 0 0)).start) ⊎ (get_or ps v (place 0 0) ≡ place 0 0)
after_low low end [] v e = inr refl
after_low low end (p ∷ ps) zero e = inl (leb-true low p.start (and_parts _ _ (and_parts _ _ (and_parts _ _ e).0).1).0)
after_low low end (p ∷ ps) (suc v) e =
    let h = and_parts _ _ e in
    let g = leb-true low p.start (and_parts _ _ (and_parts _ _ h.0).1).0 in
    starts_later low p (get_or ps v (place 0 0)) g (after_low (p.start + p.count) end ps v h.1)

none_apart : (p q : Place) → (p.start + p.count ≤ q.start) ⊎ (q ≡ place 0 0) → Before p q
none_apart p q (inl h) = inl h
none_apart p q (inr e) = inr (rw e (omega arith))

flip : (p q : Place) → Before p q → Before q p
flip p q (inl h) = inr h
flip p q (inr h) = inl h

lie_apart : (low end : ℕ) (ps : List Place) (u v : ℕ) → checked low end ps ≡ true → (u ≡ v → ⊥) → Before (get_or ps u (place 0 0)) (get_or ps v (place 0 0))
lie_apart low end [] u v e ne = inl (omega arith)
lie_apart low end (p ∷ ps) zero zero e ne = absurd (ne refl)
lie_apart low end (p ∷ ps) zero (suc v) e ne = none_apart p (get_or ps v (place 0 0)) (after_low (p.start + p.count) end ps v (and_parts _ _ e).1)
lie_apart low end (p ∷ ps) (suc u) zero e ne = flip p (get_or ps u (place 0 0)) (none_apart p (get_or ps u (place 0 0)) (after_low (p.start + p.count) end ps u (and_parts _ _ e).1))
lie_apart low end (p ∷ ps) (suc u) (suc v) e ne = lie_apart (p.start + p.count) end ps u v (and_parts _ _ e).1 (λ q. ne (ap suc q))

pub fit_disjoint : (lay : Layout) (blocks : ℕ) → fits lay blocks ≡ true → Disjoint lay
fit_disjoint lay blocks e = record { apart = λ u v ne. lie_apart 0 blocks lay.places u v e ne }

-- a layout that was refused has no places
pub fits_always : FitsAlways
fits_always bs blocks =
    let said = said_layout bs in
    cond_facts (λ lay. fits lay blocks ≡ true) (layout_rules bs blocks) said no_layout
    (λ e. (and_parts (own_rules bs) (fits said blocks) e).1)
    (λ e. refl)

-- a place that passes the check has a block
counted : (low end : ℕ) (ps : List Place) (u : ℕ) → checked low end ps ≡ true → u < length ps → 0 < (get_or ps u (place 0 0)).count
counted low end [] u e h = absurd (omega arith)
counted low end (p ∷ ps) zero e h = ltb-true 0 p.count (and_parts _ _ (and_parts _ _ e).0).0
counted low end (p ∷ ps) (suc u) e h = counted (p.start + p.count) end ps u (and_parts _ _ e).1 (omega arith)

pub units_have_blocks : UnitsHaveBlocks
units_have_blocks bs blocks u =
    let said = said_layout bs in
    cond_facts (λ lay. u < sum lay.counts → 0 < (place_at lay u).count) (layout_rules bs blocks) said no_layout
    (λ e h. counted 0 blocks said.places u
    (and_parts (own_rules bs) (fits said blocks) e).1
    (subst (λ n. u < n) (sym (length_pairs (sum said.counts) (drop (7 + byte bs 6) bs))) h))
    (λ e h. absurd (omega arith))

-- and ends by the end
pub held_below : (low end : ℕ) (ps : List Place) (u b : ℕ) → checked low end ps ≡ true → (get_or ps u (place 0 0)).start ≤ b → b < (get_or ps u (place 0 0)).start + (get_or ps u (place 0 0)).count → b < end
held_below low end [] u b e h k = absurd (omega arith)
held_below low end (p ∷ ps) zero b e h k =
    let q = (and_parts (fitting place_start place_count low end p) (checked (p.start + p.count) end ps) e).0 in
    let r = (and_parts (ltb 0 p.count) (leb low p.start && leb (p.start + p.count) end) q).1 in
    let le = leb-true (p.start + p.count) end (and_parts (leb low p.start) (leb (p.start + p.count) end) r).1 in
    omega arith
held_below low end (p ∷ ps) (suc u) b e h k = held_below (p.start + p.count) end ps u b (and_parts _ _ e).1 h k
