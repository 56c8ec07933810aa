-- What the search answers, in words: an element that holds the position, the only one of a list that passes the check.
use Rattle.std.proofs.Common.{◌≡◌, ℕ, zero, suc, ◌+◌, ◌<◌, ◌≤◌, Bool, true, false, cond, ltb, leb, List, [], ◌∷◌, length, Some, None, Option, sym, refl, ap, subst, ⊎_elim, arith}
use Rattle.std.specs.List.{HoldsAt, AllByRecursion}
use Rattle.std.proofs.ByRecursion.{All-get_or}
use Rattle.std.proofs.lemmas.Bool.{and_parts, and_from, ltb-true, leb-true, lt-ltb, le-leb, cases_Bool, both_ways}
use Rattle.model.specs.Extents.{Sound, Holds, holds, found, Finds}

module _ {E : Type 0} (start len : E → ℕ) where
  holds_true : (pos : ℕ) (x : E) → holds start len pos x ≡ true → Holds start len pos x
  holds_true pos x e =
      let p = and_parts (leb (start x) pos) (ltb pos (start x + len x)) e in
      (leb-true (start x) pos p.0, ltb-true pos (start x + len x) p.1)

  holds_false : (pos : ℕ) (x : E) → holds start len pos x ≡ false → Holds start len pos x → ⊥
  holds_false pos x e h =
      both_ways (holds start len pos x) e (and_from (leb (start x) pos) (ltb pos (start x + len x)) (le-leb (start x) pos h.0) (lt-ltb pos (start x + len x) h.1))

  -- the search from number i on
  abbrev Seen : ℕ → ℕ → List E → Option ℕ → Type 0
  Seen i pos xs None = AllByRecursion (λ x. Holds start len pos x → ⊥) xs
  Seen i pos xs (Some j) = (k : ℕ) × (j ≡ i + k) × (k < length xs) × HoldsAt (Holds start len pos) xs k

  seen_later : (i pos : ℕ) (x : E) (xs : List E) (r : Option ℕ) → (Holds start len pos x → ⊥) → Seen (i + 1) pos xs r → Seen i pos (x ∷ xs) r
  seen_later i pos x xs None misses s = (misses, s)
  seen_later i pos x xs (Some j) misses (k, e, lt, at) = (suc k, omega arith, omega arith, at)

  seen : (i pos : ℕ) (xs : List E) → Seen i pos xs (found start len i pos xs)
  seen i pos [] = tt
  seen i pos (x ∷ xs) =
      let after = found start len (i + 1) pos xs in
      let goal : Bool → Type 0 = λ b. Seen i pos (x ∷ xs) (cond b (Some i) after) in
      ⊎_elim
      (λ (e : holds start len pos x ≡ true). subst goal (sym e) (0, omega arith, omega arith, λ d. holds_true pos x e))
      (λ (e : holds start len pos x ≡ false). subst goal (sym e) (seen_later i pos x xs after (holds_false pos x e) (seen (i + 1) pos xs)))
      (cases_Bool (holds start len pos x))

  -- a later element of a list that passes does not hold what the first one holds
  first_only : (pos : ℕ) (x : E) (xs : List E) (k : ℕ) → AllByRecursion (λ y. start x + len x ≤ start y) xs → k < length xs → Holds start len pos x → HoldsAt (Holds start len pos) xs k → ⊥
  first_only pos x xs k later lt here there =
      let above = All-get_or (λ y. start x + len x ≤ start y) xs k x lt later in
      let low = (there x).0 in
      let high = here.1 in
      omega arith

  pub only : (end pos : ℕ) (xs : List E) → Sound start len end xs → (k l : ℕ) → k < length xs → l < length xs → HoldsAt (Holds start len pos) xs k → HoldsAt (Holds start len pos) xs l → k ≡ l
  only end pos [] s k l lk ll hk hl = absurd (omega arith)
  only end pos (x ∷ xs) s zero zero lk ll hk hl = refl
  only end pos (x ∷ xs) s zero (suc l) lk ll hk hl = absurd (first_only pos x xs l s.1.0 (omega arith) (hk x) hl)
  only end pos (x ∷ xs) s (suc k) zero lk ll hk hl = absurd (first_only pos x xs k s.1.0 (omega arith) (hl x) hk)
  only end pos (x ∷ xs) s (suc k) (suc l) lk ll hk hl = ap suc (only end pos xs (s.0.1, s.1.1) k l (omega arith) (omega arith) hk hl)

  finds_from : (pos : ℕ) (xs : List E) (r : Option ℕ) → Seen 0 pos xs r → Finds start len pos xs r
  finds_from pos xs None s = s
  finds_from pos xs (Some j) (k, e, lt, at) =
      let same : k ≡ j = omega arith in
      let here : HoldsAt (Holds start len pos) xs j = subst (λ (n : ℕ). HoldsAt (Holds start len pos) xs n) same at in
      let low : j < length xs = omega arith in
      (low, here, λ end sd l ll hl. only end pos xs sd l j ll low hl here)

  pub found_finds : (pos : ℕ) (xs : List E) → Finds start len pos xs (found start len 0 pos xs)
  found_finds pos xs = finds_from pos xs (found start len 0 pos xs) (seen 0 pos xs)
