-- One row of the table, read and set.
use Rattle.std.proofs.Common.{◌≡◌, ℕ, suc, ◌+◌, ◌<◌, ◌≤◌, Bool, true, false, cond, ltb, ◌||◌, List, [], ◌∷◌, map, length, get_or, take, drop, set, Some, None, Option, MatchOption, sym, refl, ap, ◌∙◌, subst, arith, rules}
use Rattle.std.proofs.lemmas.List.{map-set, get_or-map, length-map, length-set, take-map, drop-map, same_lists, places}
use Rattle.std.proofs.lemmas.List.Recursion.{is_position_or_len, and_at, and_set}
use Rattle.std.proofs.lemmas.List.Sums.{prefix_len-le-length}
use Rattle.std.specs.List.{list_any, position_or_len, slice_range}
use Rattle.std.proofs.lemmas.Bool.{ltb-true, ltb-false}
use Rattle.model.proofs.Altered.{alter_set, alter_past}
use Rattle.model.specs.Control.{alter}
use Rattle.model.specs.Recovery.{is_recovering, first_recovering}
use Rattle.model.specs.Units.{Standing, UnitRecord, any_standing}
use Rattle.units.specs.Records.{record_of, sound_row, sound_rows}
use Rattle.units.specs.declared.row.Row.{Row}

pub sound_at : (rows : List Row) (k : ℕ) (d : Row) → k < length rows → sound_rows rows ≡ true → sound_row (get_or rows k d) ≡ true
sound_at rows k d h s = and_at sound_rows sound_row refl (λ _ _. refl) rows k d h s

-- a sound row takes the place of another
pub rows_kept : (rows : List Row) (k : ℕ) (r : Row) → (length rows ≡ 16) × (sound_rows rows ≡ true) → sound_row r ≡ true
    → (length (set rows k r) ≡ 16) × (sound_rows (set rows k r) ≡ true)
rows_kept rows k r (full, sound) h = (length-set rows k r ∙ full, and_set sound_rows sound_row refl (λ _ _. refl) rows k r h sound)

module _ (f : UnitRecord → UnitRecord) (rows : List Row) (us : List UnitRecord) (k : ℕ) (seen : map record_of rows ≡ us) where
  -- the row at k makes a step that its record makes by f
  pub row_altered : (d r : Row) (u : UnitRecord) → k < length rows → record_of r ≡ f (record_of (get_or rows k d)) → map record_of (set rows k r) ≡ alter k f us
  row_altered d r u h e =
      let h' : k < length (map record_of rows) = rw length-map h in
      map-set record_of rows k r ∙ ap (set (map record_of rows) k) (e ∙ ap f (sym (get_or-map record_of rows k d u h))) ∙ sym (alter_set f k (map record_of rows) u h') ∙ ap (alter k f) seen

  -- past the table there is none
  pub no_row_altered : length rows ≤ k → us ≡ alter k f us
  no_row_altered h =
      let past : length (map record_of rows) ≤ k = rw length-map h in
      sym (alter_past f k us (subst (λ (xs : List UnitRecord). length xs ≤ k) seen past))

cut_between : {A : Type 0} (i j : ℕ) (xs : List A) → drop i (take j xs) ≡ slice_range xs i j
cut_between i j xs = same_lists _ _ (search (rules, places)) (λ k d h. grind (arith, places))

module _ (test : Standing → Bool) where
  abbrev passes : Row → Bool
  passes r = test (record_of r).standing

  any_is : (rows : List Row) → list_any passes rows ≡ any_standing test (map record_of rows)
  any_is [] = refl
  any_is (r ∷ rows) = ap (λ b. test (record_of r).standing || b) (any_is rows)

  pub any_between : (i j : ℕ) (rows : List Row) → list_any passes (drop i (take j rows)) ≡ any_standing test (slice_range (map record_of rows) i j)
  any_between i j rows =
      let part : drop i (take j (map record_of rows)) ≡ slice_range (map record_of rows) i j = cut_between i j (map record_of rows) in
      any_is (drop i (take j rows)) ∙ simp (← take-map, ← drop-map) (ap (any_standing test) part)

-- what a search finds: a place below the end, or none
abbrev pub FoundBelow : Option ℕ → ℕ → ℕ → Type 0
FoundBelow o k n = MatchOption o (k ≡ n) (λ v. (v ≡ k) × (v < n))

found_below : (b : Bool) (k n : ℕ) → ltb k n ≡ b → k ≤ n → FoundBelow (cond b (Some k) None) k n
found_below true k n e h = (refl, ltb-true k n e)
found_below false k n e h = let past : n ≤ k = ltb-false k n e in omega arith

abbrev pub recovers : Row → Bool
recovers r = is_recovering (record_of r).standing

-- the first row that recovers, by its record
pub first_found : (rows : List Row) (o : Option ℕ) → o ≡ cond (ltb (position_or_len recovers rows) (length rows)) (Some (position_or_len recovers rows)) None
    → FoundBelow o (first_recovering (map record_of rows)) (length (map record_of rows))
first_found rows o e =
    let k = position_or_len recovers rows in
    let count = λ (rs : List Row). first_recovering (map record_of rs) in
    let one : (n : ℕ) → suc n ≡ 1 + n = λ n. omega arith in
    let place : count rows ≡ k = is_position_or_len count recovers refl (λ r rs. ap (λ n. cond (recovers r) 0 n) (one (count rs))) rows in
    let found : FoundBelow o k (length rows) = subst (λ (v : Option ℕ). FoundBelow v k (length rows)) (sym e) (found_below (ltb k (length rows)) k (length rows) refl (prefix_len-le-length _ rows)) in
    subst (λ (n : ℕ). FoundBelow o n (length (map record_of rows))) (sym place) (subst (λ (n : ℕ). FoundBelow o k n) (sym (length-map rows record_of)) found)
