-- Loops over rows.
use Rattle.std.proofs.Common.{◌≡◌, ℕ, zero, suc, ◌+◌, ◌<◌, ◌&&◌, ◌≤◌, List, [], ◌∷◌, ◌++◌, map, length, get_or, take, drop, set, sym, refl, ap, ◌∙◌, subst, arith}
use Rattle.std.proofs.lemmas.List.{map-set, get_or-map, length-map, length-set, take_all, drop_all, append-nil}
use Rattle.std.proofs.lemmas.List.Edits.{map_over_more}
use Rattle.model.specs.Units.{UnitRecord}
use Rattle.units.specs.declared.row.Row.{Row}
use Rattle.units.specs.Records.{record_of, sound_row, sound_rows}

-- a row that is as sound as the one before it
sound_kept : (rows : List Row) (i : ℕ) (d r : Row) → i < length rows → sound_row r ≡ sound_row (get_or rows i d) → sound_rows (set rows i r) ≡ sound_rows rows
sound_kept [] i d r h e = refl
sound_kept (x ∷ xs) zero d r h e = ap (λ b. b && sound_rows xs) e
sound_kept (x ∷ xs) (suc i) d r h e = ap (λ b. sound_row x && b) (sound_kept xs i d r (omega arith) e)

-- i records are changed by f, the others stand as they were, and no length has changed
pub record Far (f : UnitRecord → UnitRecord) (rows₀ rows : List Row) (i : ℕ) : Type 0 where
  pub records : map record_of rows ≡ map f (take i (map record_of rows₀)) ++ drop i (map record_of rows₀)
  pub sound : sound_rows rows ≡ sound_rows rows₀
  pub count : length rows ≡ length rows₀

pub far_more : (f : UnitRecord → UnitRecord) (rows₀ rows : List Row) (i : ℕ) (d r : Row) → i < length rows → record_of r ≡ f (record_of (get_or rows i d)) → sound_row r ≡ sound_row (get_or rows i d)
    → Far f rows₀ rows i → Far f rows₀ (set rows i r) (i + 1)
far_more f rows₀ rows i d r h er es far =
    let us₀ = map record_of rows₀ in
    let u = record_of (get_or rows i d) in
    let h₀ : i < length us₀ = subst (λ (n : ℕ). i < n) (far.count ∙ sym (length-map rows₀ record_of)) h in
    record {
      records = map-set record_of rows i r ∙ ap (set (map record_of rows) i) er ∙ map_over_more f us₀ (map record_of rows) i u h₀ far.records (sym (get_or-map record_of rows i d u h));
      sound = sound_kept rows i d r h es ∙ far.sound;
      count = length-set rows i r ∙ far.count;
    }

pub far_all : (f : UnitRecord → UnitRecord) (rows₀ rows : List Row) (i : ℕ) → length rows₀ ≤ i → Far f rows₀ rows i → map record_of rows ≡ map f (map record_of rows₀)
far_all f rows₀ rows i h far =
    let us₀ = map record_of rows₀ in
    let h₀ : length us₀ ≤ i = rw length-map h in
    far.records ∙ ap (λ l. map f l ++ drop i us₀) (take_all i us₀ h₀) ∙ ap (λ l. map f us₀ ++ l) (drop_all i us₀ h₀) ∙ append-nil (map f us₀)

-- the loop went over the whole table, and what it left is the table afterwards
module _ (f : UnitRecord → UnitRecord) (table rows₀ rows after : List Row) (i : ℕ) (far : Far f rows₀ rows i) (whole : rows₀ ≡ table) (back : after ≡ rows) where
  pub table_changed : length rows₀ ≤ i → map record_of after ≡ map f (map record_of table)
  table_changed h = ap (map record_of) back ∙ far_all f rows₀ rows i h far ∙ ap (λ l. map f (map record_of l)) whole

  pub table_kept : (length after ≡ length table) × (sound_rows after ≡ sound_rows table)
  table_kept = (ap length back ∙ far.count ∙ ap length whole, ap sound_rows back ∙ far.sound ∙ ap sound_rows whole)

-- nothing lies behind the last one
pub none_behind : {A : Type 0} (xs ys : List A) (n : ℕ) → length ys ≤ n → xs ++ drop n ys ≡ xs
none_behind xs ys n h = ap (λ l. xs ++ l) (drop_all n ys h) ∙ append-nil xs
