use Rattle.std.proofs.Common.{◌≡◌, ℕ, ◌<◌, List, map, length, get_or, replicate, refl, sym, ◌∙◌, arith, rules}
use Rattle.std.proofs.lemmas.List.{same_lists, get_or-map, get_or-replicate, length-map, length-replicate}
use Rattle.std.proofs.lemmas.List.Recursion.{and_from_places}
use Rattle.model.specs.Units.{new_unit}
use Rattle.units.specs.Records.{record_of, sound_row, sound_rows}
use Rattle.units.specs.declared.row.Row.{Row}
use Rattle.units.proofs.rows.Rows.new.Goals as goal

-- rows that are all new
all_new : (rows : List Row) (d : Row) (n : ℕ) → length rows ≡ n → ((k : ℕ) → k < n → record_of (get_or rows k d) ≡ new_unit) → map record_of rows ≡ replicate n new_unit
all_new rows d n long new =
    let count = length-map rows record_of in
    same_lists (map record_of rows) (replicate n new_unit) (count ∙ long ∙ sym (length-replicate n new_unit))
    (λ k u h. let h' : k < n = omega (arith, long, count) in get_or-map record_of rows k d u (omega (arith, count)) ∙ new k h' ∙ sym (get_or-replicate n k new_unit u h'))

pub invariant_of-result : goal.invariant_of-result
invariant_of-result c =
    let made = c.from_fn.ensures.items in
    (made.long, and_from_places sound_rows sound_row refl (λ _ _. refl) c.from_fn.result made.each.1 (λ k h. let e = (made.at k made.each.1 (omega (arith, made.long))).2 in search (e.met, rules)))

pub returns : goal.returns
returns c =
    let made = c.from_fn.ensures.items in
    all_new c.from_fn.result made.each.1 16 made.long (λ k h. let e = (made.at k made.each.1 h).2 in search (e.met, rules))
