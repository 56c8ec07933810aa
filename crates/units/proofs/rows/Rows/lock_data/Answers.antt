use Rattle.std.proofs.Common.{◌≡◌, ℕ, ◌<◌, ◌≤◌, true, List, map, length, get_or, Some, None, Option, sym, ap, ◌∙◌, Bor}
use Rattle.std.proofs.lemmas.Bool.{ltb-true, ltb-false}
use Rattle.std.proofs.lemmas.List.{get_or-map, get_or_past, length-map}
use Rattle.std.specs.Option.{unwrap_or}
use Rattle.std.specs.Slice.{IsItemAt}
use Rattle.model.specs.LockData.{lock_data}
use Rattle.model.specs.Units.{UnitRecord, new_unit}
use Rattle.units.specs.Records.{record_of, sound_row, sound_rows}
use Rattle.units.specs.declared.row.Row.{Row}
use Rattle.units.proofs.Tables.{sound_at}
use Rattle.units.proofs.rows.Rows.lock_data.Goals as goal

-- a row of the table, or another one that is new
module _ (rows : List Row) (k : ℕ) (other : Bor Row) where
  either_sound : (found : Option (Bor Row)) → IsItemAt rows k found → sound_rows rows ≡ true → sound_row other.now ≡ true → sound_row (unwrap_or found other).now ≡ true
  either_sound None at s h = h
  either_sound (Some row) at s h = ap sound_row at.1 ∙ sound_at rows k row.now (ltb-true k (length rows) (sym at.0)) s

  either_record : (found : Option (Bor Row)) → IsItemAt rows k found → record_of other.now ≡ new_unit → record_of (unwrap_or found other).now ≡ get_or (map record_of rows) k new_unit
  either_record None at e =
      let past : length rows ≤ k = ltb-false k (length rows) (sym at.0) in
      e ∙ sym (get_or_past (map record_of rows) k new_unit (rw length-map past))
  either_record (Some row) at e =
      let there : k < length rows = ltb-true k (length rows) (sym at.0) in
      ap record_of at.1 ∙ sym (get_or-map record_of rows k row.now new_unit there)

pub lock_data-requires : goal.lock_data-requires
lock_data-requires c =
    ap (λ (row : Bor Row). sound_row row.now) c.unwrap_or.ensures ∙ either_sound c.self.inside.rows c.args.index _ c.get.result c.get.ensures.lookup c.self.invariant.1 c.new-new.ensures.sound

pub returns : goal.returns
returns c =
    let told = λ (u : UnitRecord). lock_data c.args.blocks c.args.address.interface c.args.address.unit u in
    c.lock_data.ensures
    ∙ ap (λ (row : Bor Row). told (record_of row.now)) c.unwrap_or.ensures
    ∙ ap told (either_record c.self.inside.rows c.args.index _ c.get.result c.get.ensures.lookup c.new-new.ensures.«record»)
    ∙ ap (λ (us : List UnitRecord). told (get_or us c.args.index new_unit)) c.self.view_is
