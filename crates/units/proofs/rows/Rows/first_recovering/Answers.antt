use Rattle.std.proofs.Common.{◌≡◌, List, length, map, take, sym, ap, ◌∙◌, subst, rules, tests}
use Rattle.std.proofs.lemmas.List.{take-map}
use Rattle.std.proofs.lemmas.Iterator.{YieldsList-from_slice, YieldsList-from_take}
use Rattle.std.proofs.lemmas.Iterator.Search.{position_from_yields_List}
use Rattle.model.specs.Recovery.{first_recovering}
use Rattle.model.specs.Units.{UnitRecord}
use Rattle.units.specs.Records.{record_of}
use Rattle.units.proofs.Tables.{FoundBelow, recovers, first_found}
use Rattle.units.proofs.rows.Rows.first_recovering.Goals as goal

pub returns : goal.returns
returns c =
    let rows = c.self.inside.rows in
    let place = position_from_yields_List recovers _ _ c.position.result c.position.ensures.ran (YieldsList-from_take c.args.end (YieldsList-from_slice rows (cc)) (cc)) (λ x b q k. search (rules, tests)) in
    let seen : map record_of (take c.args.end rows) ≡ take c.args.end c.args.self.now = sym (take-map record_of c.args.end rows) ∙ ap (take c.args.end) c.self.view_is in
    subst (λ (us : List UnitRecord). FoundBelow c.position.result (first_recovering us) (length us)) seen (first_found (take c.args.end rows) c.position.result place)
