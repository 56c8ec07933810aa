use Rattle.std.proofs.Common.{rules, ◌≡◌, ℕ, Option, sym, subst, ◌∙◌}
use Rattle.std.proofs.lemmas.Iterator.{YieldsList-from_slice}
use Rattle.std.proofs.lemmas.Iterator.Search.{position_from_yields_List}
use borrow.Author.Tests.{tests}
use Rattle.model.specs.Extents.{holds, found, Finds}
use Rattle.extents.proofs.Along.{found_position}
use Rattle.extents.proofs.Search.{found_finds}
use Rattle.extents.proofs.find.Goals as goal

pub returns : goal.returns
returns g c =
    let at = g.E.Extent.from in
    let len = g.E.Extent.size in
    let xs = c.args.extents.now in
    let pos = c.args.position in
    let e : c.position.result ≡ found at len 0 pos xs =
    position_from_yields_List (holds at len pos) _ _ c.position.result c.position.ensures.ran (YieldsList-from_slice _ c.iter.ensures.rest) (λ x b q k. search (rules, tests))
    ∙ sym (found_position at len pos xs) in
    record { value = e; finds = subst (λ (r : Option ℕ). Finds at len pos xs r) (sym e) (found_finds at len pos xs) }
