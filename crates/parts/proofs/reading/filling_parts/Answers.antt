use Rattle.std.proofs.Common.{◌≤◌, ◌∙◌, take, arith}
use Rattle.model.specs.Parts.{parts_end}
use Rattle.parts.proofs.Ends.{ends_within, fill_told}
use Rattle.parts.proofs.reading.filling_parts.Goals as goal

pub do_fill-requires : goal.do_fill-requires
do_fill-requires c =
    let parts = c.cut_parts-parts.result in
    let low : parts_end 0 (take c.args.count parts) ≤ 765 = ends_within 765 0 c.args.count parts (omega arith) c.cut_parts-parts.ensures.bound in
    omega arith

pub returns-clause-value : goal.returns-clause-value
returns-clause-value c =
    c.then_some.ensures
    ∙ fill_told c.args.count 3 c.args.data.now c.cut_parts-parts.result c.do_fill.result c.requires c.cut_parts-parts.ensures.value c.do_fill.ensures.value
