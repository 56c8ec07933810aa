use Rattle.std.proofs.Common.{vec_items, sym, ◌∙◌, rules}
use Rattle.fields.proofs.Pairs.{behind_pair}
use Rattle.fields.proofs.digits.read_field.Goals as goal

pub loop-rest-preserved : goal.loop-rest-preserved
loop-rest-preserved c =
    behind_pair c.args.field.now c.loop-rest.rest.now (vec_items c.loop-rest.bytes) (vec_items c.push.new.self) _
    (search rules) (sym c.in_ok-ok_or.ensures.ok_part ∙ c.byte_of.ensures) (search rules) c.loop-rest.invariant
