use Rattle.std.proofs.Common.{◌+◌, ◌<◌, length, vec_items, rules}
use Rattle.record.proofs.Records.{line_none, line_some}
use Rattle.record.proofs.line.record_line.Goals as goal
use Rattle.record.proofs.line.record_line.Goals.{else-is_empty-via-then-is_empty+else-is_empty-2, else-is_empty-via-else-is_empty}

pub returns-then-is_empty-2 : goal.returns-then-is_empty-2
returns-then-is_empty-2 c =
    line_none c.args.number c.args.csw.now c.args.answered.now (vec_items c.into_bytes-line.result) (search rules) (search rules) (search rules)

pub returns : goal.returns
returns c =
    let some : 0 < length c.args.csw.now + length c.args.answered.now =
    elim c.else-is_empty.branch [
      | else-is_empty-via-then-is_empty+else-is_empty-2 w ↦ search rules
      | else-is_empty-via-else-is_empty w ↦ search rules
    ] in
    line_some c.args.number c.args.csw.now c.args.answered.now
    (vec_items c.into_bytes-line.result) (vec_items c.push.new.self) (vec_items c.push_hex.new.line) (vec_items c.push_hex-2.new.line)
    some (search rules) (search rules) c.in_ok-push_hex.ensures c.in_ok-push_hex-2.ensures
