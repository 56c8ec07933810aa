-- The record line of a reply: all that is answered, the CSW first.
use Rattle.std.specs.Prelude.{ℕ, List, ◌++◌}
use Rattle.model.specs.Events.{Reply}
use Rattle.record.specs.Records.{record_line}

abbrev pub reply_line : Reply → List ℕ
reply_line r = record_line r.code (r.csw ++ r.answer)
