use Rattle.std.proofs.Common.{rules}
use Rattle.record.specs.Buffers.{answer_room}
use Rattle.record.proofs.buffer.zeros.Goals as goal

pub returns : goal.returns
unfolding answer_room
returns c = search rules
