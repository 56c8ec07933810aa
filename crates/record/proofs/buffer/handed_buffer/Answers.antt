use Rattle.std.proofs.Common.{rules}
use Rattle.record.specs.Buffers.{answer_room}
use Rattle.record.proofs.buffer.handed_buffer.Goals as goal

pub returns-clause-zeros : goal.returns-clause-zeros
unfolding answer_room
returns-clause-zeros c = search rules
