use Rattle.std.proofs.Common.{◌≡◌, ◌+◌, ◌*◌, ◌≤◌, drop}
use Rattle.std.specs.Iterator.Adapters.{zip_first, zip_second}
use Rattle.std.specs.Slice.Iter.{chunks_exact_rest, chunks_exact_size}
use Rattle.commands.proofs.Keeping.{Along}
use Rattle.commands.proofs.blocks.write_blocks.Given as goal

abbrev pub invariant-loop-moved : goal.invariant-loop-moved
invariant-loop-moved g l =
    (goal.iterator-loop-moved g).can_next l.moved-iterator
    × (goal.iterator-loop-moved g).is_finite l.moved-iterator
    × Along (g.M.Medium.meaning l.initial.medium) (l.span.start + l.span.address) l.span.count l.buffer (g.M.Medium.meaning l.medium) (zip_first l.moved-iterator).start
    × ((zip_first l.moved-iterator).start ≤ l.span.count)
    × ((zip_first l.moved-iterator).end ≡ l.span.count)
    × (chunks_exact_size (zip_second l.moved-iterator) ≡ 512)
    × (chunks_exact_rest (zip_second l.moved-iterator) ≡ drop (512 * (zip_first l.moved-iterator).start) l.buffer)
