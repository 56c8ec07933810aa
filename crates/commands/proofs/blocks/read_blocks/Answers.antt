use Rattle.std.proofs.Common.{◌≡◌, ◌*◌, true, length, Ok, is_err, arith, rules}
use Rattle.commands.proofs.Loading.{read_stops, read_goes_on}
use Rattle.commands.proofs.blocks.read_blocks.Goals as goal

pub returns-in_err-map_err : goal.returns-in_err-map_err
returns-in_err-map_err g c =
    let at : c.from-at.result ≡ c.loop-moved.moved-counter = search rules in
    let err : is_err c.read_block.result ≡ true = search rules in
    let e = read_stops _ _ _ _ c.loop-moved.buffer c.loop-moved.moved-counter (512 * c.from-at.result) _ c.read_block.new.part c.read_block.result c.loop-moved-test.true c.requires
    (omega arith) (omega arith) c.read_block.ensures.answer c.read_block.ensures.buffer c.loop-moved.invariant.0 err in
    record { moved = search rules; short = search rules; buffer = e.1 }

pub loop-moved-preserved : goal.loop-moved-preserved
loop-moved-preserved g c =
    let at : c.from-at.result ≡ c.loop-moved.moved-counter = search rules in
    let ok : ◌≡◌ {A = _} c.read_block.result (Ok tt) = search rules in
    let out : length c.read_block.new.part ≡ 512 = search rules in (
      read_goes_on _ _ _ _ c.loop-moved.buffer c.loop-moved.moved-counter (512 * c.from-at.result) _ c.read_block.new.part c.read_block.result c.loop-moved-test.true c.requires
          (omega arith) (omega arith) c.read_block.ensures.answer c.read_block.ensures.buffer c.loop-moved.invariant.0 ok out,
      omega arith,
    )
