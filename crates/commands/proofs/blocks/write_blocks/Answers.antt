use Rattle.std.proofs.Common.{◌≡◌, ◌+◌, ◌*◌, ◌<◌, true, ◌++◌, length, take, drop, Ok, is_err, sym, ap, ◌∙◌, arith, rules}
use Rattle.std.proofs.lemmas.List.{take_at, drop_at, drop-drop}
use Rattle.std.specs.Iterator.Adapters.{zip_first, zip_second}
use Rattle.std.specs.Slice.Iter.{chunks_exact_rest}
use Rattle.commands.proofs.Keeping.{write_stops, write_goes_on}
use Rattle.commands.proofs.blocks.write_blocks.Goals as goal

pub returns-in_err-map_err : goal.returns-in_err-map_err
returns-in_err-map_err g c =
    let i = (zip_first c.loop-moved.moved-iterator).start in
    let err : is_err c.write_block.result ≡ true = search rules in
    let e = write_stops _ _ c.args.span.count _ _ i c.in-Some.moved c.in-Some.part.now c.write_block.result (search rules) (search rules) (search rules)
    c.write_block.ensures.answer c.loop-moved.invariant.2 err in
    record { moved = search rules; short = search rules; after = c.write_block.ensures.after ∙ e.1 }

pub loop-moved-preserved : goal.loop-moved-preserved
loop-moved-preserved g c =
    let i = (zip_first c.loop-moved.moved-iterator).start in
    let part = c.in-Some.part.now in
    let rest = chunks_exact_rest (zip_second c.next.new.self) in
    let long : length part ≡ 512 = search rules in
    let lt : i < c.args.span.count = search rules in
    let next : (zip_first c.next.new.self).start ≡ i + 1 = search rules in
    let ok : ◌≡◌ {A = _} c.write_block.result (Ok tt) = search rules in
    let parts : drop (512 * i) c.args.buffer.now ≡ part ++ rest = search rules in
    let cut : part ≡ take 512 (drop (512 * i) c.args.buffer.now) = sym (take_at part rest 512 long) ∙ ap (take 512) (sym parts) in
    let far : drop (512 * (i + 1)) c.args.buffer.now ≡ rest =
    ap (λ x. drop x c.args.buffer.now) (omega arith) ∙ sym (drop-drop 512 (512 * i) c.args.buffer.now) ∙ ap (drop 512) parts ∙ drop_at part rest 512 long in (
      search rules,
      tt,
      rw (c.write_block.ensures.after, next)
          (write_goes_on _ _ c.args.span.count _ _ i c.in-Some.moved part c.write_block.result (search rules) lt long c.write_block.ensures.answer c.loop-moved.invariant.2 ok cut),
      omega arith,
      search rules,
      search rules,
      rw next (sym far),
    )
