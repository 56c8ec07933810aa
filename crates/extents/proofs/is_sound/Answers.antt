use Rattle.std.proofs.Common.{◌≡◌, ◌+◌, true, false, drop, sym, ap, ◌∙◌}
use Rattle.std.proofs.lemmas.List.{at_drop_all}
use Rattle.std.proofs.lemmas.Bool.Decides.{Decides-at}
use Rattle.model.specs.Extents.{sound}
use Rattle.extents.proofs.Along.{sound_turn, sound_decides}
use Rattle.extents.proofs.is_sound.Goals as goal

pub returns-then-not-is_fitting : goal.returns-then-not-is_fitting
returns-then-not-is_fitting g c =
    let at = g.E.Extent.from in
    let len = g.E.Extent.size in
    let xs = c.args.extents.now in
    let no : false ≡ sound at len 0 c.args.end xs =
    sound_turn at len c.loop-extent.low c.args.end xs c.loop-extent.extent-index c.extent-item.result false c.loop-extent-test.true c.extent-item.is c.if-not-is_fitting.ensures c.loop-extent.invariant in
    record { value = no; decides = Decides-at false _ no (sound_decides at len c.args.end xs) }

pub loop-extent-preserved : goal.loop-extent-preserved
loop-extent-preserved g c =
    let at = g.E.Extent.from in
    let len = g.E.Extent.size in
    let xs = c.args.extents.now in
    ap (λ n. sound at len n c.args.end (drop (c.loop-extent.extent-index + 1) xs)) c.end_of-low.ensures
    ∙ sound_turn at len c.loop-extent.low c.args.end xs c.loop-extent.extent-index c.extent-item.result true c.loop-extent-test.true c.extent-item.is c.if-not-is_fitting.ensures c.loop-extent.invariant

pub returns : goal.returns
returns g c =
    let at = g.E.Extent.from in
    let len = g.E.Extent.size in
    let xs = c.args.extents.now in
    let yes : true ≡ sound at len 0 c.args.end xs =
    sym (at_drop_all (sound at len c.loop-extent.low c.args.end) xs c.loop-extent.extent-index c.loop-extent-test.false) ∙ c.loop-extent.invariant in
    record { value = yes; decides = Decides-at true _ yes (sound_decides at len c.args.end xs) }
