use Rattle.std.proofs.Common.{◌++◌, ◌∷◌, [], ◌/◌, ◌<◌, map, take, length, sym, ap, ◌∙◌, arith}
use Rattle.std.proofs.lemmas.List.{length-map, length-take, map_more, take_all}
use Rattle.layout.proofs.Pairs.{place_in, pairs_in_chunks}
use Rattle.layout.proofs.read.read_places.Goals as goal

pub loop-pair-preserved : goal.loop-pair-preserved
loop-pair-preserved c =
    let room : length c.loop-pair.places < 16 = simp (c.loop-pair.invariant, length-map, length-take) (omega arith) in
    c.push.ensures.whole room
    ∙ ap (λ ps. ps ++ c.place_of.result ∷ []) c.loop-pair.invariant
    ∙ ap (λ p. map place_in (take c.loop-pair.pair-index c.as_chunks.result.0.now) ++ p ∷ []) c.place_of.ensures
    ∙ sym (map_more place_in c.as_chunks.result.0.now c.loop-pair.pair-index _ c.loop-pair-test.true)

pub returns-clause-value : goal.returns-clause-value
returns-clause-value c =
    c.loop-pair.invariant
    ∙ ap (map place_in) (take_all c.loop-pair.pair-index c.as_chunks.result.0.now c.loop-pair-test.false ∙ c.as_chunks.ensures.front)
    ∙ pairs_in_chunks (length c.args.bytes.now / 8) c.args.bytes.now
