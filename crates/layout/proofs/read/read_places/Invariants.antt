use Rattle.std.proofs.Common.{◌≡◌, map, take}
use Rattle.layout.proofs.Pairs.{place_in}
use Rattle.layout.proofs.read.read_places.Given as goal

abbrev pub invariant-loop-pair : goal.invariant-loop-pair
invariant-loop-pair l = l.places ≡ map place_in (take l.pair-index l.pairs)
