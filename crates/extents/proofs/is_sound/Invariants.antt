use Rattle.std.proofs.Common.{◌≡◌, drop}
use Rattle.model.specs.Extents.{sound}
use Rattle.extents.proofs.is_sound.Given as goal

abbrev pub invariant-loop-extent : goal.invariant-loop-extent
invariant-loop-extent g l =
    sound g.E.Extent.from g.E.Extent.size l.low l.end (drop l.extent-index l.extents)
    ≡ sound g.E.Extent.from g.E.Extent.size 0 l.end l.extents
