use Rattle.std.proofs.Common.{◌≡◌, map, take}
use Rattle.std.specs.List.{range_with_len}
use Rattle.model.specs.Layouts.{sum}
use Rattle.model.specs.Sticks.{interface_up}
use Rattle.stick.specs.Meaning.{units_in}
use Rattle.stick.proofs.stick.power.interfaces_up.Given as goal

abbrev pub invariant-loop-count : goal.invariant-loop-count
invariant-loop-count l = record {
  next : l.first ≡ sum (take l.count-index l.layout.counts);
  up : l.interfaces ≡ map (interface_up l.layout (units_in l.layout l.units)) (range_with_len 0 l.count-index);
}
