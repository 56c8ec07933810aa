use Rattle.std.proofs.Common.{◌≡◌, map, length, string_bytes}
use Rattle.options.specs.Choices.{choice_of, nothing, choices_said}
use Rattle.options.proofs.read.choose.Given as goal

abbrev pub invariant-loop-rest : goal.invariant-loop-rest
invariant-loop-rest l = choices_said (map string_bytes l.rest) (choice_of l.chosen) ≡ choices_said (map string_bytes l.words) nothing

abbrev pub decreases-loop-rest : goal.decreases-loop-rest
decreases-loop-rest l = length l.rest
