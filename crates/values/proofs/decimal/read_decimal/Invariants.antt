use Rattle.std.proofs.Common.{◌≡◌, drop}
use Rattle.values.specs.Decimals.{digits_said}
use Rattle.values.proofs.decimal.read_decimal.Given as goal

abbrev pub invariant-loop-c : goal.invariant-loop-c
invariant-loop-c l = digits_said l.number (drop l.c-index l.text) ≡ digits_said 0 l.text
