use Rattle.std.proofs.Common.{◌≡◌, length, vec_items}
use Rattle.fields.specs.Hexadecimal.{hex_bytes}
use Rattle.fields.proofs.Pairs.{behind}
use Rattle.fields.proofs.digits.read_field.Given as goal

abbrev pub invariant-loop-rest : goal.invariant-loop-rest
invariant-loop-rest l = behind (vec_items l.bytes) (hex_bytes l.rest) ≡ hex_bytes l.field

abbrev pub decreases-loop-rest : goal.decreases-loop-rest
decreases-loop-rest l = length l.rest
