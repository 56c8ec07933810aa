-- Mistakes in a command line: which are want of memory, and what a mistake in a field of digits counts as.
use Rattle.std.specs.Prelude.{Bool, true, false, cond}
use Rattle.fields.specs.Readings.{wants_memory}
use Rattle.fields.specs.declared.error.LineError.{LineError}
use Rattle.values.specs.declared.error.Mistake.{Mistake}
use Rattle.values.specs.declared.error.Mistake.TheVariants.{UnknownOption, MissingValue, RepeatedOption, MalformedValue, OutOfMemory}

-- a mistake in a field of hexadecimal digits
abbrev pub mistake_of : LineError → Mistake
mistake_of e = cond (wants_memory e) OutOfMemory MalformedValue

abbrev pub is_memory : Mistake → Bool
is_memory UnknownOption = false
is_memory MissingValue = false
is_memory RepeatedOption = false
is_memory MalformedValue = false
is_memory OutOfMemory = true
