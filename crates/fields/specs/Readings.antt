-- How a reader's answer is stated: it is what the definition says, but at want of memory, of which nothing is said.
use Rattle.std.specs.Prelude.{◌≡◌, Bool, true, false, Ok, Err, Result}
use Rattle.fields.specs.declared.error.LineError.{LineError}
use Rattle.fields.specs.declared.error.LineError.TheVariants.{UnknownLetter, MissingField, TooManyFields, NotHexadecimal, OddDigits, InterfaceWidth, ClockWidth, OutOfMemory}

abbrev pub wants_memory : LineError → Bool
wants_memory UnknownLetter = false
wants_memory MissingField = false
wants_memory TooManyFields = false
wants_memory NotHexadecimal = false
wants_memory OddDigits = false
wants_memory InterfaceWidth = false
wants_memory ClockWidth = false
wants_memory OutOfMemory = true

-- seen by `view`, the answer is the one that is due; of an error that wants memory nothing is said
abbrev pub Reads : {E T U : Type 0} → (E → Bool) → (T → U) → Result T E → Result U E → Type 0
Reads of_memory view (Ok x) due = Ok (view x) ≡ due
Reads of_memory view (Err e) due = of_memory e ≡ false → Err e ≡ due
