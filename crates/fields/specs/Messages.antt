-- What is printed for each mistake.
use Rattle.std.specs.Prelude.{ℕ, List, codes}
use Rattle.fields.specs.declared.error.LineError.{LineError}
use Rattle.fields.specs.declared.error.LineError.TheVariants.{UnknownLetter, MissingField, TooManyFields, NotHexadecimal, OddDigits, InterfaceWidth, ClockWidth, OutOfMemory}

abbrev pub message_text : LineError → List ℕ
message_text UnknownLetter = codes "unknown event letter"
message_text MissingField = codes "a field is missing"
message_text TooManyFields = codes "there is a field too many"
message_text NotHexadecimal = codes "a field has a character that is no hexadecimal digit"
message_text OddDigits = codes "a field has an odd number of digits"
message_text InterfaceWidth = codes "the interface is not one byte"
message_text ClockWidth = codes "the clock is not eight digits"
message_text OutOfMemory = codes "there is no memory for the event"
