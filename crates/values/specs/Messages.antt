-- What is printed for each mistake.
use Rattle.std.specs.Prelude.{ℕ, List, codes}
use Rattle.values.specs.declared.error.Mistake.{Mistake}
use Rattle.values.specs.declared.error.Mistake.TheVariants.{UnknownOption, MissingValue, RepeatedOption, MalformedValue, OutOfMemory}

abbrev pub message_text : Mistake → List ℕ
message_text UnknownOption = codes "unknown option"
message_text MissingValue = codes "an option has no value"
message_text RepeatedOption = codes "an option is given twice"
message_text MalformedValue = codes "a value is not of its option's form"
message_text OutOfMemory = codes "there is no memory for the options"
