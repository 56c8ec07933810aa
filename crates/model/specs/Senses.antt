-- Why a command failed: key, code and qualifier of each sense, and the data that REQUEST SENSE answers.
use Rattle.std.specs.Prelude.{ℕ, List, [], ◌∷◌, ◌++◌, Option}
use Rattle.std.specs.declared.option.Option.TheVariants as option
use Rattle.model.specs.Bytes.{be32_of}
use Rattle.model.specs.declared.sense.Sense.{Sense}
use Rattle.model.specs.declared.sense.Sense.TheVariants.{None, Recovering, Locked, OutOfRange, UnlistedCommand, InvalidField, ReadFault, WriteFault}

pub record SenseValues : Type 0 where
  pub key : ℕ
  pub code : ℕ
  pub qualifier : ℕ
  -- INFORMATION: the address in the unit, where one is given
  pub information : Option ℕ

abbrev pub values : ℕ → ℕ → ℕ → Option ℕ → SenseValues
values k c q i = record { key = k; code = c; qualifier = q; information = i }

abbrev pub sense_values : Sense → SenseValues
sense_values None = values 0x00 0x00 0x00 option.None
sense_values Recovering = values 0x02 0x04 0x04 option.None
sense_values Locked = values 0x07 0x20 0x02 option.None
sense_values OutOfRange = values 0x05 0x21 0x00 option.None
sense_values UnlistedCommand = values 0x05 0x20 0x00 option.None
sense_values InvalidField = values 0x05 0x24 0x00 option.None
sense_values (ReadFault a) = values 0x03 0x11 0x00 (option.Some a)
sense_values (WriteFault a) = values 0x03 0x0C 0x00 (option.Some a)

-- the first byte: the fixed form, with VALID set exactly when INFORMATION is given
abbrev pub response_code : Option ℕ → ℕ
response_code option.None = 0x70
response_code (option.Some a) = 0xF0

abbrev pub information_field : Option ℕ → ℕ
information_field option.None = 0
information_field (option.Some a) = a

-- 18 bytes in fixed form; 10 more bytes follow the eighth
abbrev pub fixed_form : SenseValues → List ℕ
fixed_form v =
    (response_code v.information ∷ 0 ∷ v.key ∷ [])
    ++ (be32_of (information_field v.information) ++ (10 ∷ 0 ∷ 0 ∷ 0 ∷ 0 ∷ v.code ∷ v.qualifier ∷ 0 ∷ 0 ∷ 0 ∷ 0 ∷ []))

abbrev pub sense_data : Sense → List ℕ
sense_data n = fixed_form (sense_values n)
