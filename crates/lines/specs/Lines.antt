-- What a line of the script says. Of several mistakes one is reported, the first in this order: the letter; a field missing or too many;
-- then field by field from left to right a character that is no digit, an odd number of digits, and the width of an interface or a clock.
use Rattle.std.specs.Prelude.{ℕ, ◌+◌, ◌*◌, cond, List, [], ◌∷◌, Some, None, Ok, Err, Option, Result, ◌==◌}
use Rattle.model.specs.Events.{Event as Happening, control, bulk, work, clock, reset, suspend, resume, power}
use Rattle.fields.specs.Hexadecimal.{hex_bytes}
use Rattle.fields.specs.Words.{words}
use Rattle.fields.specs.declared.error.LineError.{LineError}
use Rattle.fields.specs.declared.error.LineError.TheVariants.{UnknownLetter, MissingField, TooManyFields, InterfaceWidth, ClockWidth}

-- the first mistake ends it
abbrev pub and_then : {X Y : Type 0} → Result X LineError → (X → Result Y LineError) → Result Y LineError
and_then (Err e) f = Err e
and_then (Ok x) f = f x

-- no field more
abbrev pub end_said : List (List ℕ) → Result (Unit {0}) LineError
end_said [] = Ok tt
end_said (w ∷ ws) = Err TooManyFields

-- a last field that may be left out, and is empty then
abbrev pub optional : List (List ℕ) → Result (List ℕ) LineError
optional [] = Ok []
optional (w ∷ []) = Ok w
optional (w ∷ v ∷ ws) = Err TooManyFields

-- C setup [data]
abbrev pub control_said : List (List ℕ) → Result Happening LineError
control_said [] = Err MissingField
control_said (setup ∷ ws) =
    and_then (optional ws) (λ arriving.
    and_then (hex_bytes setup) (λ s.
    and_then (hex_bytes arriving) (λ d. Ok (control s d))))

-- the interface is one byte
abbrev pub one_byte : List ℕ → Result ℕ LineError
one_byte [] = Err InterfaceWidth
one_byte (b ∷ []) = Ok b
one_byte (b ∷ c ∷ bs) = Err InterfaceWidth

abbrev pub interface_said : List ℕ → Result ℕ LineError
interface_said field = and_then (hex_bytes field) one_byte

-- B interface cbw [data]
abbrev pub bulk_said : List (List ℕ) → Result Happening LineError
bulk_said [] = Err MissingField
bulk_said (interface ∷ []) = Err MissingField
bulk_said (interface ∷ cbw ∷ ws) =
    and_then (optional ws) (λ arriving.
    and_then (interface_said interface) (λ i.
    and_then (hex_bytes cbw) (λ c.
    and_then (hex_bytes arriving) (λ d. Ok (bulk i c d)))))

-- the clock is four bytes, the highest first
abbrev pub four_bytes : List ℕ → Result ℕ LineError
four_bytes [] = Err ClockWidth
four_bytes (a ∷ []) = Err ClockWidth
four_bytes (a ∷ b ∷ []) = Err ClockWidth
four_bytes (a ∷ b ∷ c ∷ []) = Err ClockWidth
four_bytes (a ∷ b ∷ c ∷ d ∷ []) = Ok (a * 16777216 + b * 65536 + c * 256 + d)
four_bytes (a ∷ b ∷ c ∷ d ∷ e ∷ es) = Err ClockWidth

abbrev pub milliseconds_said : List ℕ → Result ℕ LineError
milliseconds_said field = and_then (hex_bytes field) four_bytes

-- T and the clock
abbrev pub clock_said : List (List ℕ) → Result Happening LineError
clock_said [] = Err MissingField
clock_said (field ∷ []) = and_then (milliseconds_said field) (λ ms. Ok (clock ms))
clock_said (field ∷ w ∷ ws) = Err TooManyFields

-- an event with no field
abbrev pub plain_said : Happening → List (List ℕ) → Result Happening LineError
plain_said h [] = Ok h
plain_said h (w ∷ ws) = Err TooManyFields

-- by its letter: C, B, W, T, R, S, U, P
abbrev pub event_said : ℕ → List (List ℕ) → Result Happening LineError
event_said letter ws =
    cond (letter == 0x43) (control_said ws)
    (cond (letter == 0x42) (bulk_said ws)
    (cond (letter == 0x57) (plain_said work ws)
    (cond (letter == 0x54) (clock_said ws)
    (cond (letter == 0x52) (plain_said reset ws)
    (cond (letter == 0x53) (plain_said suspend ws)
    (cond (letter == 0x55) (plain_said resume ws)
    (cond (letter == 0x50) (plain_said power ws) (Err UnknownLetter))))))))

-- no event where there is no word; else the first word is one letter, and no word is empty
abbrev pub words_said : List (List ℕ) → Result (Option Happening) LineError
words_said [] = Ok None
words_said ([] ∷ ws) = Err UnknownLetter
words_said ((letter ∷ []) ∷ ws) = and_then (event_said letter ws) (λ h. Ok (Some h))
words_said ((c ∷ d ∷ cs) ∷ ws) = Err UnknownLetter

abbrev pub line_said : List ℕ → Result (Option Happening) LineError
line_said cs = words_said (words cs)
