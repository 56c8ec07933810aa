-- The law above the definitions: what is written in the script's form is read as it was meant.
use Rattle.std.specs.Prelude.{◌≡◌, ℕ, ◌/◌, ◌%◌, ◌^◌, ◌<◌, List, [], ◌∷◌, ◌++◌, length, Some, Ok}
use Rattle.model.specs.Events.{Event as Happening, control, bulk, work, clock, reset, suspend, resume, power}
use Rattle.fields.specs.Hexadecimal.{hex_text}
use Rattle.fields.specs.Laws.{Bytes}
use Rattle.lines.specs.Lines.{line_said}

-- a field behind its blank; one without bytes is left out
abbrev pub field_text : List ℕ → List ℕ
field_text [] = []
field_text (b ∷ bs) = 0x20 ∷ hex_text (b ∷ bs)

-- a number below 2 ^ 32 in four bytes, the highest first
abbrev pub clock_bytes : ℕ → List ℕ
clock_bytes n = n / 16777216 ∷ n / 65536 % 256 ∷ n / 256 % 256 ∷ n % 256 ∷ []

-- the line that says an event
abbrev pub line_text : Happening → List ℕ
line_text (control setup arriving) = 0x43 ∷ (field_text setup ++ field_text arriving)
line_text (bulk interface cbw arriving) = 0x42 ∷ (field_text (interface ∷ []) ++ field_text cbw ++ field_text arriving)
line_text work = 0x57 ∷ []
line_text (clock ms) = 0x54 ∷ field_text (clock_bytes ms)
line_text reset = 0x52 ∷ []
line_text suspend = 0x53 ∷ []
line_text resume = 0x55 ∷ []
line_text power = 0x50 ∷ []

-- what a line can say: bytes, a clock of 32 bits, and no empty setup or command block
abbrev pub Sayable : Happening → Type 0
Sayable (control setup arriving) = (0 < length setup) × Bytes setup × Bytes arriving
Sayable (bulk interface cbw arriving) = (interface < 256) × (0 < length cbw) × Bytes cbw × Bytes arriving
Sayable work = Unit {0}
Sayable (clock ms) = ms < 2 ^ 32
Sayable reset = Unit {0}
Sayable suspend = Unit {0}
Sayable resume = Unit {0}
Sayable power = Unit {0}

abbrev pub EventsReadBack : Type 0
EventsReadBack = (h : Happening) → Sayable h → line_said (line_text h) ≡ Ok (Some h)
