-- The number of each refusal.
use Rattle.std.specs.Prelude.{ℕ, Ok, Err, Result}
use Rattle.model.specs.declared.refusal.Refusal.{Refusal}
use Rattle.model.specs.declared.refusal.Refusal.TheVariants.{Layout, Medium, OutsideMedium, BadBlock, Idle, Gone, Unlisted, Absent, WrongLength, Recovering, WrongState, Malformed, Incorrect, ShortBuffer, Jammed, BadWrapper}
use Rattle.model.specs.declared.refusal.Fault.{Fault}
use Rattle.model.specs.declared.refusal.Fault.TheVariants.{Outside, Bad}

abbrev pub refusal_number : Refusal → ℕ
refusal_number Layout = 1
refusal_number Medium = 2
refusal_number OutsideMedium = 3
refusal_number BadBlock = 4
refusal_number Idle = 5
refusal_number Gone = 6
refusal_number Unlisted = 7
refusal_number Absent = 8
refusal_number WrongLength = 9
refusal_number Recovering = 10
refusal_number WrongState = 11
refusal_number Malformed = 12
refusal_number Incorrect = 13
refusal_number ShortBuffer = 14
refusal_number Jammed = 15
refusal_number BadWrapper = 16

-- the number that a call is answered with: 0 where it is accepted
abbrev pub number_of : Result (Unit {0}) Refusal → ℕ
number_of (Ok u) = 0
number_of (Err r) = refusal_number r

-- a medium's fault as a refusal
abbrev pub fault_refusal : Fault → Refusal
fault_refusal Outside = OutsideMedium
fault_refusal Bad = BadBlock
