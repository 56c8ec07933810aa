-- What the results of bulk commands mean, in the model's words.
use Rattle.std.specs.Prelude.{ℕ, cond, List, [], ◌++◌, length, take, drop, Ok, Err, Result, nat_lt}
use Rattle.model.specs.Bulk.{Bulked, bulk_with, Completed, turned_down, command}
use Rattle.model.specs.Layouts.{Layout}
use Rattle.model.specs.Refusals.{refusal_number}
use Rattle.model.specs.Sticks.{Stick}
use Rattle.model.specs.declared.command.Cbw.{Cbw}
use Rattle.model.specs.declared.refusal.Refusal.{Refusal}
use Rattle.model.specs.declared.refusal.Refusal.TheVariants.{ShortBuffer}
use Rattle.stick.specs.declared.completion.Completion.{Completion}

-- a completion or a refusal, with the buffer and the stick afterwards
abbrev pub bulk_of : Result Completion Refusal → List ℕ → Stick → Bulked
bulk_of (Ok c) buf s = bulk_with 0 c.csw (take c.answered buf) buf s
bulk_of (Err r) buf s = bulk_with (refusal_number r) [] [] buf s

-- what is answered at the front of a handed buffer
abbrev pub handed_back : List ℕ → Completed → Bulked
handed_back ds o = bulk_with o.code o.csw o.answer (o.answer ++ drop (length o.answer) ds) o.next

-- a command for the unit with this number
abbrev pub unit_commanded : Layout → ℕ → Cbw → List ℕ → Stick → Completed
unit_commanded lay v c ds s = cond (nat_lt (length ds) c.total) (turned_down ShortBuffer s) (command lay v c ds s)
