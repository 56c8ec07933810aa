-- What the end of a command means, in the model's words.
use Rattle.std.specs.Prelude.{ℕ, cond, List, ◌++◌, length, take, drop, Ok, Err, Result, nat_lt}
use Rattle.model.specs.Blocks.{Block}
use Rattle.model.specs.Commands.{Ending, ending, failed, performed}
use Rattle.model.specs.Refusals.{refusal_number}
use Rattle.model.specs.declared.command.Cbw.{Cbw}
use Rattle.model.specs.declared.refusal.Refusal.{Refusal}
use Rattle.model.specs.declared.refusal.Refusal.TheVariants.{ShortBuffer}
use Rattle.model.specs.declared.sense.Sense.TheVariants as sense
use Rattle.commands.specs.declared.ended.Ended.{Ended}
use Rattle.commands.specs.declared.ended.Target.{Target}

-- bytes at a buffer's front, the rest as it was
abbrev pub front : List ℕ → List ℕ → List ℕ
front bs ds = bs ++ drop (length bs) ds

abbrev pub ending_of : Ended → List ℕ → List Block → Ending
ending_of e buf m = ending e.status (take e.answered buf) e.moved e.sense m

-- a command that is done, or turned down with a number; with the buffer afterwards
pub record Carried : Type 0 where
  pub code : ℕ
  pub ending : Ending
  pub buffer : List ℕ

abbrev pub carried_with : ℕ → Ending → List ℕ → Carried
carried_with n e buf = record { code = n; ending = e; buffer = buf }

-- nothing was done: the blocks are as they were
abbrev pub turned : Refusal → List ℕ → List Block → Carried
turned r ds m = carried_with (refusal_number r) (failed sense.None m) ds

abbrev pub carried_of : Result Ended Refusal → List ℕ → List Block → Carried
carried_of (Ok e) buf m = carried_with 0 (ending_of e buf m) buf
carried_of (Err r) buf m = turned r buf m

abbrev pub done : Ending → List ℕ → Carried
done e ds = carried_with 0 e (front e.answer ds)

-- a command with a buffer of at least the transfer length
abbrev pub carried_out : Target → Cbw → List ℕ → List Block → Carried
carried_out t c ds m =
    cond (nat_lt (length ds) c.total) (turned ShortBuffer ds m)
    (done (performed t.place t.closed t.sense c.total c.direction c.command ds m) ds)
