-- What the results of calls mean, in the model's words.
use Rattle.std.specs.Prelude.{ℕ, List, [], take, Ok, Err, Result}
use Rattle.model.specs.Control.{Outcome, outcome, refuse, Transferred, transferred}
use Rattle.model.specs.Refusals.{refusal_number}
use Rattle.model.specs.Sticks.{Stick}
use Rattle.model.specs.declared.ids.Phase.{Phase}
use Rattle.model.specs.declared.ids.Phase.TheVariants.{Present}
use Rattle.model.specs.declared.ids.Phase.TheVariants as phase
use Rattle.model.specs.declared.refusal.Refusal.{Refusal}
use Rattle.model.specs.declared.refusal.Refusal.TheVariants.{Idle, Gone}

-- an answer or a refusal, with the stick afterwards
abbrev pub outcome_of : Result (List ℕ) Refusal → Stick → Outcome
outcome_of (Ok bs) s = outcome 0 bs s
outcome_of (Err r) s = refuse r s

-- acceptance or a refusal
abbrev pub done_of : Result (Unit {0}) Refusal → Stick → Outcome
done_of (Ok u) s = outcome 0 [] s
done_of (Err r) s = refuse r s

-- a transfer: so many bytes answered at the buffer's front, or a refusal; with the buffer and the stick afterwards
abbrev pub transfer_of : Result ℕ Refusal → List ℕ → Stick → Transferred
transfer_of (Ok n) buf s = transferred 0 (take n buf) buf s
transfer_of (Err r) buf s = transferred (refusal_number r) [] buf s

-- refused while the stick idles, and while it is gone
abbrev pub presence : Phase → Result (Unit {0}) Refusal
presence Present = Ok tt
presence (phase.Idle i t a b) = Err Idle
presence (phase.Gone i t b) = Err Gone
