-- Turns and replies of the code, in the model's words.
use Rattle.std.specs.Prelude.{ℕ, List, [], take, Option, Ok, Err, Result, unwrap_or}
use Rattle.events.specs.Happenings.{event_of, buffer_of}
use Rattle.model.specs.Events.{Event, Reply, reply}
use Rattle.model.specs.Refusals.{refusal_number}
use Rattle.model.specs.declared.refusal.Refusal.{Refusal}
use Rattle.trial.specs.declared.turn.Done.{Done}
use Rattle.trial.specs.declared.turn.Turn.{Turn}

abbrev pub done_with : Option (List ℕ) → ℕ → Done
done_with w n = record { csw = w; answered = n }

-- a reply, with the buffer afterwards
abbrev pub reply_of : Result Done Refusal → List ℕ → Reply
reply_of (Ok d) buf = reply 0 (take d.answered buf) (unwrap_or d.csw []) buf
reply_of (Err r) buf = reply (refusal_number r) [] [] buf

abbrev pub event_in : Turn → Event
event_in t = event_of t.event

abbrev pub reply_in : Turn → Reply
reply_in t = reply_of t.reply (buffer_of t.event)

-- how many bytes of its buffer a reply says
abbrev pub count_of : Result Done Refusal → ℕ
count_of (Ok d) = d.answered
count_of (Err r) = 0
