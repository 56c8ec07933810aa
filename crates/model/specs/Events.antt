-- The events that reach a running stick, what each answers and changes, and runs of them.
use Rattle.std.specs.Prelude.{ℕ, List, [], ◌∷◌}
use Rattle.model.specs.Blocks.{Block}
use Rattle.model.specs.Bulk.{Bulked, bulked}
use Rattle.model.specs.Control.{Transferred, controlled}
use Rattle.model.specs.Layouts.{Layout}
use Rattle.model.specs.Presence.{passed, bus_reset}
use Rattle.model.specs.Recovery.{worked}
use Rattle.model.specs.Sticks.{Stick, repowered, first}

-- a control transfer with its setup bytes and buffer; a bulk command with its interface, CBW and buffer; a work step; a clock call with its
-- milliseconds; the bus signals; a power cycle
pub data Event : Type 0 where
  control : List ℕ → List ℕ → Event
  bulk : ℕ → List ℕ → List ℕ → Event
  work : Event
  clock : ℕ → Event
  reset suspend resume : Event
  power : Event

-- the refusal number or 0, the bytes answered, the CSW of a bulk command, and what the handed buffer then holds
pub record Reply : Type 0 where
  pub code : ℕ
  pub answer : List ℕ
  pub csw : List ℕ
  pub buffer : List ℕ

abbrev pub reply : ℕ → List ℕ → List ℕ → List ℕ → Reply
reply n bs w buf = record { code = n; answer = bs; csw = w; buffer = buf }

-- an event that hands no buffer is never turned down, and answers nothing
abbrev pub done : Reply
done = reply 0 [] [] []

pub record Step : Type 0 where
  pub reply : Reply
  pub next : Stick

abbrev pub stepped : Reply → Stick → Step
stepped r s = record { reply = r; next = s }

abbrev pub after_control : Transferred → Step
after_control o = stepped (reply o.code o.answer [] o.buffer) o.next

abbrev pub after_bulk : Bulked → Step
after_bulk o = stepped (reply o.code o.answer o.csw o.buffer) o.next

abbrev pub step : Layout → Stick → Event → Step
step lay s (control setup ds) = after_control (controlled lay setup ds s)
step lay s (bulk i cbw ds) = after_bulk (bulked lay i cbw ds s)
step lay s work = stepped done (worked lay s)
step lay s (clock ms) = stepped done (passed ms s.phase s)
step lay s reset = stepped done (bus_reset s)
step lay s suspend = stepped done s
step lay s resume = stepped done s
step lay s power = stepped done (repowered lay s)

-- the stick after a history since its first power-up, the newest event first
abbrev pub after : Layout → List Block → List Event → Stick
after lay m [] = first lay m
after lay m (e ∷ past) = (step lay (after lay m past) e).next

-- a further list of events, the oldest first: where it leads, and what is answered on the way
abbrev pub run : Layout → Stick → List Event → Stick
run lay s [] = s
run lay s (e ∷ es) = run lay (step lay s e).next es

abbrev pub replies : Layout → Stick → List Event → List Reply
replies lay s [] = []
replies lay s (e ∷ es) = (step lay s e).reply ∷ replies lay (step lay s e).next es
