-- Events of the code in the model's words, with their bytes as lists.
use Rattle.std.specs.Prelude.{ℕ, List, [], vec_items}
use Rattle.events.specs.declared.Event as code
use Rattle.events.specs.declared.Event.TheVariants.{Control, Bulk, Work, Clock, BusReset, BusSuspend, BusResume, PowerCycle}
use Rattle.model.specs.Events.{Event, control, bulk, work, clock, reset, suspend, resume, power}

abbrev pub event_of : code.Event → Event
event_of (Control setup buffer) = control (vec_items setup) (vec_items buffer)
event_of (Bulk interface cbw buffer) = bulk interface (vec_items cbw) (vec_items buffer)
event_of Work = work
event_of (Clock ms) = clock ms
event_of BusReset = reset
event_of BusSuspend = suspend
event_of BusResume = resume
event_of PowerCycle = power

-- the buffer that an event hands
abbrev pub buffer_of : code.Event → List ℕ
buffer_of (Control setup buffer) = vec_items buffer
buffer_of (Bulk interface cbw buffer) = vec_items buffer
buffer_of Work = []
buffer_of (Clock ms) = []
buffer_of BusReset = []
buffer_of BusSuspend = []
buffer_of BusResume = []
buffer_of PowerCycle = []

-- an event but for the buffer that it hands
abbrev pub unhanded : Event → Event
unhanded (control setup ds) = control setup []
unhanded (bulk i cbw ds) = bulk i cbw []
unhanded work = work
unhanded (clock ms) = clock ms
unhanded reset = reset
unhanded suspend = suspend
unhanded resume = resume
unhanded power = power
