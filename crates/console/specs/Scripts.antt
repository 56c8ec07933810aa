-- A script's lines, and what they make of a stick.
use Rattle.std.specs.Prelude.{Some, None, Ok, Err, Option, Result}
use Rattle.model.specs.Events.{Event as Happening, step}
use Rattle.model.specs.Layouts.{Layout}
use Rattle.model.specs.Sticks.{Stick}
use Rattle.record.specs.Buffers.{handed_event}

-- the stick after a line: a blank one leaves it, and an event takes a step with the buffer that it is handed
abbrev pub stick_after : {E : Type 0} → Layout → Stick → Result (Option Happening) E → Stick
stick_after lay s (Err e) = s
stick_after lay s (Ok None) = s
stick_after lay s (Ok (Some h)) = (step lay s (handed_event h)).next
