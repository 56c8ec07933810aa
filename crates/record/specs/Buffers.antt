-- The buffer that comes with an event: room for an answer where data go to the host, else the data that arrive.
use Rattle.std.specs.Prelude.{ℕ, Bool, cond, List, replicate, ◌==◌}
use Rattle.model.specs.Events.{Event as Happening, control, bulk, work, clock, reset, suspend, resume, power}
use Rattle.model.specs.Bytes.{byte}
use Rattle.model.specs.Requests.{is_reading}

-- the flags of a CBW of any length, at byte 12, say that data go to the host
abbrev pub says_in : List ℕ → Bool
says_in cbw = byte cbw 12 == 0x80

-- 1,024 zeros, shut so that no proof computes them
unfoldable pub answer_room : List ℕ
answer_room = replicate 1024 0

-- room for an answer, or the data that arrive
abbrev pub buffered : Bool → List ℕ → List ℕ
buffered answered arriving = cond answered answer_room arriving

abbrev pub handed_event : Happening → Happening
handed_event (control setup arriving) = control setup (buffered (is_reading setup) arriving)
handed_event (bulk interface cbw arriving) = bulk interface cbw (buffered (says_in cbw) arriving)
handed_event work = work
handed_event (clock ms) = clock ms
handed_event reset = reset
handed_event suspend = suspend
handed_event resume = resume
handed_event power = power
