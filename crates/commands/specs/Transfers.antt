-- What transfers of blocks answer and leave.
use Rattle.std.specs.Prelude.{ℕ, ◌*◌, ◌≤◌, List, ◌++◌, length, drop, Ok, Err, Result}
use Rattle.model.specs.Blocks.{Block}
use Rattle.model.specs.Commands.{good_run, bytes_from, stored}
use Rattle.commands.specs.declared.span.Span.{Span}
use Rattle.commands.specs.declared.stops.Stopped.{Stopped}

-- a buffer has room for all blocks of a span
abbrev pub HasRoom : Span → List ℕ → Type 0
HasRoom s buf = 512 * s.count ≤ length buf

-- how many of count blocks moved
abbrev pub moved_of : ℕ → Result (Unit {0}) Stopped → ℕ
moved_of count (Ok u) = count
moved_of count (Err s) = s.moved

-- the buffer after a reading of n blocks from b on: those that moved at its front, the rest as it was
abbrev pub loaded : ℕ → ℕ → List Block → List ℕ → List ℕ
loaded n b m buf = bytes_from (good_run n b m) b m ++ drop (512 * good_run n b m) buf

-- the blocks after a writing of n blocks from b on
abbrev pub kept : ℕ → ℕ → List ℕ → List Block → List Block
kept n b ds m = stored (good_run n b m) b ds m
