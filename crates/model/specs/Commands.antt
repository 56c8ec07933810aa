-- What a command does on its unit: the checks in their order, then the data.
use Rattle.std.specs.Prelude.{ℕ, zero, suc, ◌+◌, ◌-◌, ◌*◌, min, Bool, true, false, cond, ◌&&◌, ◌||◌, List, [], ◌∷◌, ◌++◌, length, take, drop, replicate, Option, ◌==◌, nat_le, nat_lt, slice_index_or}
use Rattle.std.specs.declared.option.Option.TheVariants as option
use Rattle.model.specs.Blocks.{Block, bad, good, bytes_or, written}
use Rattle.model.specs.Bytes.{be32_of}
use Rattle.model.specs.Senses.{sense_data}
use Rattle.model.specs.Units.{Standing, impersonal, locked, unlocked, recovering}
use Rattle.model.specs.declared.command.Command.{Command}
use Rattle.model.specs.declared.command.Command.TheVariants.{TestUnitReady, RequestSense, Inquiry, ReadCapacity, Read, Write, Rejected}
use Rattle.model.specs.declared.command.Direction.{Direction}
use Rattle.model.specs.declared.command.Direction.TheVariants.{Out, In}
use Rattle.model.specs.declared.command.Status.{Status}
use Rattle.model.specs.declared.command.Status.TheVariants.{Passed, Failed, PhaseError}
use Rattle.model.specs.declared.layout.Place.{Place}
use Rattle.model.specs.declared.sense.Sense.{Sense}
use Rattle.model.specs.declared.sense.Sense.TheVariants.{None, Recovering, Locked, OutOfRange, ReadFault, WriteFault}

-- Blocks that move, from block b on

abbrev pub one_more : Block → ℕ → ℕ
one_more bad n = 0
one_more (good bs) n = suc n

-- how many of n blocks come before the first that is bad
abbrev pub good_run : ℕ → ℕ → List Block → ℕ
good_run zero b m = 0
good_run (suc n) b m = one_more (slice_index_or m b bad) (good_run n (suc b) m)

-- the bytes of n blocks
abbrev pub bytes_from : ℕ → ℕ → List Block → List ℕ
bytes_from zero b m = []
bytes_from (suc n) b m = bytes_or (slice_index_or m b bad) [] ++ bytes_from n (suc b) m

-- n blocks set to the first bytes handed, 512 each
abbrev pub stored : ℕ → ℕ → List ℕ → List Block → List Block
stored zero b ds m = m
stored (suc n) b ds m = stored n (suc b) (drop 512 ds) (written m b (take 512 ds))

-- What is answered

-- a direct access device of SPC-3 with no name
abbrev pub inquiry_data : List ℕ
inquiry_data = (0x00 ∷ 0x00 ∷ 0x05 ∷ 0x02 ∷ 0x1F ∷ 0x00 ∷ 0x00 ∷ 0x00 ∷ []) ++ replicate 28 0x20

-- the unit's last address and the length of a block
abbrev pub capacity_data : ℕ → List ℕ
capacity_data count = be32_of (count - 1) ++ be32_of 512

-- Checks

-- a unit that is not open: the sense of a command that needs it open
abbrev pub barrier : Standing → Option Sense
barrier impersonal = option.None
barrier (locked p) = option.Some Locked
barrier (unlocked p) = option.None
barrier (recovering p d) = option.Some Recovering

abbrev pub needs_open : Command → Bool
needs_open TestUnitReady = true
needs_open (RequestSense n) = false
needs_open (Inquiry n) = false
needs_open ReadCapacity = false
needs_open (Read a n) = true
needs_open (Write a n) = true
needs_open (Rejected s) = false

abbrev pub barred : Bool → Option Sense → Option Sense
barred false x = option.None
barred true x = x

-- address plus count past the unit's length
abbrev pub out_of_range : ℕ → ℕ → ℕ → Option Sense
out_of_range blocks a n = cond (nat_le (a + n) blocks) option.None (option.Some OutOfRange)

-- what is wrong with a command on a unit of so many blocks
abbrev pub wrong : ℕ → Command → Option Sense
wrong blocks TestUnitReady = option.None
wrong blocks (RequestSense n) = option.None
wrong blocks (Inquiry n) = option.None
wrong blocks ReadCapacity = option.None
wrong blocks (Read a n) = out_of_range blocks a n
wrong blocks (Write a n) = out_of_range blocks a n
wrong blocks (Rejected s) = option.Some s

-- the first of two
abbrev pub either : Option Sense → Option Sense → Option Sense
either option.None y = y
either (option.Some x) y = option.Some x

-- why a command fails before any data
abbrev pub failure : ℕ → Option Sense → Command → Option Sense
failure blocks closed c = either (barred (needs_open c) closed) (wrong blocks c)

-- the number of bytes that a command means to move
abbrev pub meant : Command → ℕ
meant TestUnitReady = 0
meant (RequestSense n) = min 18 n
meant (Inquiry n) = min 36 n
meant ReadCapacity = 8
meant (Read a n) = 512 * n
meant (Write a n) = 512 * n
meant (Rejected s) = 0

abbrev pub goes : Command → Direction
goes TestUnitReady = In
goes (RequestSense n) = In
goes (Inquiry n) = In
goes ReadCapacity = In
goes (Read a n) = In
goes (Write a n) = Out
goes (Rejected s) = In

abbrev pub is_other : Direction → Direction → Bool
is_other Out Out = false
is_other Out In = true
is_other In Out = true
is_other In In = false

-- a command that means some bytes, but the host says another direction or fewer bytes
abbrev pub mismatched : ℕ → Direction → Command → Bool
mismatched total d c = nat_lt 0 (meant c) && (is_other d (goes c) || nat_lt total (meant c))

-- How a command ends: its status, the bytes answered, how many bytes moved, the unit's sense and the blocks afterwards
pub record Ending : Type 0 where
  pub status : Status
  pub answer : List ℕ
  pub moved : ℕ
  pub sense : Sense
  pub blocks : List Block

abbrev pub ending : Status → List ℕ → ℕ → Sense → List Block → Ending
ending st bs n s m = record { status = st; answer = bs; moved = n; sense = s; blocks = m }

abbrev pub told : List ℕ → List Block → Ending
told bs m = ending Passed bs (length bs) None m

abbrev pub failed : Sense → List Block → Ending
failed s m = ending Failed [] 0 s m

-- of count blocks so many moved
abbrev pub moved_blocks : ℕ → ℕ → Sense → List ℕ → List Block → Ending
moved_blocks count n s bs m = cond (n == count) (ending Passed bs (512 * n) None m) (ending Failed bs (512 * n) s m)

abbrev pub read_blocks : ℕ → ℕ → ℕ → ℕ → List Block → Ending
read_blocks a count b n m = moved_blocks count n (ReadFault (a + n)) (bytes_from n b m) m

abbrev pub write_blocks : ℕ → ℕ → ℕ → ℕ → List ℕ → List Block → Ending
write_blocks a count b n ds m = moved_blocks count n (WriteFault (a + n)) [] (stored n b ds m)

-- the data of a command that passed its checks, on a unit with this place and sense
abbrev pub moving : Place → Sense → Command → List ℕ → List Block → Ending
moving p s TestUnitReady ds m = told [] m
moving p s (RequestSense n) ds m = told (take n (sense_data s)) m
moving p s (Inquiry n) ds m = told (take n inquiry_data) m
moving p s ReadCapacity ds m = told (capacity_data p.count) m
moving p s (Read a n) ds m = read_blocks a n (p.start + a) (good_run n (p.start + a) m) m
moving p s (Write a n) ds m = write_blocks a n (p.start + a) (good_run n (p.start + a) m) ds m
moving p s (Rejected x) ds m = failed x m

abbrev pub unless_failed : Option Sense → List Block → Ending → Ending
unless_failed option.None m e = e
unless_failed (option.Some x) m e = failed x m

-- a command on a unit that is open, or closed for a reason; a phase error keeps the sense
abbrev pub performed : Place → Option Sense → Sense → ℕ → Direction → Command → List ℕ → List Block → Ending
performed p closed s total d c ds m =
    unless_failed (failure p.count closed c) m
    (cond (mismatched total d c) (ending PhaseError [] 0 s m) (moving p s c ds m))
