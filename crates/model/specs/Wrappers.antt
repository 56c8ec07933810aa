-- The command block wrapper (CBW): signature, tag (4), transfer length (4), flags, unit, command length (1 each), command (16);
-- and the command status wrapper (CSW): signature, tag (4), residue (4), status. Nothing here sees the stick.
use Rattle.std.specs.Prelude.{ℕ, ◌%◌, Bool, cond, ◌&&◌, ◌||◌, List, [], ◌∷◌, ◌++◌, length, Some, None, Option, ◌==◌, nat_le}
use Rattle.model.specs.Bytes.{byte, le32, be16, be32, le32_of, between}
use Rattle.model.specs.Refusals.{refusal_number}
use Rattle.model.specs.declared.command.Cbw.{Cbw}
use Rattle.model.specs.declared.command.Command.{Command}
use Rattle.model.specs.declared.command.Command.TheVariants.{TestUnitReady, RequestSense, Inquiry, ReadCapacity, Read, Write, Rejected}
use Rattle.model.specs.declared.command.Direction.{Direction}
use Rattle.model.specs.declared.command.Direction.TheVariants.{Out, In}
use Rattle.model.specs.declared.command.Status.{Status}
use Rattle.model.specs.declared.command.Status.TheVariants.{Passed, Failed, PhaseError}
use Rattle.model.specs.declared.refusal.Refusal.TheVariants.{BadWrapper}
use Rattle.model.specs.declared.sense.Sense.TheVariants.{UnlistedCommand, InvalidField}

-- the signature USBC
abbrev pub is_signed : List ℕ → Bool
is_signed bs = byte bs 0 == 0x55 && (byte bs 1 == 0x53 && (byte bs 2 == 0x42 && byte bs 3 == 0x43))

-- flags are 00h out, 80h in, and nothing else
abbrev pub direction_told : ℕ → Option Direction
direction_told flags = cond (flags == 0x00) (Some Out) (cond (flags == 0x80) (Some In) None)

-- the bytes of a listed command by its operation code; of an unlisted one any command length is in order
abbrev pub command_length : ℕ → ℕ
command_length code =
    cond (code == 0x00 || (code == 0x03 || code == 0x12)) 6
    (cond (code == 0x25 || (code == 0x28 || code == 0x2A)) 10 1)

-- the command, at byte 15: its fields are big-endian, its options DESC, EVPD and the page code have to be zero
abbrev pub command_in : List ℕ → Command
command_in bs =
    cond (byte bs 15 == 0x00) TestUnitReady
    (cond (byte bs 15 == 0x03) (cond (byte bs 16 % 2 == 0) (RequestSense (byte bs 19)) (Rejected InvalidField))
    (cond (byte bs 15 == 0x12) (cond (byte bs 16 % 2 == 0 && byte bs 17 == 0) (Inquiry (be16 bs 18)) (Rejected InvalidField))
    (cond (byte bs 15 == 0x25) ReadCapacity
    (cond (byte bs 15 == 0x28) (Read (be32 bs 17) (be16 bs 22))
    (cond (byte bs 15 == 0x2A) (Write (be32 bs 17) (be16 bs 22)) (Rejected UnlistedCommand))))))

abbrev pub cbw_with : Option Direction → List ℕ → Option Cbw
cbw_with None bs = None
cbw_with (Some d) bs = Some (record { tag = le32 bs 4; total = le32 bs 8; direction = d; unit = byte bs 13; command = command_in bs })

-- a command length of 1 to 16 that covers the command
abbrev pub is_covered : List ℕ → Bool
is_covered bs = between 1 16 (byte bs 14) && nat_le (command_length (byte bs 15)) (byte bs 14)

abbrev pub cbw_in : List ℕ → Option Cbw
cbw_in bs = cond (length bs == 31 && (is_signed bs && is_covered bs)) (cbw_with (direction_told (byte bs 12)) bs) None

-- the judgement of a CBW against the highest unit of its interface: 16, or 0
abbrev pub judged_unit : Option Cbw → ℕ → ℕ
judged_unit None highest = refusal_number BadWrapper
judged_unit (Some c) highest = cond (nat_le c.unit highest) 0 (refusal_number BadWrapper)

abbrev pub judged_cbw : List ℕ → ℕ → ℕ
judged_cbw bs highest = judged_unit (cbw_in bs) highest

abbrev pub status_number : Status → ℕ
status_number Passed = 0
status_number Failed = 1
status_number PhaseError = 2

-- the signature USBS, the tag that the CBW brought, the residue and the status
abbrev pub csw : ℕ → ℕ → Status → List ℕ
csw tag residue status = (0x55 ∷ 0x53 ∷ 0x42 ∷ 0x53 ∷ []) ++ (le32_of tag ++ (le32_of residue ++ (status_number status ∷ [])))
