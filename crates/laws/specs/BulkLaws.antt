-- What holds of every bulk command, whatever the layout, the stick and the bytes that arrive.
use Rattle.std.specs.Prelude.{◌≡◌, ℕ, ◌+◌, ◌-◌, ◌*◌, ◌<◌, ◌≤◌, false, ◌⊎◌, ◌↔◌, List, [], ◌∷◌, ◌++◌, length, take, drop, replicate, Some, ◌≢◌, slice_index, slice_index_or}
use Rattle.std.specs.List.{AllByRecursion}
use Rattle.model.specs.Blocks.{bad, good}
use Rattle.model.specs.Bulk.{Bulked, bulked, place_at}
use Rattle.model.specs.Bytes.{byte, le32}
use Rattle.model.specs.Control.{find_unit, interface_at, unit_at}
use Rattle.model.specs.Layouts.{Layout, layout, place, place_count, place_start}
use Rattle.model.specs.Sticks.{Stick, first}
use Rattle.model.specs.Units.{is_locked}
use Rattle.model.specs.Wrappers.{cbw_in, judged_cbw}
use Rattle.model.specs.declared.command.Cbw.{Cbw}
use Rattle.model.specs.declared.command.Command.{Command}
use Rattle.model.specs.declared.command.Command.TheVariants.{Read, Write}
use Rattle.model.specs.declared.command.Direction.{Direction}
use Rattle.model.specs.declared.command.Direction.TheVariants.{Out, In}
use Rattle.model.specs.declared.ids.Phase.TheVariants.{Present}

-- The judgement of a CBW

-- the stick is there with the interface, which is not jammed and has a unit
pub record Serves (lay : Layout) (i : ℕ) (s : Stick) : Type 0 where
  pub present : s.phase ≡ Present
  pub there : i < length lay.counts
  pub free : (interface_at i s).jammed ≡ false
  pub inhabited : 0 < slice_index lay.counts i

-- against the highest unit of the interface: a CBW is refused with 16 exactly where it is judged 16; one that is judged 0 is carried out
-- where the buffer has its transfer length
pub record CbwJudgementAgrees : Type 0 where
  pub refused : (lay : Layout) (s : Stick) (i : ℕ) (cbw ds : List ℕ) → Serves lay i s
      → ((bulked lay i cbw ds s).code ≡ 16) ↔ (judged_cbw cbw (slice_index lay.counts i - 1) ≡ 16)
  pub carried_out : (lay : Layout) (s : Stick) (i : ℕ) (cbw ds : List ℕ) → Serves lay i s
      → judged_cbw cbw (slice_index lay.counts i - 1) ≡ 0 → le32 cbw 8 ≤ length ds → (bulked lay i cbw ds s).code ≡ 0

-- The answer to a CBW

-- 13 bytes, with the tag where the CBW had it
pub record Echo (cbw csw : List ℕ) : Type 0 where
  pub size : length csw ≡ 13
  pub tag : take 4 (drop 4 csw) ≡ take 4 (drop 4 cbw)

-- a call that is not turned down answers so
abbrev pub TagEchoed : Type 0
TagEchoed = (lay : Layout) (s : Stick) (i : ℕ) (cbw ds : List ℕ) → AllByRecursion (λ b. b < 256) cbw → (bulked lay i cbw ds s).code ≡ 0 → Echo cbw (bulked lay i cbw ds s).csw

-- the residue and the status that a CSW reports
abbrev pub residue_of : List ℕ → ℕ
residue_of csw = le32 csw 8

abbrev pub status_of : List ℕ → ℕ
status_of csw = byte csw 12

-- carried out, with this status: 0 passed, 1 failed, 2 phase error
abbrev pub Ends : ℕ → Bulked → Type 0
Ends status o = (o.code ≡ 0) × (status_of o.csw ≡ status)

-- What a WRITE leaves

-- a CBW by its fields
abbrev pub wrapper : ℕ → ℕ → Direction → ℕ → Command → Cbw
wrapper tag total d unit c = record { tag = tag; total = total; direction = d; unit = unit; command = c }

-- the block of a unit at an address
abbrev pub block_of : Layout → ℕ → ℕ → ℕ
block_of lay v a = place_start (place_at lay v) + a

-- a case in point: a unit of two blocks, at the end of a medium of four good blocks of zeros; a block of sevens goes out to its address 1, and
-- comes back
abbrev pub two : Layout
two = layout 0 0 0 (1 ∷ []) (place 2 2 ∷ [])

abbrev pub zeros : Stick
zeros = first two (replicate 4 (good (replicate 512 0)))

abbrev pub writing : List ℕ
writing = 0x55 ∷ 0x53 ∷ 0x42 ∷ 0x43 ∷ 1 ∷ 0 ∷ 0 ∷ 0 ∷ 0 ∷ 2 ∷ 0 ∷ 0 ∷ 0x00 ∷ 0 ∷ 10 ∷ 0x2A ∷ 0 ∷ 0 ∷ 0 ∷ 0 ∷ 1 ∷ 0 ∷ 0 ∷ 1 ∷ 0 ∷ 0 ∷ 0 ∷ 0 ∷ 0 ∷ 0 ∷ 0 ∷ []

abbrev pub reading : List ℕ
reading = 0x55 ∷ 0x53 ∷ 0x42 ∷ 0x43 ∷ 2 ∷ 0 ∷ 0 ∷ 0 ∷ 0 ∷ 2 ∷ 0 ∷ 0 ∷ 0x80 ∷ 0 ∷ 10 ∷ 0x28 ∷ 0 ∷ 0 ∷ 0 ∷ 0 ∷ 1 ∷ 0 ∷ 0 ∷ 1 ∷ 0 ∷ 0 ∷ 0 ∷ 0 ∷ 0 ∷ 0 ∷ 0 ∷ []

pub record Sevens : Type 0 where
  pub says_write : cbw_in writing ≡ Some (wrapper 1 512 Out 0 (Write 1 1))
  pub says_read : cbw_in reading ≡ Some (wrapper 2 512 In 0 (Read 1 1))
  pub passed : Ends 0 (bulked two 0 writing (replicate 512 7) zeros)
  pub blocks : (bulked two 0 writing (replicate 512 7) zeros).next.blocks ≡ replicate 3 (good (replicate 512 0)) ++ (good (replicate 512 7) ∷ [])
  pub read : (bulked two 0 reading (replicate 512 0) (bulked two 0 writing (replicate 512 7) zeros).next).answer ≡ replicate 512 7

pub record WrittenIsRead : Type 0 where
  -- a WRITE that passed took its bytes from the front of the buffer, and a READ of the same blocks passes and answers them
  pub read_back : (lay : Layout) (s : Stick) (i k a n t t' h h' : ℕ) (d : Direction) (out back ds buf : List ℕ)
      → cbw_in out ≡ Some (wrapper t h d k (Write a n)) → Ends 0 (bulked lay i out ds s)
      → cbw_in back ≡ Some (wrapper t' h' In k (Read a n)) → 512 * n ≤ h' → h' ≤ length buf
      → let o = bulked lay i back buf (bulked lay i out ds s).next in Ends 0 o × (o.answer ≡ take (512 * n) ds)
  -- whatever its end, no other block changed
  pub others : (lay : Layout) (s : Stick) (i k a n t h v : ℕ) (d : Direction) (out ds : List ℕ)
      → cbw_in out ≡ Some (wrapper t h d k (Write a n)) → find_unit lay i k ≡ Some v
      → (b : ℕ) → (b < block_of lay v a) ⊎ (block_of lay v a + n ≤ b) → slice_index_or (bulked lay i out ds s).next.blocks b bad ≡ slice_index_or s.blocks b bad
  -- and no bulk command changes the number of blocks
  pub count : (lay : Layout) (s : Stick) (i : ℕ) (cbw ds : List ℕ) → length (bulked lay i cbw ds s).next.blocks ≡ length s.blocks
  pub sevens : Sevens

-- What leaves the stick as it was

-- a WRITE that passed every check: its unit is there and not Locked, its blocks lie within the unit, and enough bytes are on their way out
pub record Admitted (lay : Layout) (i : ℕ) (cbw : List ℕ) (s : Stick) : Type 0 where
  pub tag : ℕ
  pub total : ℕ
  pub unit : ℕ
  pub number : ℕ
  pub address : ℕ
  pub count : ℕ
  pub says : cbw_in cbw ≡ Some (wrapper tag total Out unit (Write address count))
  pub found : find_unit lay i unit ≡ Some number
  pub unlocked : is_locked (unit_at number s).standing ≡ false
  pub within : address + count ≤ place_count (place_at lay number)
  pub enough : 512 * count ≤ total

pub record FailedBeforeData : Type 0 where
  -- a call that is turned down leaves units, blocks and buffer, and with any number but 16 the whole stick
  pub refused : (lay : Layout) (s : Stick) (i : ℕ) (cbw ds : List ℕ) → ((bulked lay i cbw ds s).code ≢ 0)
      → ((bulked lay i cbw ds s).next.units ≡ s.units) × ((bulked lay i cbw ds s).next.blocks ≡ s.blocks) × ((bulked lay i cbw ds s).buffer ≡ ds)
  pub turned_down : (lay : Layout) (s : Stick) (i : ℕ) (cbw ds : List ℕ) → ((bulked lay i cbw ds s).code ≢ 0) → ((bulked lay i cbw ds s).code ≢ 16)
      → (bulked lay i cbw ds s).next ≡ s
  -- blocks change only under a WRITE that passed every check
  pub admitted : (lay : Layout) (s : Stick) (i : ℕ) (cbw ds : List ℕ) → ((bulked lay i cbw ds s).next.blocks ≡ s.blocks) ⊎ Admitted lay i cbw s
  -- and not where the residue is the whole transfer length
  pub unmoved : (lay : Layout) (s : Stick) (i : ℕ) (cbw ds : List ℕ) → (bulked lay i cbw ds s).code ≡ 0 → residue_of (bulked lay i cbw ds s).csw ≡ le32 cbw 8
      → (bulked lay i cbw ds s).next.blocks ≡ s.blocks

-- a phase error leaves the whole stick, its unit's sense included, and the buffer; its residue is the whole transfer length
pub record Kept (cbw ds : List ℕ) (s : Stick) (o : Bulked) : Type 0 where
  pub stick : o.next ≡ s
  pub answer : o.answer ≡ []
  pub buffer : o.buffer ≡ ds
  pub residue : residue_of o.csw ≡ le32 cbw 8

abbrev pub PhaseErrorKeeps : Type 0
PhaseErrorKeeps = (lay : Layout) (s : Stick) (i : ℕ) (cbw ds : List ℕ) → Ends 2 (bulked lay i cbw ds s) → Kept cbw ds s (bulked lay i cbw ds s)
