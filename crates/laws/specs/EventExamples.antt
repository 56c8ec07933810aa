-- Worked examples, as one statement about the definitions: each is computed from the bytes of transfers.
use Rattle.std.specs.Prelude.{◌≡◌, ℕ, ◌+◌, false, List, [], ◌∷◌, ◌++◌, map, length, replicate}
use Rattle.model.specs.Blocks.{Block, good}
use Rattle.model.specs.Bytes.{le16, le32}
use Rattle.model.specs.Control.{unit_at}
use Rattle.model.specs.Events.{Event, control, bulk, clock, power, Reply, replies, run, step}
use Rattle.model.specs.Layouts.{Layout, layout, place}
use Rattle.model.specs.Sticks.{Stick, first, interface}
use Rattle.model.specs.Units.{Standing, unlocked}
use Rattle.model.specs.declared.ids.Ids.TheVariants.{Negotiable}
use Rattle.model.specs.declared.ids.Phase.TheVariants.{Present, Idle, Gone}

-- all that is answered to an event, a CSW first
abbrev pub answer_of : Layout → Stick → Event → List ℕ
answer_of lay s e = (step lay s e).reply.csw ++ (step lay s e).reply.answer

-- one unit of so many blocks, and three interfaces of one unit each; on a medium without blocks, which no control transfer looks at
abbrev pub sized : ℕ → Layout
sized n = layout 0 0 0 (1 ∷ []) (place 0 n ∷ [])

abbrev pub three : Layout
three = layout 0 0x10 0 (1 ∷ 1 ∷ 1 ∷ []) (place 0 1 ∷ place 1 1 ∷ place 2 1 ∷ [])

abbrev pub bench : Layout
bench = sized 40

abbrev pub codes : List Event → List ℕ
codes es = map (λ (r : Reply). r.code) (replies bench (first bench []) es)

abbrev pub standing : List Event → Standing
standing es = (unit_at 0 (run bench (first bench []) es)).standing

-- what is answered to an event after some others
abbrev pub told_on : List Block → Layout → List Event → Event → List ℕ
told_on m lay before e = answer_of lay (run lay (first lay m) before) e

abbrev pub told : Layout → List Event → Event → List ℕ
told = told_on []

-- Store Passphrase with a phrase and a hint ended by a byte, to unit 0 of an interface
abbrev pub store_at : ℕ → List ℕ → List ℕ → ℕ → Event
store_at i p h end =
    let ds = ((length p + 3) ∷ 0x25 ∷ p) ++ (0 ∷ (length h + 3) ∷ 0x25 ∷ h) ++ (end ∷ []) in
    control (0x21 ∷ 0xFC ∷ 1 ∷ 0 ∷ i ∷ 0 ∷ length ds ∷ 0 ∷ []) ds

abbrev pub store : List ℕ → List ℕ → ℕ → Event
store = store_at 0

abbrev pub match : List ℕ → Event
match p = control (0x21 ∷ 0xFC ∷ 2 ∷ 0 ∷ 0 ∷ 0 ∷ (length p + 3) ∷ 0 ∷ []) (((length p + 3) ∷ 0x25 ∷ p) ++ (0 ∷ []))

abbrev pub lock_data : Event
lock_data = control (0xA1 ∷ 0xFD ∷ 0 ∷ 0 ∷ 0 ∷ 0 ∷ 0xFF ∷ 0 ∷ []) (replicate 255 0)

abbrev pub descriptor : Event
descriptor = control (0x80 ∷ 6 ∷ 0 ∷ 1 ∷ 0 ∷ 0 ∷ 18 ∷ 0 ∷ []) (replicate 18 0)

-- 64 good blocks of zeros; READ(10) of one and of two blocks from address 39 on, and REQUEST SENSE
abbrev pub medium : List Block
medium = replicate 64 (good (replicate 512 0))

abbrev pub read_one : Event
read_one = bulk 0 (0x55 ∷ 0x53 ∷ 0x42 ∷ 0x43 ∷ 1 ∷ 2 ∷ 3 ∷ 4 ∷ 0 ∷ 2 ∷ 0 ∷ 0 ∷ 0x80 ∷ 0 ∷ 10 ∷ 0x28 ∷ 0 ∷ 0 ∷ 0 ∷ 0 ∷ 39 ∷ 0 ∷ 0 ∷ 1 ∷ 0 ∷ 0 ∷ 0 ∷ 0 ∷ 0 ∷ 0 ∷ 0 ∷ []) (replicate 512 0xFF)

abbrev pub read_two : Event
read_two = bulk 0 (0x55 ∷ 0x53 ∷ 0x42 ∷ 0x43 ∷ 1 ∷ 2 ∷ 3 ∷ 4 ∷ 0 ∷ 4 ∷ 0 ∷ 0 ∷ 0x80 ∷ 0 ∷ 10 ∷ 0x28 ∷ 0 ∷ 0 ∷ 0 ∷ 0 ∷ 39 ∷ 0 ∷ 0 ∷ 2 ∷ 0 ∷ 0 ∷ 0 ∷ 0 ∷ 0 ∷ 0 ∷ 0 ∷ []) (replicate 1024 0xFF)

abbrev pub request_sense : Event
request_sense = bulk 0 (0x55 ∷ 0x53 ∷ 0x42 ∷ 0x43 ∷ 5 ∷ 6 ∷ 7 ∷ 8 ∷ 18 ∷ 0 ∷ 0 ∷ 0 ∷ 0x80 ∷ 0 ∷ 6 ∷ 0x03 ∷ 0 ∷ 0 ∷ 0 ∷ 18 ∷ 0 ∷ 0 ∷ 0 ∷ 0 ∷ 0 ∷ 0 ∷ 0 ∷ 0 ∷ 0 ∷ 0 ∷ 0 ∷ []) (replicate 18 0xFF)

-- Change Interface Access of interface 0 to Negotiable IDs: 45 ms idle, 90 ms gone
abbrev pub change_access : Event
change_access = control (0x21 ∷ 0xFC ∷ 7 ∷ 0 ∷ 0 ∷ 0 ∷ 12 ∷ 0 ∷ []) (0x0C ∷ 0x25 ∷ 0x07 ∷ 0x50 ∷ 45 ∷ 0 ∷ 0 ∷ 0 ∷ 90 ∷ 0 ∷ 0 ∷ 0 ∷ [])

abbrev pub changed : List Event → Stick
changed es = run bench (first bench []) (change_access ∷ es)

pub record EventExamples : Type 0 where
  -- a script: Lock Data of a new unit, Store Passphrase, a power cycle, and a wrong candidate
  pub new_unit : told bench [] (control (0xA1 ∷ 0xFD ∷ 0 ∷ 0 ∷ 0 ∷ 0 ∷ 0x13 ∷ 0 ∷ []) (replicate 1024 0)) ≡ 0x13 ∷ 0x25 ∷ 0x32 ∷ 0x64 ∷ 0 ∷ 0 ∷ 0 ∷ 0 ∷ 1 ∷ 0 ∷ 0 ∷ 0 ∷ 0x1E ∷ 0 ∷ 0 ∷ 0 ∷ 3 ∷ 0x25 ∷ 0 ∷ []
  pub script : codes (store (0x61 ∷ 0x62 ∷ []) [] 0 ∷ power ∷ match (0x61 ∷ []) ∷ []) ≡ 0 ∷ 0 ∷ 13 ∷ []
  -- phrases of 0 and 50 bytes are stored, 51 are malformed
  pub shortest : standing (store [] [] 0 ∷ []) ≡ unlocked []
  pub longest : standing (store (replicate 50 7) [] 0 ∷ []) ≡ unlocked (replicate 50 7)
  pub lengths : (codes (store [] [] 0 ∷ []) ++ codes (store (replicate 50 7) [] 0 ∷ []) ++ codes (store (replicate 51 7) [] 0 ∷ [])) ≡ 0 ∷ 0 ∷ 12 ∷ []
  -- a Store Passphrase of 157 bytes is too long
  pub too_long : codes (store (replicate 50 7) (replicate 101 7) 0 ∷ []) ≡ 9 ∷ []
  -- a hint ended by 7Fh reads back ended by 00h
  pub hint : told bench (store [] (0x41 ∷ []) 0x7F ∷ []) lock_data
      ≡ 20 ∷ 0x25 ∷ 0x32 ∷ 0x64 ∷ 0 ∷ 0 ∷ 0 ∷ 0 ∷ 3 ∷ 0 ∷ 0 ∷ 1 ∷ 30 ∷ 0 ∷ 0 ∷ 0 ∷ 4 ∷ 0x25 ∷ 0x41 ∷ 0 ∷ []
  -- after nine misses a correct candidate opens, after ten it does not
  pub nine_misses : codes (store (5 ∷ []) [] 0 ∷ power ∷ (replicate 9 (match []) ++ (match (5 ∷ []) ∷ []))) ≡ 0 ∷ 0 ∷ (replicate 9 13 ++ (0 ∷ []))
  pub opened : standing (store (5 ∷ []) [] 0 ∷ power ∷ (replicate 9 (match []) ++ (match (5 ∷ []) ∷ []))) ≡ unlocked (5 ∷ [])
  pub ten_misses : codes (store (5 ∷ []) [] 0 ∷ power ∷ (replicate 10 (match []) ++ (match (5 ∷ []) ∷ []))) ≡ 0 ∷ 0 ∷ (replicate 10 13 ++ (13 ∷ []))
  -- recovery of 16 blocks takes 10 ms, of 17 blocks 20, as Lock Data say
  pub steps : (le32 (told (sized 16) [] lock_data) 12 ∷ le32 (told (sized 17) [] lock_data) 12 ∷ []) ≡ 10 ∷ 20 ∷ []
  -- base 0010h, interfaces 0 and 2 Negotiable: idProduct 0015h
  pub product : le16 (told three (store_at 0 [] [] 0 ∷ store_at 2 [] [] 0 ∷ power ∷ []) descriptor) 10 ≡ 0x15
  -- of 40 blocks, the last reads with status 0; one more fails with status 1 and residue 1,024, and its sense is 05/21/00
  pub reads : told_on medium bench [] read_one ≡ (0x55 ∷ 0x53 ∷ 0x42 ∷ 0x53 ∷ 1 ∷ 2 ∷ 3 ∷ 4 ∷ 0 ∷ 0 ∷ 0 ∷ 0 ∷ 0 ∷ []) ++ replicate 512 0
  pub past_the_end : told_on medium bench [] read_two ≡ 0x55 ∷ 0x53 ∷ 0x42 ∷ 0x53 ∷ 1 ∷ 2 ∷ 3 ∷ 4 ∷ 0 ∷ 4 ∷ 0 ∷ 0 ∷ 1 ∷ []
  pub sense : told_on medium bench (read_two ∷ []) request_sense
      ≡ (0x55 ∷ 0x53 ∷ 0x42 ∷ 0x53 ∷ 5 ∷ 6 ∷ 7 ∷ 8 ∷ 0 ∷ 0 ∷ 0 ∷ 0 ∷ 0 ∷ []) ++ (0x70 ∷ 0 ∷ 5 ∷ 0 ∷ 0 ∷ 0 ∷ 0 ∷ 10 ∷ 0 ∷ 0 ∷ 0 ∷ 0 ∷ 0x21 ∷ 0 ∷ 0 ∷ 0 ∷ 0 ∷ 0 ∷ [])
  -- an interface change of 45 and 90 ms: idle after 44, gone after 1 more, presented after 90 more
  pub idles : (changed (clock 44 ∷ [])).phase ≡ Idle 0 Negotiable 1 90
  pub gone : (changed (clock 44 ∷ clock 1 ∷ [])).phase ≡ Gone 0 Negotiable 90
  pub presented : (changed (clock 44 ∷ clock 1 ∷ clock 90 ∷ [])).phase ≡ Present
  pub identity : (changed (clock 44 ∷ clock 1 ∷ clock 90 ∷ [])).interfaces ≡ interface Negotiable false ∷ []
  pub refusals : codes (change_access ∷ clock 44 ∷ descriptor ∷ clock 1 ∷ descriptor ∷ clock 90 ∷ descriptor ∷ []) ≡ 0 ∷ 0 ∷ 5 ∷ 0 ∷ 6 ∷ 0 ∷ 0 ∷ []
