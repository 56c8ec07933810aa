-- The claim on a secret is of something: two sticks that were run, stand alike but for a secret, and differ in it.
use Rattle.std.specs.Prelude.{◌≡◌, ℕ, true, false, List, [], ◌∷◌, map, length, replicate, slice_index_or}
use Rattle.model.specs.Blocks.{Block, bad, good, fitted_blocks}
use Rattle.model.specs.Control.{unit_at}
use Rattle.model.specs.Events.{Event, control, bulk, work, power, Reply, after, run, replies}
use Rattle.model.specs.Layouts.{Layout, layout, place, fitted_layout}
use Rattle.model.specs.Sticks.{Stick}
use Rattle.model.specs.declared.layout.BadRun.{BadRun}
use Rattle.model.specs.Units.{impersonal, locked}
use Rattle.privacy.specs.Claims.{AlikeBut, accepts, carries_candidate, completes, fits}

-- one interface with two units, of 17 and of 2 blocks
abbrev pub layout_bytes : List ℕ
layout_bytes = 0 ∷ 0 ∷ 0 ∷ 0 ∷ 0 ∷ 0 ∷ 1 ∷ 2 ∷ 0 ∷ 0 ∷ 0 ∷ 0 ∷ 17 ∷ 0 ∷ 0 ∷ 0 ∷ 18 ∷ 0 ∷ 0 ∷ 0 ∷ 2 ∷ 0 ∷ 0 ∷ 0 ∷ []

abbrev pub lay : Layout
lay = fitted_layout layout_bytes 20

-- 20 blocks, the third bad, as a straight medium has them on memory of zeros, and as a turning one has them, which needs a page more
abbrev pub bad_runs : List BadRun
bad_runs = record { start = 2; count = 1 } ∷ []

abbrev pub straight_blocks : List Block
straight_blocks = fitted_blocks 0 (replicate 10240 0) bad_runs

abbrev pub turning_blocks : List Block
turning_blocks = fitted_blocks 1 (replicate 10752 0) bad_runs

-- Store and Match Passphrase with a passphrase of one byte, to unit 0
abbrev pub store : ℕ → Event
store b = control (0x21 ∷ 0xFC ∷ 1 ∷ 0 ∷ 0 ∷ 0 ∷ 7 ∷ 0 ∷ []) (4 ∷ 0x25 ∷ b ∷ 0 ∷ 3 ∷ 0x25 ∷ 0 ∷ [])

abbrev pub match : ℕ → Event
match b = control (0x21 ∷ 0xFC ∷ 2 ∷ 0 ∷ 0 ∷ 0 ∷ 4 ∷ 0 ∷ []) (4 ∷ 0x25 ∷ b ∷ 0 ∷ [])

-- Erase Forgotten Passphrase, to unit 0
abbrev pub forget : Event
forget = control (0x21 ∷ 0xFC ∷ 5 ∷ 0 ∷ 0 ∷ 0 ∷ 0 ∷ 0 ∷ []) []

-- WRITE(10) of one block of bytes 7 to address 1 of unit 0
abbrev pub write : Event
write = bulk 0
    (0x55 ∷ 0x53 ∷ 0x42 ∷ 0x43 ∷ 1 ∷ 2 ∷ 3 ∷ 4 ∷ 0 ∷ 2 ∷ 0 ∷ 0 ∷ 0 ∷ 0 ∷ 10 ∷ 0x2A ∷ 0 ∷ 0 ∷ 0 ∷ 0 ∷ 1 ∷ 0 ∷ 0 ∷ 1 ∷ 0 ∷ 0 ∷ 0 ∷ 0 ∷ 0 ∷ 0 ∷ 0 ∷ [])
    (replicate 512 7)

-- one on a straight medium that got its passphrase and lost power; another on a turning medium, with a block written and another passphrase
abbrev pub one : Stick
one = after lay straight_blocks (power ∷ store 1 ∷ [])

abbrev pub two : Stick
two = after lay turning_blocks (power ∷ store 2 ∷ write ∷ [])

abbrev pub codes : Stick → List Event → List ℕ
codes s es = map (λ (r : Reply). r.code) (replies lay s es)

pub record Instances : Type 0 where
  -- the layout is one that a stick is fitted with, on either medium
  pub sizes : (length straight_blocks ≡ 20) × (length turning_blocks ≡ 20)
  pub fitted : lay ≡ layout 0 0 0 (2 ∷ []) (place 0 17 ∷ place 18 2 ∷ [])
  pub fitting : (fits lay (length straight_blocks) ≡ true) × (fits lay (length turning_blocks) ≡ true)
  -- both are Locked, with passphrases of their own and bytes of their own
  pub first_phrase : (unit_at 0 one).standing ≡ locked (1 ∷ [])
  pub second_phrase : (unit_at 0 two).standing ≡ locked (2 ∷ [])
  pub first_bytes : slice_index_or one.blocks 1 bad ≡ good (replicate 512 0)
  pub second_bytes : slice_index_or two.blocks 1 bad ≡ good (replicate 512 7)
  -- and alike but for those
  pub alike : AlikeBut lay 0 one two
  -- an incorrect candidate is refused by both; a correct one is accepted by the one that holds it
  pub refused : codes one (match 3 ∷ []) ≡ codes two (match 3 ∷ [])
  pub opened : accepts carries_candidate lay 0 one (match 1) ≡ true
  pub unopened : accepts carries_candidate lay 0 two (match 1) ≡ false
  -- a recovery of 17 blocks completes in the second work step, and the two are one
  pub completed : completes lay 0 (run lay one (forget ∷ work ∷ [])) work ≡ true
  pub recovered : run lay one (forget ∷ work ∷ work ∷ []) ≡ run lay two (forget ∷ work ∷ work ∷ [])
  pub impersonal_after : (unit_at 0 (run lay one (forget ∷ work ∷ work ∷ []))).standing ≡ impersonal
