-- Worked examples, as one statement about the definitions: each is computed from the bytes of transfers.
use Rattle.std.specs.Prelude.{◌≡◌, ℕ, ◌+◌, List, [], ◌∷◌, ◌++◌, length, replicate}
use Rattle.model.specs.Bytes.{le16, le32}
use Rattle.model.specs.Control.{controlled, unit_at}
use Rattle.model.specs.Layouts.{Layout, layout, place}
use Rattle.model.specs.Sticks.{Stick, first, repowered}
use Rattle.model.specs.Units.{Standing, unlocked}

-- a transfer with its bytes, or a power cycle
pub data Act : Type 0 where
  transfer : List ℕ → List ℕ → Act
  cycle : Act

abbrev pub acted : Layout → Act → Stick → Stick
acted lay (transfer setup ds) s = (controlled lay setup ds s).next
acted lay cycle s = repowered lay s

abbrev pub code_of : Layout → Act → Stick → ℕ
code_of lay (transfer setup ds) s = (controlled lay setup ds s).code
code_of lay cycle s = 0

abbrev pub answer_of : Layout → Act → Stick → List ℕ
answer_of lay (transfer setup ds) s = (controlled lay setup ds s).answer
answer_of lay cycle s = []

abbrev pub run : Layout → Stick → List Act → Stick
run lay s [] = s
run lay s (a ∷ more) = run lay (acted lay a s) more

abbrev pub codes_from : Layout → Stick → List Act → List ℕ
codes_from lay s [] = []
codes_from lay s (a ∷ more) = code_of lay a s ∷ codes_from lay (acted lay a s) more

-- one unit of so many blocks, and three interfaces of one unit each; on a medium without blocks, which no transfer looks at
abbrev pub sized : ℕ → Layout
sized n = layout 0 0 0 (1 ∷ []) (place 0 n ∷ [])

abbrev pub three : Layout
three = layout 0 0x10 0 (1 ∷ 1 ∷ 1 ∷ []) (place 0 1 ∷ place 1 1 ∷ place 2 1 ∷ [])

abbrev pub bench : Layout
bench = sized 40

abbrev pub codes : List Act → List ℕ
codes acts = codes_from bench (first bench []) acts

abbrev pub standing : List Act → Standing
standing acts = (unit_at 0 (run bench (first bench []) acts)).standing

-- what is answered to a transfer after some acts
abbrev pub told : Layout → List Act → Act → List ℕ
told lay before a = answer_of lay a (run lay (first lay []) before)

-- Store Passphrase with a phrase and a hint ended by a byte, to unit 0 of an interface
abbrev pub store_at : ℕ → List ℕ → List ℕ → ℕ → Act
store_at i p h end =
    let ds = ((length p + 3) ∷ 0x25 ∷ p) ++ (0 ∷ (length h + 3) ∷ 0x25 ∷ h) ++ (end ∷ []) in
    transfer (0x21 ∷ 0xFC ∷ 1 ∷ 0 ∷ i ∷ 0 ∷ length ds ∷ 0 ∷ []) ds

abbrev pub store : List ℕ → List ℕ → ℕ → Act
store = store_at 0

abbrev pub match : List ℕ → Act
match p = transfer (0x21 ∷ 0xFC ∷ 2 ∷ 0 ∷ 0 ∷ 0 ∷ (length p + 3) ∷ 0 ∷ []) (((length p + 3) ∷ 0x25 ∷ p) ++ (0 ∷ []))

abbrev pub lock_data : Act
lock_data = transfer (0xA1 ∷ 0xFD ∷ 0 ∷ 0 ∷ 0 ∷ 0 ∷ 0xFF ∷ 0 ∷ []) (replicate 255 0)

abbrev pub descriptor : Act
descriptor = transfer (0x80 ∷ 6 ∷ 0 ∷ 1 ∷ 0 ∷ 0 ∷ 18 ∷ 0 ∷ []) (replicate 18 0)

pub record Examples : Type 0 where
  -- a script: Lock Data of a new unit, Store Passphrase, a power cycle, and a wrong candidate
  pub new_unit : told bench [] (transfer (0xA1 ∷ 0xFD ∷ 0 ∷ 0 ∷ 0 ∷ 0 ∷ 0x13 ∷ 0 ∷ []) (replicate 1024 0)) ≡ 0x13 ∷ 0x25 ∷ 0x32 ∷ 0x64 ∷ 0 ∷ 0 ∷ 0 ∷ 0 ∷ 1 ∷ 0 ∷ 0 ∷ 0 ∷ 0x1E ∷ 0 ∷ 0 ∷ 0 ∷ 3 ∷ 0x25 ∷ 0 ∷ []
  pub script : codes (store (0x61 ∷ 0x62 ∷ []) [] 0 ∷ cycle ∷ match (0x61 ∷ []) ∷ []) ≡ 0 ∷ 0 ∷ 13 ∷ []
  -- phrases of 0 and 50 bytes are stored, 51 are malformed
  pub shortest : standing (store [] [] 0 ∷ []) ≡ unlocked []
  pub longest : standing (store (replicate 50 7) [] 0 ∷ []) ≡ unlocked (replicate 50 7)
  pub lengths : (codes (store [] [] 0 ∷ []) ++ codes (store (replicate 50 7) [] 0 ∷ []) ++ codes (store (replicate 51 7) [] 0 ∷ [])) ≡ 0 ∷ 0 ∷ 12 ∷ []
  -- a Store Passphrase of 157 bytes is too long
  pub too_long : codes (store (replicate 50 7) (replicate 101 7) 0 ∷ []) ≡ 9 ∷ []
  -- a hint ended by 7Fh reads back ended by 00h
  pub hint : told bench (store [] (0x41 ∷ []) 0x7F ∷ []) lock_data
      ≡ 20 ∷ 0x25 ∷ 0x32 ∷ 0x64 ∷ 0 ∷ 0 ∷ 0 ∷ 0 ∷ 3 ∷ 0 ∷ 0 ∷ 1 ∷ 30 ∷ 0 ∷ 0 ∷ 0 ∷ 4 ∷ 0x25 ∷ 0x41 ∷ 0 ∷ []
  -- after nine misses a correct candidate opens, after ten it does not
  pub nine_misses : codes (store (5 ∷ []) [] 0 ∷ cycle ∷ (replicate 9 (match []) ++ (match (5 ∷ []) ∷ []))) ≡ 0 ∷ 0 ∷ (replicate 9 13 ++ (0 ∷ []))
  pub opened : standing (store (5 ∷ []) [] 0 ∷ cycle ∷ (replicate 9 (match []) ++ (match (5 ∷ []) ∷ []))) ≡ unlocked (5 ∷ [])
  pub ten_misses : codes (store (5 ∷ []) [] 0 ∷ cycle ∷ (replicate 10 (match []) ++ (match (5 ∷ []) ∷ []))) ≡ 0 ∷ 0 ∷ (replicate 10 13 ++ (13 ∷ []))
  -- recovery of 16 blocks takes 10 ms, of 17 blocks 20, as Lock Data say
  pub steps : (le32 (told (sized 16) [] lock_data) 12 ∷ le32 (told (sized 17) [] lock_data) 12 ∷ []) ≡ 10 ∷ 20 ∷ []
  -- base 0010h, interfaces 0 and 2 Negotiable: idProduct 0015h
  pub product : le16 (told three (store_at 0 [] [] 0 ∷ store_at 2 [] [] 0 ∷ cycle ∷ []) descriptor) 10 ≡ 0x15
