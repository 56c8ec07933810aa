-- A medium by its meaning: for each block that it is bad, or its 512 bytes; and what a read and a write answer and leave.
use Rattle.std.specs.Prelude.{◌≡◌, ℕ, ◌+◌, ◌-◌, ◌*◌, ◌/◌, ◌%◌, Bool, cond, ◌&&◌, List, [], map, length, take, drop, Ok, Err, Result, ◌==◌, nat_le, nat_lt, slice_index_or, slice_set}
use Rattle.std.specs.List.{range_with_len}
use Rattle.model.specs.Bytes.{between}
use Rattle.model.specs.Extents.{sound, any_holds}
use Rattle.model.specs.declared.refusal.Fault.{Fault}
use Rattle.model.specs.declared.refusal.Fault.TheVariants.{Outside, Bad}
use Rattle.model.specs.declared.layout.BadRun.{BadRun}

pub data Block : Type 0 where
  bad : Block
  good : List ℕ → Block

-- the block lies on the medium, and the buffer has 512 bytes
abbrev pub reaches : List Block → ℕ → ℕ → Bool
reaches m b n = nat_lt b (length m) && n == 512

abbrev pub block_answer : Block → Result (Unit {0}) Fault
block_answer bad = Err Bad
block_answer (good bs) = Ok tt

-- what a read or a write answers, with a buffer of n bytes
abbrev pub answer : List Block → ℕ → ℕ → Result (Unit {0}) Fault
answer m b n = cond (reaches m b n) (block_answer (slice_index_or m b bad)) (Err Outside)

abbrev pub bytes_or : Block → List ℕ → List ℕ
bytes_or bad buf = buf
bytes_or (good bs) buf = bs

-- the buffer after a read
abbrev pub filled : List Block → ℕ → List ℕ → List ℕ
filled m b buf = cond (reaches m b (length buf)) (bytes_or (slice_index_or m b bad) buf) buf

abbrev pub replaced : Block → List ℕ → Block
replaced bad bs = bad
replaced (good old) bs = good bs

-- the blocks after a write
abbrev pub written : List Block → ℕ → List ℕ → List Block
written m b bs = cond (reaches m b (length bs)) (slice_set m b (replaced (slice_index_or m b bad) bs)) m

-- a block is bad, or has 512 bytes
abbrev pub Whole : Block → Type 0
Whole bad = Unit {0}
Whole (good bs) = length bs ≡ 512

-- Fitting: memory in pages of 512 bytes, and runs of bad blocks

abbrev pub page : List ℕ → ℕ → List ℕ
page memory p = take 512 (drop (512 * p) memory)

-- a run of bad blocks holds the block
abbrev pub run_start : BadRun → ℕ
run_start r = r.start

abbrev pub run_count : BadRun → ℕ
run_count r = r.count

abbrev pub is_bad : List BadRun → ℕ → Bool
is_bad runs b = any_holds run_start run_count b runs

abbrev pub block_on : List ℕ → List BadRun → ℕ → ℕ → Block
block_on memory runs b p = cond (is_bad runs b) bad (good (page memory p))

-- n blocks, each on the page that a map gives
abbrev pub mapped_blocks : List ℕ → List BadRun → (ℕ → ℕ) → ℕ → List Block
mapped_blocks memory runs at n = map (λ b. block_on memory runs b (at b)) (range_with_len 0 n)

-- n blocks, block b on page b
abbrev pub blocks : List ℕ → List BadRun → ℕ → List Block
blocks memory runs n = mapped_blocks memory runs (λ b. b) n

-- the rules for memory of so many bytes with `spare` pages more than blocks: whole pages, 1 to 1,024 blocks, at most 8 bad runs that
-- pass the check against the number of blocks
abbrev pub medium_rules : ℕ → ℕ → List BadRun → Bool
medium_rules spare bytes runs =
    (bytes % 512 == 0) && (between (1 + spare) (1024 + spare) (bytes / 512) && (nat_le (length runs) 8 && sound run_start run_count 0 (bytes / 512 - spare) runs))

-- what a fitted medium means: no blocks where the rules are broken
abbrev pub fitted_blocks : ℕ → List ℕ → List BadRun → List Block
fitted_blocks spare memory runs = cond (medium_rules spare (length memory) runs) (blocks memory runs (length memory / 512 - spare)) []
