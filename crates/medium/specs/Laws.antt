-- What reads and writes do to any blocks, in the words of whoever uses a medium.
use Rattle.std.specs.Prelude.{◌≡◌, ℕ, ◌<◌, ◌≤◌, ◌⊎◌, List, length, Ok, Err, ◌≢◌, ◌↔◌, slice_index_or}
use Rattle.std.specs.List.{AllByRecursion}
use Rattle.model.specs.declared.refusal.Fault.{Fault}
use Rattle.model.specs.declared.refusal.Fault.TheVariants.{Outside, Bad}
use Rattle.model.specs.Blocks.{Block, bad, good, Whole, answer, filled, written}

-- a block of the medium that is bad
abbrev pub BadAt : List Block → ℕ → Type 0
BadAt m b = (b < length m) × (slice_index_or m b bad ≡ bad)

-- a block of the medium with these bytes
abbrev pub GoodAt : List Block → ℕ → List ℕ → Type 0
GoodAt m b bs = (b < length m) × (slice_index_or m b bad ≡ good bs)

pub record MediumLaws : Type 0 where
  -- a call is refused as outside exactly where the block lies past the end or the buffer has not 512 bytes
  pub outside : (m : List Block) (b n : ℕ) → (answer m b n ≡ Err Outside) ↔ ((length m ≤ b) ⊎ (n ≢ 512))
  -- and as bad exactly where 512 bytes are asked of a bad block
  pub refused_bad : (m : List Block) (b n : ℕ) → (answer m b n ≡ Err Bad) ↔ (BadAt m b × (n ≡ 512))
  -- a good block is read as it stands
  pub reads : (m : List Block) (b : ℕ) (bs buf : List ℕ) → GoodAt m b bs → length buf ≡ 512 → (answer m b (length buf) ≡ Ok tt) × (filled m b buf ≡ bs)
  -- a good block that was written is read back
  pub read_back : (m : List Block) (b : ℕ) (bs buf : List ℕ) → answer m b (length bs) ≡ Ok tt → length buf ≡ 512
      → (answer (written m b bs) b (length buf) ≡ Ok tt) × (filled (written m b bs) b buf ≡ bs)
  -- any other block reads as before
  pub others : (m : List Block) (b c : ℕ) (bs buf : List ℕ) → (c ≢ b)
      → (answer (written m b bs) c (length buf) ≡ answer m c (length buf)) × (filled (written m b bs) c buf ≡ filled m c buf)
  -- a refused read leaves the buffer
  pub refused_read : (m : List Block) (b : ℕ) (buf : List ℕ) (f : Fault) → answer m b (length buf) ≡ Err f → filled m b buf ≡ buf
  -- a refused write leaves the blocks
  pub refused_write : (m : List Block) (b : ℕ) (bs : List ℕ) (f : Fault) → answer m b (length bs) ≡ Err f → written m b bs ≡ m
  -- the number of blocks never changes
  pub count : (m : List Block) (b : ℕ) (bs : List ℕ) → length (written m b bs) ≡ length m
  -- a block is bad after a write exactly where it was bad before
  pub marks : (m : List Block) (b c : ℕ) (bs : List ℕ) → BadAt (written m b bs) c ↔ BadAt m c
  -- a good block has 512 bytes after a write if each had before
  pub whole : (m : List Block) (b : ℕ) (bs : List ℕ) → AllByRecursion Whole m → AllByRecursion Whole (written m b bs)
