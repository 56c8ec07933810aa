-- What a turning medium holds: its blocks, and where their bytes lie.
use Rattle.std.specs.Prelude.{ℕ, List, vec_items, slice_index, slice_set}
use Rattle.model.specs.Blocks.{Block, mapped_blocks}
use Rattle.medium.specs.Stored.{with_page}
use Rattle.medium.specs.declared.turning.Turning.{Turning}

-- block b on page number b of the list
abbrev pub meaning_of : Turning → List Block
meaning_of s = mapped_blocks (vec_items s.store.memory) (vec_items s.store.runs) (λ b. slice_index s.pages b) s.store.count

pub record Laid : Type 0 where
  pub memory : List ℕ
  pub pages : List ℕ
  pub spare : ℕ

abbrev pub laid_as : List ℕ → List ℕ → ℕ → Laid
laid_as m ps s = record { memory = m; pages = ps; spare = s }

abbrev pub laid : Turning → Laid
laid s = laid_as (vec_items s.store.memory) s.pages s.spare

-- block b moves to the spare page with its new bytes, and the page that it gives up is the spare
abbrev pub turned : Laid → ℕ → List ℕ → Laid
turned l b bytes = laid_as (with_page l.memory l.spare bytes) (slice_set l.pages b l.spare) (slice_index l.pages b)
