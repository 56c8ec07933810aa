-- What a straight medium means: block b on page b of its memory.
use Rattle.std.specs.Prelude.{List, vec_items}
use Rattle.model.specs.Blocks.{Block, blocks}
use Rattle.medium.specs.declared.straight.Straight.{Straight}

abbrev pub meaning_of : Straight → List Block
meaning_of s = blocks (vec_items s.store.memory) (vec_items s.store.runs) s.store.count
