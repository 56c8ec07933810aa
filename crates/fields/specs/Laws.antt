-- Laws above the definitions: how a line falls into words, and that bytes written as text are read as they were meant.
use Rattle.std.specs.Prelude.{◌≡◌, ℕ, ◌<◌, List, [], ◌∷◌, ◌++◌, length, Ok, ◌≢◌}
use Rattle.std.specs.List.{AllByRecursion}
use Rattle.fields.specs.Hexadecimal.{hex_bytes, hex_text}
use Rattle.fields.specs.Words.{words}

-- with the empty text, which has no word, these two say what words are: a blank parts them, and what has no blank is one word
pub record WordsArePartedByBlanks : Type 0 where
  pub parted : (before after : List ℕ) → words (before ++ (0x20 ∷ after)) ≡ words before ++ words after
  pub whole : (word : List ℕ) → 0 < length word → AllByRecursion (λ c. c ≢ 0x20) word → words word ≡ word ∷ []

abbrev pub Bytes : List ℕ → Type 0
Bytes bs = AllByRecursion (λ b. b < 256) bs

-- the text of bytes says those bytes
abbrev pub HexReadsBack : Type 0
HexReadsBack = (bs : List ℕ) → Bytes bs → hex_bytes (hex_text bs) ≡ Ok bs
