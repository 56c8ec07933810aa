-- Memory in pages of 512 bytes, after a write to one of them.
use Rattle.std.specs.Prelude.{ℕ, ◌+◌, ◌*◌, cond, ◌&&◌, List, ◌++◌, length, take, drop, ◌==◌, nat_le}

-- the memory with other bytes on page p
abbrev pub with_page : List ℕ → ℕ → List ℕ → List ℕ
with_page memory p bytes = take (512 * p) memory ++ (bytes ++ drop (512 * p + 512) memory)

-- the memory after 512 bytes are written to a page that is in it; other bytes and other pages leave it
abbrev pub repaged : List ℕ → ℕ → List ℕ → List ℕ
repaged memory p bytes = cond (length bytes == 512 && nat_le (512 * p + 512) (length memory)) (with_page memory p bytes) memory
