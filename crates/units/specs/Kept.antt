-- What an array with something at its front stores.
use Rattle.std.specs.Prelude.{ℕ, ◌-◌, Bool, ◌&&◌, List, length, take, drop, replicate, ◌==◌, nat_le}
use Rattle.std.specs.Str.{bytes_eq}
use Rattle.units.specs.declared.stored.Stored.{Stored}

abbrev pub stored : {N : ℕ} → Stored N → List ℕ
stored {N} s = take s.len s.bytes

-- all N bytes are there, of which the first are in use, and the others are zeros
abbrev pub tidy : {N : ℕ} → Stored N → Bool
tidy {N} s = nat_le s.len N && (length s.bytes == N && bytes_eq (drop s.len s.bytes) (replicate (N - s.len) 0))
