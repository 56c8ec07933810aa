-- The text of a part, and the byte behind it.
use Rattle.std.specs.Prelude.{ℕ, ◌+◌, ◌-◌, ◌&&◌, cond, List, length, take, drop, Some, None, Option, ◌==◌}
use Rattle.std.specs.Borrow.{Bor}
use Rattle.model.specs.Bytes.{byte, between}

abbrev pub text_behind : Bor (List ℕ) × ℕ → List ℕ × ℕ
text_behind x = (x.0.now, x.1)

-- a text of up to m bytes, behind a length and 25h and before a last byte
abbrev pub text_in : ℕ → List ℕ → Option (List ℕ × ℕ)
text_in m bs = cond (between 3 (m + 3) (length bs) && byte bs 1 == 0x25) (Some (take (length bs - 3) (drop 2 bs), byte bs (length bs - 1))) None
