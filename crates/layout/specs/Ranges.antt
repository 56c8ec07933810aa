-- Which units an interface has, by their numbers in the whole stick.
use Rattle.std.specs.Prelude.{ℕ, ◌+◌, cond, length, take, Some, None, Option, nat_lt, slice_index}
use Rattle.std.specs.declared.ops.Range.{Range}
use Rattle.model.specs.Layouts.{Layout, sum}

abbrev pub range : ℕ → ℕ → Range ℕ
range a b = record { start = a; end = b }

-- the units of an interface: the first, and the one behind the last
abbrev pub range_of : Layout → ℕ → Option (Range ℕ)
range_of lay i = cond (nat_lt i (length lay.counts)) (Some (range (sum (take i lay.counts)) (sum (take i lay.counts) + slice_index lay.counts i))) None
