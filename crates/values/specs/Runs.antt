-- Bad runs as text: START:LENGTH,START:LENGTH in decimal, at least one.
use Rattle.std.specs.Prelude.{ℕ, List, [], ◌∷◌, Some, None, Ok, Err, Option, Result, ◌==◌}
use Rattle.std.specs.List.{slice_split}
use Rattle.model.specs.declared.layout.BadRun.{BadRun}
use Rattle.values.specs.Decimals.{decimal_said}
use Rattle.values.specs.declared.error.Mistake.{Mistake}
use Rattle.values.specs.declared.error.Mistake.TheVariants.{MalformedValue}

-- what stands before, between and behind the marks
abbrev pub pieces : ℕ → List ℕ → List (List ℕ)
pieces mark cs = slice_split (λ c. c == mark) cs

abbrev pub bad_run : ℕ → ℕ → BadRun
bad_run start count = record { start = start; count = count }

abbrev pub run_by : Option ℕ → Option ℕ → Option BadRun
run_by None count = None
run_by (Some start) None = None
run_by (Some start) (Some count) = Some (bad_run start count)

-- a start and a length, and no third
abbrev pub pair_of : List (List ℕ) → Option BadRun
pair_of [] = None
pair_of (start ∷ []) = None
pair_of (start ∷ count ∷ []) = run_by (decimal_said start) (decimal_said count)
pair_of (start ∷ count ∷ third ∷ more) = None

abbrev pub pair_said : List ℕ → Option BadRun
pair_said cs = pair_of (pieces 0x3A cs)

-- a run more in front
abbrev pub with_run : Option BadRun → Result (List BadRun) Mistake → Result (List BadRun) Mistake
with_run None rest = Err MalformedValue
with_run (Some r) (Ok rs) = Ok (r ∷ rs)
with_run (Some r) (Err m) = Err m

abbrev pub pairs_said : List (List ℕ) → Result (List BadRun) Mistake
pairs_said [] = Ok []
pairs_said (p ∷ ps) = with_run (pair_said p) (pairs_said ps)

abbrev pub runs_said : List ℕ → Result (List BadRun) Mistake
runs_said cs = pairs_said (pieces 0x2C cs)
