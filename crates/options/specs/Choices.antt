-- The options: pairs of a name and a value, each at most once, in any order; what is not given is the bench's own.
-- Of several mistakes the first in the line is told, and of one option an unknown name before a repetition before a malformed value.
use Rattle.std.specs.Prelude.{ℕ, cond, List, [], ◌∷◌, Some, None, Ok, Err, vec_items, codes, Option, Result}
use Rattle.std.specs.Option.{option_map}
use Rattle.std.specs.Str.{bytes_eq}
use Rattle.model.specs.declared.layout.BadRun.{BadRun}
use Rattle.fields.specs.Hexadecimal.{hex_bytes}
use Rattle.fields.specs.declared.error.LineError.{LineError}
use Rattle.values.specs.Decimals.{decimal_said}
use Rattle.values.specs.Mistakes.{mistake_of}
use Rattle.values.specs.Runs.{runs_said}
use Rattle.options.specs.declared.choice.Chosen.{Chosen}
use Rattle.options.specs.declared.choice.Fit.{Fit}
use Rattle.options.specs.declared.choice.Make.{Make}
use Rattle.options.specs.declared.choice.Make.TheVariants.{Straight, Turning}
use Rattle.options.specs.declared.choice.Name.{Name}
use Rattle.options.specs.declared.choice.Name.TheVariants.{Layout, Medium, Blocks, Bad}
use Rattle.values.specs.declared.error.Mistake.{Mistake}
use Rattle.values.specs.declared.error.Mistake.TheVariants.{UnknownOption, MissingValue, RepeatedOption, MalformedValue}

-- what was given so far, with bytes and runs as lists
pub record Choice : Type 0 where
  pub layout : Option (List ℕ)
  pub make : Option Make
  pub blocks : Option ℕ
  pub runs : Option (List BadRun)

abbrev pub choice : Option (List ℕ) → Option Make → Option ℕ → Option (List BadRun) → Choice
choice l m n rs = record { layout = l; make = m; blocks = n; runs = rs }

abbrev pub choice_of : Chosen → Choice
choice_of c = choice (option_map vec_items c.layout) c.make c.blocks (option_map vec_items c.runs)

abbrev pub nothing : Choice
nothing = choice None None None None

-- the first mistake ends it
abbrev pub and_then : {X Y : Type 0} → Result X Mistake → (X → Result Y Mistake) → Result Y Mistake
and_then (Err m) f = Err m
and_then (Ok x) f = f x

-- an option that was given before is not given again
abbrev pub once : {X Y : Type 0} → Option X → Result Y Mistake → Result Y Mistake
once None said = said
once (Some x) said = Err RepeatedOption

-- a value that has to be of its form
abbrev pub formed : {X : Type 0} → Option X → Result X Mistake
formed None = Err MalformedValue
formed (Some x) = Ok x

abbrev pub in_hex : Result (List ℕ) LineError → Result (List ℕ) Mistake
in_hex (Ok bs) = Ok bs
in_hex (Err e) = Err (mistake_of e)

abbrev pub make_said : List ℕ → Option Make
make_said w = cond (bytes_eq w (codes "straight")) (Some Straight) (cond (bytes_eq w (codes "turning")) (Some Turning) None)

abbrev pub layout_chosen : List ℕ → Choice → Result Choice Mistake
layout_chosen w c = once c.layout (and_then (in_hex (hex_bytes w)) (λ bs. Ok (choice (Some bs) c.make c.blocks c.runs)))

abbrev pub make_chosen : List ℕ → Choice → Result Choice Mistake
make_chosen w c = once c.make (and_then (formed (make_said w)) (λ m. Ok (choice c.layout (Some m) c.blocks c.runs)))

abbrev pub blocks_chosen : List ℕ → Choice → Result Choice Mistake
blocks_chosen w c = once c.blocks (and_then (formed (decimal_said w)) (λ n. Ok (choice c.layout c.make (Some n) c.runs)))

abbrev pub runs_chosen : List ℕ → Choice → Result Choice Mistake
runs_chosen w c = once c.runs (and_then (runs_said w) (λ rs. Ok (choice c.layout c.make c.blocks (Some rs))))

abbrev pub name_said : List ℕ → Option Name
name_said w =
    cond (bytes_eq w (codes "--layout")) (Some Layout)
    (cond (bytes_eq w (codes "--medium")) (Some Medium)
    (cond (bytes_eq w (codes "--blocks")) (Some Blocks)
    (cond (bytes_eq w (codes "--bad")) (Some Bad) None)))

-- a name that has to be one of these
abbrev pub known : Option Name → Result Name Mistake
known None = Err UnknownOption
known (Some n) = Ok n

abbrev pub option_said : Name → List ℕ → Choice → Result Choice Mistake
option_said Layout value c = layout_chosen value c
option_said Medium value c = make_chosen value c
option_said Blocks value c = blocks_chosen value c
option_said Bad value c = runs_chosen value c

abbrev pub named : Option Name → List ℕ → Choice → Result Choice Mistake
named None value c = Err UnknownOption
named (Some n) value c = option_said n value c

-- a last word with no value behind it
abbrev pub lone_word : Option Name → Mistake
lone_word None = UnknownOption
lone_word (Some n) = MissingValue

abbrev pub choices_said : List (List ℕ) → Choice → Result Choice Mistake
choices_said [] c = Ok c
choices_said (w ∷ []) c = Err (lone_word (name_said w))
choices_said (w ∷ value ∷ ws) c = and_then (named (name_said w) value c) (λ d. choices_said ws d)

-- the stick that is fitted
pub record Fitted : Type 0 where
  pub layout : List ℕ
  pub make : Make
  pub blocks : ℕ
  pub runs : List BadRun

abbrev pub fitted : List ℕ → Make → ℕ → List BadRun → Fitted
fitted l m n rs = record { layout = l; make = m; blocks = n; runs = rs }

abbrev pub fit_of : Fit → Fitted
fit_of f = fitted (vec_items f.layout) f.make f.blocks (vec_items f.runs)

abbrev pub or_else : {X : Type 0} → Option X → X → X
or_else None own = own
or_else (Some x) own = x

-- the bench's own: 64 straight good blocks, one interface with one unit on the first 40, and IDs of 0
abbrev pub own_layout : List ℕ
own_layout = 0 ∷ 0 ∷ 0 ∷ 0 ∷ 0 ∷ 0 ∷ 1 ∷ 1 ∷ 0 ∷ 0 ∷ 0 ∷ 0 ∷ 40 ∷ 0 ∷ 0 ∷ 0 ∷ []

abbrev pub filled : Choice → Fitted
filled c = fitted (or_else c.layout own_layout) (or_else c.make Straight) (or_else c.blocks 64) (or_else c.runs [])

abbrev pub fit_said : List (List ℕ) → Result Fitted Mistake
fit_said ws = and_then (choices_said ws nothing) (λ c. Ok (filled c))
