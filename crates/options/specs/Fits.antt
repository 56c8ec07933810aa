-- Inspection of a stick before it is fitted.
use Rattle.std.specs.Prelude.{◌≡◌, ℕ, ◌+◌, ◌*◌, ◌++◌, cond, List, length, replicate, decimal, Ok, Err, codes, Result, ◌==◌, nat_le}
use Rattle.model.specs.Blocks.{medium_rules}
use Rattle.model.specs.Layouts.{layout_rules}
use Rattle.model.specs.Refusals.{refusal_number}
use Rattle.model.specs.declared.layout.BadRun.{BadRun}
use Rattle.model.specs.declared.refusal.Refusal.{Refusal}
use Rattle.model.specs.declared.refusal.Refusal.TheVariants.{Layout as BadLayout, Medium as BadMedium}
use Rattle.options.specs.Choices.{Fitted}
use Rattle.options.specs.declared.choice.FitError.{FitError}
use Rattle.options.specs.declared.choice.FitError.TheVariants.{Refused, OutOfMemory}
use Rattle.options.specs.declared.choice.Make.{Make}
use Rattle.options.specs.declared.choice.Make.TheVariants.{Straight, Turning}

-- pages more than blocks
abbrev pub spare : Make → ℕ
spare Straight = 0
spare Turning = 1

-- no product is made of more blocks than a medium may have
abbrev pub memory_said : Make → ℕ → Result ℕ Refusal
memory_said make blocks = cond (nat_le blocks 1024) (Ok (512 * (blocks + spare make))) (Err BadMedium)

-- the medium on memory of so many bytes
abbrev pub medium_inspected : Make → ℕ → List BadRun → Result (Unit {0}) Refusal
medium_inspected make bytes runs = cond (medium_rules (spare make) bytes runs) (Ok tt) (Err BadMedium)

abbrev pub layout_inspected : List ℕ → ℕ → Result (Unit {0}) Refusal
layout_inspected bytes blocks = cond (layout_rules bytes blocks) (Ok tt) (Err BadLayout)

-- the first refusal ends it
abbrev pub then_inspected : Result (Unit {0}) Refusal → Result (Unit {0}) Refusal → Result (Unit {0}) Refusal
then_inspected (Err r) next = Err r
then_inspected (Ok u) next = next

abbrev pub inspected : Fitted → ℕ → Result (Unit {0}) Refusal
inspected f bytes = then_inspected (medium_inspected f.make bytes f.runs) (layout_inspected f.layout f.blocks)

-- the bytes of the memory on which it passes inspection
abbrev pub after_inspection : ℕ → Result (Unit {0}) Refusal → Result ℕ Refusal
after_inspection bytes (Err r) = Err r
after_inspection bytes (Ok u) = Ok bytes

abbrev pub on_memory : Fitted → Result ℕ Refusal → Result ℕ Refusal
on_memory f (Err r) = Err r
on_memory f (Ok bytes) = after_inspection bytes (inspected f bytes)

abbrev pub memory_fit : Fitted → Result ℕ Refusal
memory_fit f = on_memory f (memory_said f.make f.blocks)

-- memory of zeros where inspection passes, and else the refusal; of want of memory nothing is said
abbrev pub FitsZeros : {V : Type 0} → (V → List ℕ) → Result V FitError → Result ℕ Refusal → Type 0
FitsZeros view (Ok v) due = (view v ≡ replicate (length (view v)) 0) × (Ok (length (view v)) ≡ due)
FitsZeros view (Err (Refused r)) due = Err r ≡ due
FitsZeros view (Err OutOfMemory) due = Unit {0}

-- what is wrong with a stick that inspection refuses with this number
abbrev pub reason_text : ℕ → List ℕ
reason_text number = cond (number == 1) (codes "the layout breaks a rule") (codes "the medium breaks a rule")

-- what is printed of a stick that is not fitted
abbrev pub fit_error_text : FitError → List ℕ
fit_error_text (Refused r) = codes "refused " ++ decimal (refusal_number r) ++ codes ": " ++ reason_text (refusal_number r)
fit_error_text OutOfMemory = codes "there is no memory for the medium"
