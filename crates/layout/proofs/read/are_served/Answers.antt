use Rattle.std.proofs.Common.{◌≡◌, sym, refl, ◌∙◌, arith, rules}
use Rattle.std.proofs.lemmas.Bool.Decides.{nat_tests}
use Rattle.std.proofs.lemmas.List.Recursion.{and_is}
use Rattle.model.specs.Bytes.{between}
use Rattle.model.specs.Layouts.{all_between}
use Rattle.layout.proofs.Sums.{few_units}
use Rattle.layout.proofs.read.are_served.Goals as goal

pub returns-then-not-is_empty : goal.returns-then-not-is_empty
returns-then-not-is_empty c =
    let each : c.all.result ≡ all_between 1 4 c.args.counts.now = and_is (all_between 1 4) (between 1 4) refl (λ _ _. refl) c.args.counts.now 0 _ (search rules) (search rules) in
    record { value = grind (arith, nat_tests, each); few = λ h. few_units c.args.counts.now (sym each ∙ h) }
