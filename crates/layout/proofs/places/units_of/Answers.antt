use Rattle.std.proofs.Common.{◌≡◌, sym, refl, ◌∙◌, rules}
use Rattle.std.specs.List.{sum_by}
use Rattle.std.proofs.lemmas.List.Recursion.{is_sum_by}
use Rattle.model.specs.Layouts.{sum}
use Rattle.layout.proofs.places.units_of.Goals as goal

pub returns : goal.returns
returns c =
    let told : c.sum.result ≡ sum_by (λ n. n) c.args.counts.now = search rules in
    told ∙ sym (is_sum_by sum (λ n. n) refl (λ _ _. refl) c.args.counts.now)
