use Rattle.std.proofs.Common.{◌≡◌, ◌+◌, ◌≤◌, false, cond, [], ◌∷◌, ◌++◌, length, get_or, take, sym, ap, ◌∙◌, arith}
use Rattle.std.specs.List.{slice_range}
use Rattle.std.proofs.lemmas.List.{take_all, length-append}
use Rattle.std.proofs.lemmas.List.FromFn.{length-map-range_with_len}
use Rattle.layout.proofs.Sums.{sum_next, sum_within}
use Rattle.model.specs.Layouts.{sum}
use Rattle.model.specs.Sticks.{interface, interface_up}
use Rattle.model.specs.Units.{any_phrase}
use Rattle.model.specs.declared.ids.Ids.TheVariants.{Negotiable, ScsiBbb}
use Rattle.stick.specs.Meaning.{units_in}
use Rattle.stick.proofs.Ups.{own_units, ups_more}
use Rattle.stick.proofs.stick.power.interfaces_up.Goals as goal

pub overflow_add-end : goal.overflow_add-end
overflow_add-end c =
    let i = c.loop-count.count-index in
    let told = c.unit_counts-count-items.ensures in
    let first : c.loop-count.first ≡ sum (take i c.unit_counts-count-items.result.now) = c.loop-count.invariant.next ∙ ap (λ cs. sum (take i cs)) (sym told.value) in
    omega (arith, sum_within c.unit_counts-count-items.result.now i)

pub loop-count-preserved : goal.loop-count-preserved
loop-count-preserved c =
    let lay = c.args.layout.now in
    let us = c.args.units.now in
    let i = c.loop-count.count-index in
    let told = c.unit_counts-count-items.ensures in
    let f = sum (take i lay.counts) in
    let n = get_or lay.counts i 0 in
    let first : c.loop-count.first ≡ f = c.loop-count.invariant.next in
    let count : c.from.result ≡ n = c.from.ensures ∙ ap (λ cs. get_or cs i 0) told.value in
    let room : f + n ≤ length lay.places = omega (arith, sum_within lay.counts i, ap sum told.value) in
    let own : slice_range us c.loop-count.first (c.loop-count.first + c.from.result) ≡ slice_range us f (f + n) =
    ap (λ k. slice_range us k (k + c.from.result)) first ∙ ap (λ k. slice_range us f (f + k)) count in
    let any = c.is_any_personal.ensures ∙ ap any_phrase (own ∙ own_units lay us i room) in
    let before : length c.loop-count.interfaces ≡ i =
    ap length c.loop-count.invariant.up ∙ length-map-range_with_len (interface_up lay (units_in lay us)) 0 i in
    record {
      next = omega (arith, sum_next lay.counts i);
      up = c.push.ensures
          ∙ take_all 4 (c.loop-count.interfaces ++ interface c.ids_up.result false ∷ []) (omega (arith, length-append c.loop-count.interfaces (interface c.ids_up.result false ∷ [])))
          ∙ ups_more (interface_up lay (units_in lay us)) i _ c.loop-count.interfaces
          (ap (λ x. interface x false) (c.ids_up.ensures ∙ ap (λ b. cond b Negotiable ScsiBbb) any)) c.loop-count.invariant.up;
    }

pub returns-clause-count : goal.returns-clause-count
returns-clause-count c =
    let lay = c.args.layout.now in
    let i = c.loop-count.count-index in
    let told = c.unit_counts-count-items.ensures in
    ap length c.loop-count.invariant.up
    ∙ length-map-range_with_len (interface_up lay (units_in lay c.args.units.now)) 0 i
    ∙ omega (arith, ap length told.value)
