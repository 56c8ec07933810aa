use Rattle.std.proofs.Common.{◌≡◌, ℕ, List, length, Bor, drop, vec_items, Some, None, Err, ap, ◌∙◌, rules}
use Rattle.std.specs.Prelude.{◌==◌}
use Rattle.std.proofs.lemmas.Iterator.Consumers.{YieldsList-turn, YieldsList-end}
use Rattle.std.proofs.lemmas.Iterator.Splits.{YieldsList-from_slice_split}
use Rattle.std.proofs.lemmas.List.{length_push}
use Rattle.values.specs.Runs.{pieces, pairs_said, pair_said, runs_said}
use Rattle.values.specs.declared.error.Mistake.TheVariants.{MalformedValue}
use Rattle.fields.proofs.Pairs.{behind}
use Rattle.values.proofs.Pieces.{At, behind_pair, behind_stop, behind_all}
use Rattle.values.proofs.runs.read_runs.Goals as goal
use Rattle.values.proofs.runs.read_runs.Goals.{After-next}

-- the pair of a turn stands among the pieces, and after the last turn there is none left
turns : (c : After-next) → ((pair : Bor (List ℕ)) → c.next.result ≡ Some pair → At (pieces 0x2C c.args.text.now) (length c.loop-pair.yielded) pair.now)
    × (c.next.result ≡ None → length c.loop-pair.yielded ≡ length (pieces 0x2C c.args.text.now))
turns c =
    let cut = YieldsList-from_slice_split _ (λ x. x == 0x2C) c.args.text.now (search rules) (search rules) (search rules) (λ x b q k. search rules) in (
      λ pair is. YieldsList-turn cut c.loop-pair.yielded _ c.loop-pair.yielded_by _ _ pair is c.next.ensures.steps,
      λ is. (YieldsList-end cut c.loop-pair.yielded _ c.loop-pair.yielded_by _ _ is c.next.ensures.steps).1,
    )

pub returns-in_err-ok_or : goal.returns-in_err-ok_or
returns-in_err-ok_or c =
    let text = c.args.text.now in
    let e : c.from_residual.result ≡ Err MalformedValue = search rules in
    let said : None ≡ pair_said c.in-Some.pair.now = search rules in
    rw e (λ h. behind_stop (pieces 0x2C text) (length c.loop-pair.yielded) c.in-Some.pair.now (vec_items c.loop-pair.runs) (runs_said text) ((turns (goal.at.returns-in_err-ok_or c).After-next).0 c.in-Some.pair c.in-Some.is) said c.loop-pair.invariant.2)

pub loop-pair-preserved : goal.loop-pair-preserved
loop-pair-preserved c =
    let text = c.args.text.now in
    let said : Some c.in_ok-ok_or.field-0 ≡ pair_said c.in-Some.pair.now = search rules in (
      search rules,
      search rules,
      ap (λ n. behind (vec_items c.push.new.self) (pairs_said (drop n (pieces 0x2C text)))) (length_push c.loop-pair.yielded c.in-Some.pair)
          ∙ behind_pair (pieces 0x2C text) (length c.loop-pair.yielded) c.in-Some.pair.now (vec_items c.loop-pair.runs) (vec_items c.push.new.self)
          c.in_ok-ok_or.field-0 (runs_said text) ((turns (goal.at.loop-pair-preserved c).After-next).0 c.in-Some.pair c.in-Some.is) said (search rules) c.loop-pair.invariant.2,
    )

pub returns : goal.returns
returns c =
    let text = c.args.text.now in
    behind_all (pieces 0x2C text) (length c.loop-pair.yielded) (vec_items c.loop-pair.runs) (runs_said text) ((turns (goal.at.returns c).After-next).1 c.in-None.is) c.loop-pair.invariant.2
