use Rattle.std.proofs.Common.{◌≡◌, map, length, get_or, ap, ◌∙◌, rules}
use Rattle.std.proofs.lemmas.List.{with_items_is}
use Rattle.events.specs.Happenings.{unhanded}
use Rattle.model.specs.Events.{replies, run, step}
use Rattle.model.specs.Layouts.{Layout}
use Rattle.stick.specs.Meaning.{stick_of}
use Rattle.trial.specs.Turns.{event_in, reply_in}
use Rattle.trial.proofs.Runs.{far_more, far_all}
use Rattle.trial.proofs.run.run.Goals as goal

pub loop-turn-preserved : goal.loop-turn-preserved
loop-turn-preserved g c =
    let of = stick_of g.M.Medium.meaning in
    let lay = c.args.stick.layout in
    let same = c.loop-turn.invariant.1 in
    let did = c.take_turn_on.ensures.step ∙ ap (λ (l : Layout). step l (of c.loop-turn.stick) (event_in (get_or c.loop-turn.turn-items c.loop-turn.turn-index c.turn-item.result))) same in (
      far_more lay (of c.args.stick) c.deref_mut-turn-items.result.now (of c.loop-turn.stick) c.loop-turn.turn-items c.loop-turn.turn-index
          c.turn-item.result c.take_turn_on.new.turn (of c.take_turn_on.new.stick) (search rules) c.take_turn_on.ensures.kept did c.loop-turn.invariant.0,
      c.take_turn_on.ensures.layout ∙ same,
    )

pub returns : goal.returns
returns g c =
    let s0 = stick_of g.M.Medium.meaning c.args.stick in
    let s = stick_of g.M.Medium.meaning c.loop-turn.stick in
    let lay = c.args.stick.layout in
    let was = c.deref_mut-turn-items.ensures.value in
    let done = far_all lay s0 c.deref_mut-turn-items.result.now s c.loop-turn.turn-items c.loop-turn.turn-index (search rules) c.loop-turn.invariant.0 in
    let len : length c.loop-turn.turn-items ≡ c.args.turns.now.len = search rules in
    record {
      kept = ap (λ ts. map unhanded (map event_in ts)) (with_items_is c.args.turns.now c.loop-turn.turn-items len) ∙ done.2 ∙ ap (λ ts. map unhanded (map event_in ts)) was;
      end = done.0 ∙ ap (λ ts. run lay s0 (map event_in ts)) was;
      replies = ap (map reply_in) (with_items_is c.args.turns.now c.loop-turn.turn-items len) ∙ done.1 ∙ ap (λ ts. replies lay s0 (map event_in ts)) was;
      layout = c.loop-turn.invariant.1;
    }
