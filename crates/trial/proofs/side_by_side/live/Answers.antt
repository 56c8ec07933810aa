use Rattle.std.proofs.Common.{map, vec_items}
use Rattle.stick.specs.Meaning.{stick_of}
use Rattle.trial.specs.Turns.{event_in, reply_in}
use Rattle.trial.proofs.Lives.{life}
use Rattle.trial.proofs.side_by_side.live.Goals as goal

pub returns : goal.returns
returns g c =
    let of = stick_of g.M.Medium.meaning in
    life c.args.layout.now (g.M.Medium.meaning c.args.medium)
    (map event_in (vec_items c.args.history.now)) (map event_in (vec_items c.args.further.now))
    (map reply_in (vec_items c.run-stick.new.turns)) (map reply_in (vec_items c.run.new.turns))
    c.start.result.layout c.run-stick.result.layout (of c.start.result) (of c.run-stick.result) (of c.run.result)
    c.start.ensures.stick c.start.ensures.layout c.run-stick.ensures.end c.run-stick.ensures.replies c.run-stick.ensures.layout
    c.run.ensures.end c.run.ensures.replies
