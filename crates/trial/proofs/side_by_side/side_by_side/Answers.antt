use Rattle.std.proofs.Common.{map, vec_items}
use Rattle.trial.specs.Turns.{event_in, reply_in}
use Rattle.trial.proofs.Lives.{secret}
use Rattle.trial.proofs.side_by_side.side_by_side.Goals as goal

pub returns : goal.returns
returns g c =
    record {
      first = c.live-one.ensures;
      second = c.live-other.ensures;
      secret = secret c.args.first_layout.now (g.M.Medium.meaning c.args.first)
          (map event_in (vec_items c.args.first_history.now)) (map event_in (vec_items c.args.first_further.now)) (map reply_in (vec_items c.live-one.new.further))
          c.args.second_layout.now (g.N.Medium.meaning c.args.second)
          (map event_in (vec_items c.args.second_history.now)) (map event_in (vec_items c.args.second_further.now)) (map reply_in (vec_items c.live-other.new.further))
          c.live-one.ensures.further c.live-other.ensures.further;
      private = c.keeps_secrets.ensures;
      met = c.premises_met.ensures;
    }
