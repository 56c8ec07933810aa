use Rattle.std.proofs.Common.{sym, ◌∙◌, rules}
use Rattle.console.proofs.Rounds.{all_served, some_stops}
use Rattle.console.proofs.script.serve_script.Goals as goal

pub returns-clause-ended : goal.returns-clause-ended
returns-clause-ended g c = λ ended.
    all_served _ _ (g.B.Read.remaining c.args.source) _ c.in_ok-served.served (sym c.is_some.ensures ∙ ended) c.in_ok-served.ensures.each
    (λ v k shown u h. search rules)

pub returns-clause-stopped : goal.returns-clause-stopped
returns-clause-stopped g c = λ stopped.
    some_stops _ _ (g.B.Read.remaining c.args.source) _ c.in_ok-served.served (sym c.is_some.ensures ∙ stopped) c.in_ok-served.ensures.refused
    (λ v k shown e h blank. let never = h.1 blank in cc)
