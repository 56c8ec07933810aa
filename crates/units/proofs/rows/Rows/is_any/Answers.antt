use Rattle.std.proofs.Common.{ap, ◌∙◌, refl}
use Rattle.std.specs.List.{slice_range}
use Rattle.std.proofs.lemmas.Fn.{says_at}
use Rattle.std.proofs.lemmas.Iterator.{YieldsList-from_slice, YieldsList-from_take}
use Rattle.std.proofs.lemmas.Iterator.Adapters.{YieldsList-from_skip}
use Rattle.std.proofs.lemmas.Iterator.Search.{any_from_yields_List}
use Rattle.model.specs.Units.{any_standing}
use Rattle.units.specs.Records.{record_of}
use Rattle.units.proofs.Tables.{any_between}
use Rattle.units.proofs.rows.Rows.is_any.Goals as goal

pub returns : goal.returns
returns g c told means =
    let rows = c.self.inside.rows in
    any_from_yields_List (λ r. told (record_of r).standing) _ _ _ c.any.ensures.ran (YieldsList-from_skip c.args.units.start (YieldsList-from_take c.args.units.end (YieldsList-from_slice rows (cc)) (cc)) (cc))
    (λ x b q k. (g.met.F.Fn.1.step_stays _ _ _ _ k, means x.now b (says_at g.F.Fn ((g.met.F.FnMut.1.post_iff _ _ _).1 (q, k)) refl)))
    ∙ any_between told c.args.units.start c.args.units.end rows ∙ ap (λ us. any_standing told (slice_range us c.args.units.start c.args.units.end)) c.self.view_is
