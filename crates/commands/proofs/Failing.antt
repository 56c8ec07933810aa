-- A command that fails before any data.
use Rattle.std.proofs.Common.{◌≡◌, ℕ, ◌≤◌, cond, ltb, List, length, Some, Option, sym, ap, ◌∙◌}
use Rattle.std.proofs.lemmas.Bool.{cond-false, le-ltb}
use Rattle.model.specs.Blocks.{Block}
use Rattle.model.specs.Commands.{Ending, ending, failed, failure, mismatched, moving, performed, unless_failed}
use Rattle.model.specs.declared.command.Cbw.{Cbw}
use Rattle.model.specs.declared.command.Status.TheVariants.{PhaseError}
use Rattle.model.specs.declared.refusal.Refusal.TheVariants.{ShortBuffer}
use Rattle.model.specs.declared.sense.Sense.{Sense}
use Rattle.commands.specs.Endings.{carried_with, carried_out, done, turned}
use Rattle.commands.specs.declared.ended.Target.{Target}

pub fails_first : (t : Target) (c : Cbw) (ds : List ℕ) (m : List Block) (x : Sense) (e : Ending) → c.total ≤ length ds
    → failure t.place.count t.closed c.command ≡ Some x → e ≡ failed x m → carried_with 0 e ds ≡ carried_out t c ds m
fails_first t c ds m x e room why is =
    let rest : Ending = cond (mismatched c.total c.direction c.command) (ending PhaseError _ 0 t.sense m) (moving t.place t.sense c.command ds m) in
    let p : Ending = performed t.place t.closed t.sense c.total c.direction c.command ds m in
    let first : p ≡ failed x m = ap (λ (o : Option Sense). unless_failed o m rest) why in
    let fits : carried_out t c ds m ≡ done p ds = cond-false (ltb (length ds) c.total) (turned ShortBuffer ds m) (done p ds) (le-ltb (length ds) c.total room) in
    ap (λ (y : Ending). carried_with 0 y ds) is ∙ sym (ap (λ (y : Ending). done y ds) first) ∙ sym fits
