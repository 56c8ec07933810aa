-- The judgement of a CBW, by what was read of it.
use Rattle.std.proofs.Common.{◌≡◌, ℕ, ok_or, Some, None, Option, Ok, Err}
use Rattle.model.specs.Refusals.{refusal_number}
use Rattle.model.specs.Wrappers.{judged_unit}
use Rattle.model.specs.declared.command.Cbw.{Cbw}
use Rattle.model.specs.declared.refusal.Refusal.{Refusal}
use Rattle.model.specs.declared.refusal.Refusal.TheVariants.{BadWrapper}

pub judged_unread : (o : Option Cbw) (highest : ℕ) (e : Refusal) → Err e ≡ ok_or o BadWrapper → refusal_number e ≡ judged_unit o highest
judged_unread None highest e is = cc
judged_unread (Some c) highest e is = absurd (cc)

pub judged_read : (o : Option Cbw) (highest : ℕ) (c : Cbw) → Ok c ≡ ok_or o BadWrapper → judged_unit (Some c) highest ≡ judged_unit o highest
judged_read None highest c is = absurd (cc)
judged_read (Some d) highest c is = cc
