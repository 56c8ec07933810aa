-- The claim whole.
use Rattle.privacy.specs.Causes.{Caused}
use Rattle.privacy.specs.Claims.{Respects, KeepsSecret, OpenWhenOpened, StaysWithin, FitsAlways}

-- In every run from a first power-up a Locked unit's secret stays its own, a completed recovery leaves nothing of it, and a unit that holds
-- a passphrase is open exactly when it was opened and not closed since. Beside it: what it means to stand alike; no record exceeds its
-- bounds; the condition on the layout holds of every fitted stick; and nothing stands as it does without a cause.
pub record Private : Type 0 where
  pub respects : Respects
  pub keeps : KeepsSecret
  pub opened : OpenWhenOpened
  pub bounded : StaysWithin
  pub fitting : FitsAlways
  pub caused : Caused
