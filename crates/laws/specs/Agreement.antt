-- What the judgement of a setup has to do with a control transfer of a stick that is there.
use Rattle.std.specs.Prelude.{◌≡◌, ℕ, ◌⊎◌, ◌↔◌, List, length, ◌≢◌}
use Rattle.model.specs.Bytes.{le16}
use Rattle.model.specs.Control.{controlled}
use Rattle.model.specs.Layouts.{Layout}
use Rattle.model.specs.Requests.{judged_setup}
use Rattle.model.specs.Sticks.{Stick}
use Rattle.model.specs.declared.ids.Phase.TheVariants.{Present}

-- whatever the stick and whatever arrives: 7 is refused exactly where the setup is judged 7; a setup judged 9 is refused with 8 or 9; and a
-- setup judged 0 is not refused with 9 where as many bytes arrive as it says
pub record JudgementAgrees : Type 0 where
  pub unlisted : (lay : Layout) (s : Stick) (setup ds : List ℕ) → s.phase ≡ Present → ((controlled lay setup ds s).code ≡ 7) ↔ (judged_setup setup ≡ 7)
  pub lengths : (lay : Layout) (s : Stick) (setup ds : List ℕ) → s.phase ≡ Present → judged_setup setup ≡ 9 → ((controlled lay setup ds s).code ≡ 8) ⊎ ((controlled lay setup ds s).code ≡ 9)
  pub fitting : (lay : Layout) (s : Stick) (setup ds : List ℕ) → s.phase ≡ Present → judged_setup setup ≡ 0 → length ds ≡ le16 setup 6 → (controlled lay setup ds s).code ≢ 9
