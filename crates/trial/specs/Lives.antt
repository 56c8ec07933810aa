-- Two sticks side by side, each fitted, powered up and run through events of its own: what each does, and what the two have in common.
use Rattle.std.specs.Prelude.{◌≡◌, ℕ, true, ◌↔◌, List, [], ◌∷◌, length}
use Rattle.model.specs.Blocks.{Block}
use Rattle.model.specs.Control.{unit_at}
use Rattle.model.specs.Events.{Event, Reply, after, replies}
use Rattle.model.specs.Layouts.{Layout, fitted_layout}
use Rattle.model.specs.Sticks.{Stick, first}
use Rattle.model.specs.Units.{holds_phrase}
use Rattle.privacy.specs.Claims.{Agree, AlikeBut, Locked, OpenedSince, is_unlocked}

-- events, the oldest first, put onto a history, whose newest comes first
abbrev pub onto : List Event → List Event → List Event
onto [] past = past
onto (e ∷ es) past = onto es (e ∷ past)

-- the layout that a stick is fitted with on a medium
abbrev pub fitted : List ℕ → List Block → Layout
fitted bytes m = fitted_layout bytes (length m)

-- the stick after a history since its first power-up
abbrev pub lived : List ℕ → List Block → List Event → Stick
lived bytes m h = after (fitted bytes m) m (onto h [])

-- a stick that was fitted with layout bytes on a medium that means m, powered up, and run through a history h and further events es: every
-- event of both got the reply that the model defines, the buffer included, the stick s stands as it defines; and a unit that holds a
-- passphrase is Unlocked exactly when it was opened and not closed since
pub record Life (bytes : List ℕ) (m : List Block) (h es : List Event) (before after-all : List Reply) (s : Stick) : Type 0 where
  pub history : before ≡ replies (fitted bytes m) (first (fitted bytes m) m) h
  pub further : after-all ≡ replies (fitted bytes m) (lived bytes m h) es
  pub end : s ≡ after (fitted bytes m) m (onto es (onto h []))
  pub opened : (u : ℕ) → holds_phrase (unit_at u s).standing ≡ true → (is_unlocked (unit_at u s).standing ≡ true) ↔ OpenedSince (fitted bytes m) m u (onto es (onto h []))

-- two sticks with one layout, each with a history of its own, that stand alike except in one Locked unit's passphrase and the bytes of its good
-- blocks, and are fed one list of further events
abbrev pub Secret : List ℕ → List Block → List Event → List Event → List Reply → List ℕ → List Block → List Event → List Event → List Reply → Type 0
Secret bytes m h es rs bytes' n k fs qs =
    (u : ℕ) → fitted bytes m ≡ fitted bytes' n → es ≡ fs → Locked u (lived bytes m h) → AlikeBut (fitted bytes m) u (lived bytes m h) (lived bytes' n k)
    → Agree (fitted bytes m) u (lived bytes m h) (lived bytes' n k) es rs qs
