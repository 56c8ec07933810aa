-- The table of lock states. States are told by the numbers of Lock Data: 1 Impersonal, 2 Locked (recovering included), 3 Unlocked.
use Rattle.std.specs.Prelude.{◌≡◌, ℕ, Bool, true, false, ◌≢◌}
use Rattle.model.specs.LockData.{state_number}
use Rattle.model.specs.Puts.{UnitPut, misfit, store, match, change, erase, forget, lock_again, turned}
use Rattle.model.specs.Recovery.{is_recovering}
use Rattle.model.specs.Units.{UnitRecord}

-- the state that a Put needs
abbrev pub needs_state : UnitPut → ℕ
needs_state misfit = 0
needs_state (store q) = 1
needs_state (match c) = 2
needs_state (change c) = 3
needs_state (erase c) = 3
needs_state forget = 2
needs_state lock_again = 3

-- and the one that it leads to
abbrev pub leads_to : UnitPut → ℕ
leads_to misfit = 0
leads_to (store q) = 3
leads_to (match c) = 3
leads_to (change c) = 3
leads_to (erase c) = 1
leads_to forget = 2
leads_to lock_again = 2

-- an accepted Put came in the state that it needs, to a unit that was not recovering, leads to the state of the table, and is flagged;
-- a refused one leaves the unit's standing, passphrase included, and its hint
pub record Row (n : Bool) (p : UnitPut) (u : UnitRecord) : Type 0 where
  pub needed : (turned n p u).code ≡ 0 → state_number u.standing ≡ needs_state p
  pub ready : (turned n p u).code ≡ 0 → is_recovering u.standing ≡ false
  pub led : (turned n p u).code ≡ 0 → state_number (turned n p u).after.standing ≡ leads_to p
  pub flagged : (turned n p u).code ≡ 0 → (turned n p u).after.accepted ≡ true
  pub stays : ((turned n p u).code ≢ 0) → (turned n p u).after.standing ≡ u.standing
  pub hint : ((turned n p u).code ≢ 0) → (turned n p u).after.hint ≡ u.hint

abbrev pub StateTable : Type 0
StateTable = (n : Bool) (p : UnitPut) (u : UnitRecord) → Row n p u
