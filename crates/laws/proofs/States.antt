-- The table of lock states, case by case.
use Rattle.std.proofs.Common.{◌≡◌, Bool, true, false, Some, None, refl, arith}
use Rattle.model.specs.LockData.{state_number}
use Rattle.model.specs.Puts.{UnitPut, misfit, store, match, change, erase, forget, lock_again, judged, correct}
use Rattle.model.specs.Units.{Standing, impersonal, locked, unlocked, recovering, UnitRecord}
use Rattle.laws.specs.StateTable.{needs_state, leads_to, StateTable}
use Rattle.model.specs.Recovery.{is_recovering}

-- the same of a standing and a Put together
record Case (ok : Bool) (st : Standing) (p : UnitPut) (u : UnitRecord) : Type 0 where
  needed : (judged ok st p u).code ≡ 0 → state_number st ≡ needs_state p
  ready : (judged ok st p u).code ≡ 0 → is_recovering st ≡ false
  led : (judged ok st p u).code ≡ 0 → state_number (judged ok st p u).after.standing ≡ leads_to p
  flagged : (judged ok st p u).code ≡ 0 → (judged ok st p u).after.accepted ≡ true
  stays : ((judged ok st p u).code ≡ 0 → ⊥) → (judged ok st p u).after.standing ≡ u.standing
  hint : ((judged ok st p u).code ≡ 0 → ⊥) → (judged ok st p u).after.hint ≡ u.hint

case : (ok : Bool) (st : Standing) (p : UnitPut) (u : UnitRecord) → Case ok st p u
case ok impersonal misfit u = record { needed = λ e. absurd (omega arith); ready = λ e. absurd (omega arith); led = λ e. absurd (omega arith); flagged = λ e. absurd (omega arith); stays = λ _. refl; hint = λ _. refl }
case ok impersonal (store None) u = record { needed = λ e. absurd (omega arith); ready = λ e. absurd (omega arith); led = λ e. absurd (omega arith); flagged = λ e. absurd (omega arith); stays = λ _. refl; hint = λ _. refl }
case ok impersonal (store (Some q)) u = record { needed = λ _. refl; ready = λ _. refl; led = λ _. refl; flagged = λ _. refl; stays = λ h. absurd (h refl); hint = λ h. absurd (h refl) }
case ok impersonal (match None) u = record { needed = λ e. absurd (omega arith); ready = λ e. absurd (omega arith); led = λ e. absurd (omega arith); flagged = λ e. absurd (omega arith); stays = λ _. refl; hint = λ _. refl }
case ok impersonal (match (Some c)) u = record { needed = λ e. absurd (omega arith); ready = λ e. absurd (omega arith); led = λ e. absurd (omega arith); flagged = λ e. absurd (omega arith); stays = λ _. refl; hint = λ _. refl }
case ok impersonal (change None) u = record { needed = λ e. absurd (omega arith); ready = λ e. absurd (omega arith); led = λ e. absurd (omega arith); flagged = λ e. absurd (omega arith); stays = λ _. refl; hint = λ _. refl }
case ok impersonal (change (Some c)) u = record { needed = λ e. absurd (omega arith); ready = λ e. absurd (omega arith); led = λ e. absurd (omega arith); flagged = λ e. absurd (omega arith); stays = λ _. refl; hint = λ _. refl }
case ok impersonal (erase None) u = record { needed = λ e. absurd (omega arith); ready = λ e. absurd (omega arith); led = λ e. absurd (omega arith); flagged = λ e. absurd (omega arith); stays = λ _. refl; hint = λ _. refl }
case ok impersonal (erase (Some c)) u = record { needed = λ e. absurd (omega arith); ready = λ e. absurd (omega arith); led = λ e. absurd (omega arith); flagged = λ e. absurd (omega arith); stays = λ _. refl; hint = λ _. refl }
case ok impersonal forget u = record { needed = λ e. absurd (omega arith); ready = λ e. absurd (omega arith); led = λ e. absurd (omega arith); flagged = λ e. absurd (omega arith); stays = λ _. refl; hint = λ _. refl }
case ok impersonal lock_again u = record { needed = λ e. absurd (omega arith); ready = λ e. absurd (omega arith); led = λ e. absurd (omega arith); flagged = λ e. absurd (omega arith); stays = λ _. refl; hint = λ _. refl }
case ok (locked w) misfit u = record { needed = λ e. absurd (omega arith); ready = λ e. absurd (omega arith); led = λ e. absurd (omega arith); flagged = λ e. absurd (omega arith); stays = λ _. refl; hint = λ _. refl }
case ok (locked w) (store None) u = record { needed = λ e. absurd (omega arith); ready = λ e. absurd (omega arith); led = λ e. absurd (omega arith); flagged = λ e. absurd (omega arith); stays = λ _. refl; hint = λ _. refl }
case ok (locked w) (store (Some q)) u = record { needed = λ e. absurd (omega arith); ready = λ e. absurd (omega arith); led = λ e. absurd (omega arith); flagged = λ e. absurd (omega arith); stays = λ _. refl; hint = λ _. refl }
case ok (locked w) (match None) u = record { needed = λ e. absurd (omega arith); ready = λ e. absurd (omega arith); led = λ e. absurd (omega arith); flagged = λ e. absurd (omega arith); stays = λ _. refl; hint = λ _. refl }
case true (locked w) (match (Some c)) u = record { needed = λ _. refl; ready = λ _. refl; led = λ _. refl; flagged = λ _. refl; stays = λ h. absurd (h refl); hint = λ h. absurd (h refl) }
case false (locked w) (match (Some c)) u = record { needed = λ e. absurd (omega arith); ready = λ e. absurd (omega arith); led = λ e. absurd (omega arith); flagged = λ e. absurd (omega arith); stays = λ _. refl; hint = λ _. refl }
case ok (locked w) (change None) u = record { needed = λ e. absurd (omega arith); ready = λ e. absurd (omega arith); led = λ e. absurd (omega arith); flagged = λ e. absurd (omega arith); stays = λ _. refl; hint = λ _. refl }
case ok (locked w) (change (Some c)) u = record { needed = λ e. absurd (omega arith); ready = λ e. absurd (omega arith); led = λ e. absurd (omega arith); flagged = λ e. absurd (omega arith); stays = λ _. refl; hint = λ _. refl }
case ok (locked w) (erase None) u = record { needed = λ e. absurd (omega arith); ready = λ e. absurd (omega arith); led = λ e. absurd (omega arith); flagged = λ e. absurd (omega arith); stays = λ _. refl; hint = λ _. refl }
case ok (locked w) (erase (Some c)) u = record { needed = λ e. absurd (omega arith); ready = λ e. absurd (omega arith); led = λ e. absurd (omega arith); flagged = λ e. absurd (omega arith); stays = λ _. refl; hint = λ _. refl }
case ok (locked w) forget u = record { needed = λ _. refl; ready = λ _. refl; led = λ _. refl; flagged = λ _. refl; stays = λ h. absurd (h refl); hint = λ h. absurd (h refl) }
case ok (locked w) lock_again u = record { needed = λ e. absurd (omega arith); ready = λ e. absurd (omega arith); led = λ e. absurd (omega arith); flagged = λ e. absurd (omega arith); stays = λ _. refl; hint = λ _. refl }
case ok (unlocked w) misfit u = record { needed = λ e. absurd (omega arith); ready = λ e. absurd (omega arith); led = λ e. absurd (omega arith); flagged = λ e. absurd (omega arith); stays = λ _. refl; hint = λ _. refl }
case ok (unlocked w) (store None) u = record { needed = λ e. absurd (omega arith); ready = λ e. absurd (omega arith); led = λ e. absurd (omega arith); flagged = λ e. absurd (omega arith); stays = λ _. refl; hint = λ _. refl }
case ok (unlocked w) (store (Some q)) u = record { needed = λ e. absurd (omega arith); ready = λ e. absurd (omega arith); led = λ e. absurd (omega arith); flagged = λ e. absurd (omega arith); stays = λ _. refl; hint = λ _. refl }
case ok (unlocked w) (match None) u = record { needed = λ e. absurd (omega arith); ready = λ e. absurd (omega arith); led = λ e. absurd (omega arith); flagged = λ e. absurd (omega arith); stays = λ _. refl; hint = λ _. refl }
case ok (unlocked w) (match (Some c)) u = record { needed = λ e. absurd (omega arith); ready = λ e. absurd (omega arith); led = λ e. absurd (omega arith); flagged = λ e. absurd (omega arith); stays = λ _. refl; hint = λ _. refl }
case ok (unlocked w) (change None) u = record { needed = λ e. absurd (omega arith); ready = λ e. absurd (omega arith); led = λ e. absurd (omega arith); flagged = λ e. absurd (omega arith); stays = λ _. refl; hint = λ _. refl }
case true (unlocked w) (change (Some c)) u = record { needed = λ _. refl; ready = λ _. refl; led = λ _. refl; flagged = λ _. refl; stays = λ h. absurd (h refl); hint = λ h. absurd (h refl) }
case false (unlocked w) (change (Some c)) u = record { needed = λ e. absurd (omega arith); ready = λ e. absurd (omega arith); led = λ e. absurd (omega arith); flagged = λ e. absurd (omega arith); stays = λ _. refl; hint = λ _. refl }
case ok (unlocked w) (erase None) u = record { needed = λ e. absurd (omega arith); ready = λ e. absurd (omega arith); led = λ e. absurd (omega arith); flagged = λ e. absurd (omega arith); stays = λ _. refl; hint = λ _. refl }
case true (unlocked w) (erase (Some c)) u = record { needed = λ _. refl; ready = λ _. refl; led = λ _. refl; flagged = λ _. refl; stays = λ h. absurd (h refl); hint = λ h. absurd (h refl) }
case false (unlocked w) (erase (Some c)) u = record { needed = λ e. absurd (omega arith); ready = λ e. absurd (omega arith); led = λ e. absurd (omega arith); flagged = λ e. absurd (omega arith); stays = λ _. refl; hint = λ _. refl }
case ok (unlocked w) forget u = record { needed = λ e. absurd (omega arith); ready = λ e. absurd (omega arith); led = λ e. absurd (omega arith); flagged = λ e. absurd (omega arith); stays = λ _. refl; hint = λ _. refl }
case true (unlocked w) lock_again u = record { needed = λ _. refl; ready = λ _. refl; led = λ _. refl; flagged = λ _. refl; stays = λ h. absurd (h refl); hint = λ h. absurd (h refl) }
case false (unlocked w) lock_again u = record { needed = λ e. absurd (omega arith); ready = λ e. absurd (omega arith); led = λ e. absurd (omega arith); flagged = λ e. absurd (omega arith); stays = λ _. refl; hint = λ _. refl }
case ok (recovering w d) misfit u = record { needed = λ e. absurd (omega arith); ready = λ e. absurd (omega arith); led = λ e. absurd (omega arith); flagged = λ e. absurd (omega arith); stays = λ _. refl; hint = λ _. refl }
case ok (recovering w d) (store None) u = record { needed = λ e. absurd (omega arith); ready = λ e. absurd (omega arith); led = λ e. absurd (omega arith); flagged = λ e. absurd (omega arith); stays = λ _. refl; hint = λ _. refl }
case ok (recovering w d) (store (Some q)) u = record { needed = λ e. absurd (omega arith); ready = λ e. absurd (omega arith); led = λ e. absurd (omega arith); flagged = λ e. absurd (omega arith); stays = λ _. refl; hint = λ _. refl }
case ok (recovering w d) (match None) u = record { needed = λ e. absurd (omega arith); ready = λ e. absurd (omega arith); led = λ e. absurd (omega arith); flagged = λ e. absurd (omega arith); stays = λ _. refl; hint = λ _. refl }
case ok (recovering w d) (match (Some c)) u = record { needed = λ e. absurd (omega arith); ready = λ e. absurd (omega arith); led = λ e. absurd (omega arith); flagged = λ e. absurd (omega arith); stays = λ _. refl; hint = λ _. refl }
case ok (recovering w d) (change None) u = record { needed = λ e. absurd (omega arith); ready = λ e. absurd (omega arith); led = λ e. absurd (omega arith); flagged = λ e. absurd (omega arith); stays = λ _. refl; hint = λ _. refl }
case ok (recovering w d) (change (Some c)) u = record { needed = λ e. absurd (omega arith); ready = λ e. absurd (omega arith); led = λ e. absurd (omega arith); flagged = λ e. absurd (omega arith); stays = λ _. refl; hint = λ _. refl }
case ok (recovering w d) (erase None) u = record { needed = λ e. absurd (omega arith); ready = λ e. absurd (omega arith); led = λ e. absurd (omega arith); flagged = λ e. absurd (omega arith); stays = λ _. refl; hint = λ _. refl }
case ok (recovering w d) (erase (Some c)) u = record { needed = λ e. absurd (omega arith); ready = λ e. absurd (omega arith); led = λ e. absurd (omega arith); flagged = λ e. absurd (omega arith); stays = λ _. refl; hint = λ _. refl }
case ok (recovering w d) forget u = record { needed = λ e. absurd (omega arith); ready = λ e. absurd (omega arith); led = λ e. absurd (omega arith); flagged = λ e. absurd (omega arith); stays = λ _. refl; hint = λ _. refl }
case ok (recovering w d) lock_again u = record { needed = λ e. absurd (omega arith); ready = λ e. absurd (omega arith); led = λ e. absurd (omega arith); flagged = λ e. absurd (omega arith); stays = λ _. refl; hint = λ _. refl }

pub table : StateTable
table n p u =
    let c = case (correct n u p) u.standing p u in
    record { needed = c.needed; ready = c.ready; led = c.led; flagged = c.flagged; stays = c.stays; hint = c.hint }
