-- The numbers that a request is refused with: 9 only where its length is not allowed or not the arriving one, 7 never.
use Rattle.std.proofs.Common.{◌≡◌, ℕ, ◌-◌, Bool, true, false, cond, not, ◌&&◌, eqb, ltb, List, [], ◌∷◌, length, get_or, take, Some, None, Option, refl, arith}
use Rattle.std.proofs.lemmas.Bool.{and_left, cond_both}
use Rattle.std.proofs.lemmas.Bool.Decides.{nat_tests}
use Rattle.model.specs.Bytes.{between}
use Rattle.model.specs.Control.{Outcome, outcome, refuse, alter, with_interfaces, with_phase, unjammed, unit_at, interface_at, blocks_of, answered, tell_lock_data, find_unit, with_interface, tell_highest, clear_jam, put_to_unit, change_access, access_sized, request}
use Rattle.model.specs.Descriptors.{device_descriptor, bundle}
use Rattle.model.specs.Identities.{is_negotiable}
use Rattle.model.specs.Layouts.{Layout}
use Rattle.model.specs.LockData.{lock_data}
use Rattle.model.specs.Parts.{Access, access_in}
use Rattle.model.specs.Puts.{UnitPut, misfit, store, match, change, erase, forget, lock_again, carried, judged, correct}
use Rattle.model.specs.Requests.{shortest, longest, length_allowed}
use Rattle.model.specs.Sticks.{Stick, units_of_interface}
use Rattle.model.specs.Units.{Standing, impersonal, locked, unlocked, recovering, UnitRecord, any_locked}
use Rattle.model.specs.declared.ids.Phase.TheVariants as phase
use Rattle.model.specs.declared.refusal.Refusal.TheVariants.{Absent, WrongLength, WrongState, ShortBuffer}
use Rattle.model.specs.declared.request.Put.{Put}
use Rattle.model.specs.declared.request.Put.TheVariants.{StorePassphrase, MatchPassphrase, ChangePassphrase, ErasePassphrase, EraseForgottenPassphrase, LockAgain, ChangeInterfaceAccess}
use Rattle.model.specs.declared.request.Request.{Request}
use Rattle.model.specs.declared.request.Request.TheVariants.{DeviceDescriptor, Bundle, LockData, HighestUnit, ClearJam, PutTo}

-- the length 12 is the only one between 12 and 12
twelve : (n : ℕ) (b : Bool) → (eqb n 12 && b) ≡ false → (between 12 12 n && b) ≡ false
twelve n true e = grind (arith, nat_tests)
twelve n false e = grind (arith, nat_tests)

-- what holds of the number of an outcome, by a test
pub cond_code : (P : ℕ → Type 0) (b : Bool) (x y : Outcome) → (b ≡ true → P x.code) → (b ≡ false → P y.code) → P (cond b x y).code
cond_code P b x y p q = cond_both b x y (λ o. P o.code) p q

-- what holds of 0 and of every number that a request is refused with, 9 aside
module _ (P : ℕ → Type 0) (t0 : P 0) (t8 : P 8) (t10 : P 10) (t11 : P 11) (t12 : P 12) (t13 : P 13) (t14 : P 14) where
  -- what has to be known besides of a Put: that it holds of 9, where the Put is a misfit
  abbrev Nine : UnitPut → Type 0
  Nine misfit = P 9
  Nine (store q) = Unit {0}
  Nine (match c) = Unit {0}
  Nine (change c) = Unit {0}
  Nine (erase c) = Unit {0}
  Nine forget = Unit {0}
  Nine lock_again = Unit {0}

  judged_code : (ok : Bool) (st : Standing) (p : UnitPut) (u : UnitRecord) → Nine p → P (judged ok st p u).code
  judged_code ok impersonal misfit u h = h
  judged_code ok impersonal (store None) u h = t12
  judged_code ok impersonal (store (Some q)) u h = t0
  judged_code ok impersonal (match c) u h = t11
  judged_code ok impersonal (change c) u h = t11
  judged_code ok impersonal (erase c) u h = t11
  judged_code ok impersonal forget u h = t11
  judged_code ok impersonal lock_again u h = t11
  judged_code ok (locked w) misfit u h = h
  judged_code ok (locked w) (store c) u h = t11
  judged_code ok (locked w) (match None) u h = t12
  judged_code true (locked w) (match (Some c)) u h = t0
  judged_code false (locked w) (match (Some c)) u h = t13
  judged_code ok (locked w) (change c) u h = t11
  judged_code ok (locked w) (erase c) u h = t11
  judged_code ok (locked w) forget u h = t0
  judged_code ok (locked w) lock_again u h = t11
  judged_code ok (unlocked w) misfit u h = h
  judged_code ok (unlocked w) (store c) u h = t11
  judged_code ok (unlocked w) (match c) u h = t11
  judged_code ok (unlocked w) (change None) u h = t12
  judged_code true (unlocked w) (change (Some c)) u h = t0
  judged_code false (unlocked w) (change (Some c)) u h = t13
  judged_code ok (unlocked w) (erase None) u h = t12
  judged_code true (unlocked w) (erase (Some c)) u h = t0
  judged_code false (unlocked w) (erase (Some c)) u h = t13
  judged_code ok (unlocked w) forget u h = t11
  judged_code true (unlocked w) lock_again u h = t0
  judged_code false (unlocked w) lock_again u h = t11
  judged_code ok (recovering w d) misfit u h = h
  judged_code ok (recovering w d) (store c) u h = t10
  judged_code ok (recovering w d) (match c) u h = t10
  judged_code ok (recovering w d) (change c) u h = t10
  judged_code ok (recovering w d) (erase c) u h = t10
  judged_code ok (recovering w d) forget u h = t10
  judged_code ok (recovering w d) lock_again u h = t10

  answered_code : (n room : ℕ) (whole : List ℕ) (s : Stick) → P (answered n room whole s).code
  answered_code n room whole s = cond_code P (ltb room (length (take n whole))) (refuse ShortBuffer s) (outcome 0 (take n whole) s) (λ _. t14) (λ _. t0)

  lock_code : (lay : Layout) (o : Option ℕ) (i k n room : ℕ) (s : Stick) → P (tell_lock_data lay o i k n room s).code
  lock_code lay None i k n room s = t8
  lock_code lay (Some v) i k n room s = answered_code n room (lock_data (blocks_of lay v) i k (unit_at v s)) s

  interface_code : (lay : Layout) (i : ℕ) (s : Stick) (o : Outcome) → P o.code → P (with_interface lay i s o).code
  interface_code lay i s o p = cond_code P (ltb i (length lay.counts)) o (refuse Absent s) (λ _. p) (λ _. t8)

  unit_code : (o : Option ℕ) (n : Bool) (p : UnitPut) (s : Stick) → Nine p → P (put_to_unit o n p s).code
  unit_code None n p s h = t8
  unit_code (Some v) n p s h = judged_code (correct n (unit_at v s) p) (unit_at v s).standing p (unit_at v s) h

  access_code : (lay : Layout) (i : ℕ) (a : Option Access) (s : Stick) → P (change_access lay i a s).code
  access_code lay i None s = t12
  access_code lay i (Some a) s =
      cond_code P (not (is_negotiable a.target) && any_locked (units_of_interface lay i s.units)) (refuse WrongState s)
      (outcome 0 [] (with_phase (phase.Idle i a.target a.idle a.gone) s)) (λ _. t11) (λ _. t0)

  -- a Put to a unit carries no misfit, so it is one only where its length does not fit
  sized_nine : (b : Bool) (p : UnitPut) → Nine p → (b ≡ false → P 9) → Nine (cond b p misfit)
  sized_nine true p h t9 = h
  sized_nine false p h t9 = t9 refl

  put_code : (lay : Layout) (p : Put) (i k n : ℕ) (ds : List ℕ) (s : Stick) → (q : UnitPut) → Nine q → ((between (shortest p) (longest p) n && eqb n (length ds)) ≡ false → P 9)
      → P (put_to_unit (find_unit lay i k) (is_negotiable (interface_at i s).ids) (cond (between (shortest p) (longest p) n && eqb n (length ds)) q misfit) s).code
  put_code lay p i k n ds s q h t9 =
      let b = between (shortest p) (longest p) n && eqb n (length ds) in
      unit_code (find_unit lay i k) (is_negotiable (interface_at i s).ids) (cond b q misfit) s (sized_nine b q h t9)

  -- every request, where 9 is seen only when the length does not fit
  pub any_code : (lay : Layout) (r : Request) (n : ℕ) (ds : List ℕ) (s : Stick) → ((length_allowed r n && eqb n (length ds)) ≡ false → P 9) → P (request lay r n ds s).code
  any_code lay DeviceDescriptor n ds s t9 = answered_code n (length ds) (device_descriptor lay s.interfaces) s
  any_code lay Bundle n ds s t9 = answered_code n (length ds) (bundle s.interfaces) s
  any_code lay (LockData a) n ds s t9 = lock_code lay (find_unit lay a.interface a.unit) a.interface a.unit n (length ds) s
  any_code lay (HighestUnit i) n ds s t9 =
      interface_code lay i s (tell_highest lay i n (length ds) s)
      (cond_code P (eqb n 1) (answered n (length ds) ((get_or lay.counts i 0 - 1) ∷ []) s) (refuse WrongLength s)
      (λ _. answered_code n (length ds) ((get_or lay.counts i 0 - 1) ∷ []) s) (λ e. t9 (and_left (eqb n 1) (eqb n (length ds)) e)))
  any_code lay (ClearJam i) n ds s t9 =
      interface_code lay i s (clear_jam i n (length ds) s)
      (cond_code P (eqb n 0 && eqb n (length ds)) (outcome 0 [] (with_interfaces (alter i unjammed s.interfaces) s)) (refuse WrongLength s) (λ _. t0) t9)
  any_code lay (PutTo StorePassphrase a) n ds s t9 = put_code lay StorePassphrase a.interface a.unit n ds s (carried StorePassphrase ds) tt t9
  any_code lay (PutTo MatchPassphrase a) n ds s t9 = put_code lay MatchPassphrase a.interface a.unit n ds s (carried MatchPassphrase ds) tt t9
  any_code lay (PutTo ChangePassphrase a) n ds s t9 = put_code lay ChangePassphrase a.interface a.unit n ds s (carried ChangePassphrase ds) tt t9
  any_code lay (PutTo ErasePassphrase a) n ds s t9 = put_code lay ErasePassphrase a.interface a.unit n ds s (carried ErasePassphrase ds) tt t9
  any_code lay (PutTo EraseForgottenPassphrase a) n ds s t9 = put_code lay EraseForgottenPassphrase a.interface a.unit n ds s (carried EraseForgottenPassphrase ds) tt t9
  any_code lay (PutTo LockAgain a) n ds s t9 = put_code lay LockAgain a.interface a.unit n ds s (carried LockAgain ds) tt t9
  any_code lay (PutTo ChangeInterfaceAccess a) n ds s t9 =
      interface_code lay a.interface s (access_sized lay a.interface n ds s)
      (cond_code P (eqb n 12 && eqb n (length ds)) (change_access lay a.interface (access_in ds) s) (refuse WrongLength s)
      (λ _. access_code lay a.interface (access_in ds) s) (λ e. t9 (twelve n (eqb n (length ds)) e)))
