-- A unit is recovering only when that was asked for, and ends as Lock Data report.
use Rattle.std.proofs.Common.{◌≡◌, ℕ, zero, suc, ◌+◌, ◌-◌, ◌*◌, ◌/◌, ◌%◌, ◌<◌, ◌≤◌, min, Bool, true, false, cond, not, ◌&&◌, eqb, ltb, leb, ◌⊎◌, List, [], ◌∷◌, length, get_or, Option, sym, refl, ap, ◌∙◌, subst, ap₂, subst₂, inl, inr, ⊎_elim, arith}
use Rattle.std.proofs.lemmas.Bool.{true≢false, false≢true, cases_eq, cases_lt, cases_Bool, and_from, both_ways, eq-eqb, ne_eqb, eqb-true, leb-false, lt-ltb, le-leb, lt-leb, ltb-false, and_parts, and_right, not-true}
use Rattle.std.specs.declared.option.Option.TheVariants as option
use Rattle.model.specs.Blocks.{Block, bad, good}
use Rattle.model.specs.Bulk.{place_at}
use Rattle.model.specs.Control.{Outcome, alter, unit_at, interface_at, find_unit, blocks_of, sized, put_to_unit, asked, when_present}
use Rattle.model.specs.Events.{Event, control, bulk, work, clock, reset, suspend, resume, power, step, after, run}
use Rattle.model.specs.Identities.{is_negotiable}
use Rattle.model.specs.Layouts.{Layout, sum}
use Rattle.model.specs.Puts.{UnitPut, carried, misfit, store, match, change, erase, forget, lock_again, correct, judged, turned}
use Rattle.model.specs.Recovery.{zeroed_block, zeroed, is_recovering, steps_done_of, first_recovering, advanced, work_on, worked}
use Rattle.model.specs.Requests.{address, requested}
use Rattle.model.specs.Sticks.{Stick, first}
use Rattle.model.specs.Units.{Standing, impersonal, locked, unlocked, recovering, UnitRecord, unit_record, new_unit, is_locked, relocked}
use Rattle.model.specs.declared.request.Asked.{Asked}
use Rattle.model.specs.declared.request.Put.{Put}
use Rattle.model.specs.declared.request.Put.TheVariants.{StorePassphrase, MatchPassphrase, ChangePassphrase, ErasePassphrase, EraseForgottenPassphrase, LockAgain, ChangeInterfaceAccess}
use Rattle.model.specs.declared.request.Request.{Request}
use Rattle.model.specs.declared.request.Request.TheVariants.{DeviceDescriptor, Bundle, LockData, HighestUnit, ClearJam, PutTo}
use Rattle.model.specs.LockData.{steps_for, completing}
use Rattle.privacy.specs.Claims.{but, completes, is_unit, asks_put, asked_put, accepts}
use Rattle.privacy.specs.Causes.{falls_to, Holds, forgetting, one_more, steps_since, is_work, reported, LockDataReports, IsZeros, Recovers, RecoversAsReported, CompletesInLast, fallen, LastsAsReported, WipesInOrder}
use Rattle.privacy.proofs.Calm.{when_present_all, cond_facts, Calm, calm_keeps, request_calm, unlisted_calm, bulked_calm, passed_calm, power_relocks, control_next, control_code, is_unit_put, puts}
use Rattle.privacy.proofs.Asking.{asking, unit_put_is}
use Rattle.privacy.proofs.PutKinds.{same_kind}
use Rattle.privacy.proofs.Lists.{alter_other, alter_same, alter_at, alter_rel, replicate_getD, zeroed_getD}
use Rattle.privacy.proofs.Passed.{Clean, after_clean, work_lets_go}
use Rattle.privacy.proofs.Places.{fit_disjoint}
use Rattle.privacy.proofs.Respects.{zeroed_in}

-- how an event may bring a unit to recovering: it was asked for in it, or a step was counted, or it stays
data Onto (asked falls : Bool) (c : ℕ) (st nw : Standing) : Type 0 where
  not_so : is_recovering nw ≡ false → Onto asked falls c st nw
  begun : asked ≡ true → steps_done_of nw ≡ 0 → Onto asked falls c st nw
  counted : asked ≡ false → falls ≡ true → is_recovering st ≡ true → steps_done_of nw ≡ suc (steps_done_of st) → 16 * suc (steps_done_of st) < c → Onto asked falls c st nw
  as_before : asked ≡ false → falls ≡ false → is_recovering st ≡ true → steps_done_of nw ≡ steps_done_of st → Onto asked falls c st nw

same : (c : ℕ) (st : Standing) → Onto false false c st st
same c st = ⊎_elim (λ r. as_before refl refl r refl) (λ r. not_so r) (cases_Bool (is_recovering st))

kept_onto : (c : ℕ) (st nw : Standing) → nw ≡ st → Onto false false c st nw
kept_onto c st nw e = subst (λ x. Onto false false c st x) (sym e) (same c st)

abbrev pub forgets : UnitPut → Bool
forgets misfit = false
forgets (store q) = false
forgets (match c) = false
forgets (change c) = false
forgets (erase c) = false
forgets forget = true
forgets lock_again = false

pub forgets_carried : (p : Put) (ds : List ℕ) → forgets (carried p ds) ≡ forgetting p
forgets_carried StorePassphrase ds = refl
forgets_carried MatchPassphrase ds = refl
forgets_carried ChangePassphrase ds = refl
forgets_carried ErasePassphrase ds = refl
forgets_carried EraseForgottenPassphrase ds = refl
forgets_carried LockAgain ds = refl
forgets_carried ChangeInterfaceAccess ds = refl

-- a Put, at the unit's own record
put_onto : (ok : Bool) (c : ℕ) (st : Standing) (p : UnitPut) (x : UnitRecord) → x.standing ≡ st → Onto (forgets p && eqb (judged ok st p x).code 0) false c st (judged ok st p x).after.standing
put_onto ok c impersonal misfit x e = rw e (same c impersonal)
put_onto ok c impersonal (store option.None) x e = rw e (same c impersonal)
put_onto ok c impersonal (store (option.Some q)) x e = not_so refl
put_onto ok c impersonal (match option.None) x e = rw e (same c impersonal)
put_onto ok c impersonal (match (option.Some q)) x e = rw e (same c impersonal)
put_onto ok c impersonal (change option.None) x e = rw e (same c impersonal)
put_onto ok c impersonal (change (option.Some q)) x e = rw e (same c impersonal)
put_onto ok c impersonal (erase option.None) x e = rw e (same c impersonal)
put_onto ok c impersonal (erase (option.Some q)) x e = rw e (same c impersonal)
put_onto ok c impersonal forget x e = rw e (same c impersonal)
put_onto ok c impersonal lock_again x e = rw e (same c impersonal)
put_onto ok c (locked w) misfit x e = rw e (same c (locked w))
put_onto ok c (locked w) (store option.None) x e = rw e (same c (locked w))
put_onto ok c (locked w) (store (option.Some q)) x e = rw e (same c (locked w))
put_onto ok c (locked w) (match option.None) x e = rw e (same c (locked w))
put_onto true c (locked w) (match (option.Some q)) x e = not_so refl
put_onto false c (locked w) (match (option.Some q)) x e = rw e (same c (locked w))
put_onto ok c (locked w) (change option.None) x e = rw e (same c (locked w))
put_onto ok c (locked w) (change (option.Some q)) x e = rw e (same c (locked w))
put_onto ok c (locked w) (erase option.None) x e = rw e (same c (locked w))
put_onto ok c (locked w) (erase (option.Some q)) x e = rw e (same c (locked w))
put_onto ok c (locked w) forget x e = begun refl refl
put_onto ok c (locked w) lock_again x e = rw e (same c (locked w))
put_onto ok c (unlocked w) misfit x e = rw e (same c (unlocked w))
put_onto ok c (unlocked w) (store option.None) x e = rw e (same c (unlocked w))
put_onto ok c (unlocked w) (store (option.Some q)) x e = rw e (same c (unlocked w))
put_onto ok c (unlocked w) (match option.None) x e = rw e (same c (unlocked w))
put_onto ok c (unlocked w) (match (option.Some q)) x e = rw e (same c (unlocked w))
put_onto ok c (unlocked w) (change option.None) x e = rw e (same c (unlocked w))
put_onto true c (unlocked w) (change (option.Some q)) x e = not_so refl
put_onto false c (unlocked w) (change (option.Some q)) x e = rw e (same c (unlocked w))
put_onto ok c (unlocked w) (erase option.None) x e = rw e (same c (unlocked w))
put_onto true c (unlocked w) (erase (option.Some q)) x e = not_so refl
put_onto false c (unlocked w) (erase (option.Some q)) x e = rw e (same c (unlocked w))
put_onto ok c (unlocked w) forget x e = rw e (same c (unlocked w))
put_onto true c (unlocked w) lock_again x e = not_so refl
put_onto false c (unlocked w) lock_again x e = rw e (same c (unlocked w))
put_onto ok c (recovering w d) misfit x e = rw e (same c (recovering w d))
put_onto ok c (recovering w d) (store option.None) x e = rw e (same c (recovering w d))
put_onto ok c (recovering w d) (store (option.Some q)) x e = rw e (same c (recovering w d))
put_onto ok c (recovering w d) (match option.None) x e = rw e (same c (recovering w d))
put_onto ok c (recovering w d) (match (option.Some q)) x e = rw e (same c (recovering w d))
put_onto ok c (recovering w d) (change option.None) x e = rw e (same c (recovering w d))
put_onto ok c (recovering w d) (change (option.Some q)) x e = rw e (same c (recovering w d))
put_onto ok c (recovering w d) (erase option.None) x e = rw e (same c (recovering w d))
put_onto ok c (recovering w d) (erase (option.Some q)) x e = rw e (same c (recovering w d))
put_onto ok c (recovering w d) forget x e = rw e (same c (recovering w d))
put_onto ok c (recovering w d) lock_again x e = rw e (same c (recovering w d))

PutAt : ℕ → ℕ → ℕ → Bool → UnitPut → Stick → Type 0
PutAt c u v n p s = Onto (eqb v u && forgets p && eqb (turned n p (unit_at v s)).code 0) false c (unit_at u s).standing (get_or (alter v (λ x. (turned n p x).after) s.units) u new_unit).standing

put_here : (c u v : ℕ) (n : Bool) (p : UnitPut) (s : Stick) → v ≡ u → PutAt c u v n p s
unfolding PutAt
put_here c u v n p s e = subst (λ w. PutAt c u w n p s) (sym e) (rw (eq-eqb u u refl)
    (⊎_elim
    (λ a. rw a (put_onto (correct n (unit_at u s) p) c (unit_at u s).standing p (unit_at u s) refl))
    (λ a. rw a (not_so refl))
    (alter_same s.units u (λ x. (turned n p x).after) new_unit)))

put_there : (c u v : ℕ) (n : Bool) (p : UnitPut) (s : Stick) → (v ≡ u → ⊥) → PutAt c u v n p s
unfolding PutAt
put_there c u v n p s ne = rw (ne_eqb v u ne, alter_other s.units v u (λ x. (turned n p x).after) new_unit ne) (same c (unit_at u s).standing)

unit_onto : (c u : ℕ) (f : Option ℕ) (n : Bool) (p : Put) (k : ℕ) (ds : List ℕ) (s : Stick) →
    Onto (is_unit f u && forgetting p && eqb (put_to_unit f n (sized p k ds) s).code 0) false c (unit_at u s).standing (unit_at u (put_to_unit f n (sized p k ds) s).next).standing
unfolding PutAt
unit_onto c u option.None n p k ds s = same c (unit_at u s).standing
unit_onto c u (option.Some v) n p k ds s =
    subst (λ a. Onto a false c (unit_at u s).standing (unit_at u (put_to_unit (option.Some v) n (sized p k ds) s).next).standing) (kinds (eqb v u))
    (⊎_elim (put_here c u v n (sized p k ds) s) (put_there c u v n (sized p k ds) s) (cases_eq v u))
  where
    kinds : (a : Bool) → (a && forgets (sized p k ds) && eqb (turned n (sized p k ds) (unit_at v s)).code 0) ≡ (a && forgetting p && eqb (turned n (sized p k ds) (unit_at v s)).code 0)
    kinds true = sym (same_kind forgetting forgets forgets_carried p k ds n (unit_at v s))
    kinds false = refl

module _ (lay : Layout) (u : ℕ) (s : Stick) where
  OntoRequest : Bool → Outcome → Type 0
  OntoRequest kind o = Onto (kind && eqb o.code 0) false (blocks_of lay u) (unit_at u s).standing (unit_at u o.next).standing

  refused_onto : (a : Bool) → Onto (a && false) false (blocks_of lay u) (unit_at u s).standing (unit_at u s).standing
  refused_onto true = same _ _
  refused_onto false = same _ _

  calm_onto : (t : Stick) → Calm lay s t → Onto false false (blocks_of lay u) (unit_at u s).standing (unit_at u t).standing
  calm_onto t c = kept_onto _ _ _ (calm_keeps lay u s t c)

  put_request_onto : (p : Put) (i k n : ℕ) (ds : List ℕ) → is_unit_put p ≡ true → OntoRequest (asks_put forgetting lay u (PutTo p (address i k))) (asking lay (PutTo p (address i k)) n ds s)
  unfolding OntoRequest asking
  put_request_onto p i k n ds e =
      when_present_all (OntoRequest (is_unit (find_unit lay i k) u && forgetting p)) s.phase s _ (refused_onto _) (refused_onto _)
      (subst (OntoRequest (is_unit (find_unit lay i k) u && forgetting p)) (sym (unit_put_is lay p i k n ds s e)) (unit_onto (blocks_of lay u) u (find_unit lay i k) (is_negotiable (interface_at i s).ids) p n ds s))

  calm_request_onto : (r : Request) (n : ℕ) (ds : List ℕ) → puts r ≡ false → asks_put forgetting lay u r ≡ false → OntoRequest (asks_put forgetting lay u r) (asking lay r n ds s)
  unfolding OntoRequest asking
  calm_request_onto r n ds e a = rw a (calm_onto _ (request_calm lay s r n ds e))

  request_onto : (r : Request) (n : ℕ) (ds : List ℕ) → OntoRequest (asks_put forgetting lay u r) (asking lay r n ds s)
  request_onto DeviceDescriptor n ds = calm_request_onto DeviceDescriptor n ds refl refl
  request_onto Bundle n ds = calm_request_onto Bundle n ds refl refl
  request_onto (LockData a) n ds = calm_request_onto (LockData a) n ds refl refl
  request_onto (HighestUnit i) n ds = calm_request_onto (HighestUnit i) n ds refl refl
  request_onto (ClearJam i) n ds = calm_request_onto (ClearJam i) n ds refl refl
  request_onto (PutTo StorePassphrase a) n ds = put_request_onto StorePassphrase a.interface a.unit n ds refl
  request_onto (PutTo MatchPassphrase a) n ds = put_request_onto MatchPassphrase a.interface a.unit n ds refl
  request_onto (PutTo ChangePassphrase a) n ds = put_request_onto ChangePassphrase a.interface a.unit n ds refl
  request_onto (PutTo ErasePassphrase a) n ds = put_request_onto ErasePassphrase a.interface a.unit n ds refl
  request_onto (PutTo EraseForgottenPassphrase a) n ds = put_request_onto EraseForgottenPassphrase a.interface a.unit n ds refl
  request_onto (PutTo LockAgain a) n ds = put_request_onto LockAgain a.interface a.unit n ds refl
  request_onto (PutTo ChangeInterfaceAccess a) n ds = calm_request_onto (PutTo ChangeInterfaceAccess a) n ds refl (and_right (is_unit (find_unit lay a.interface a.unit) u) false refl)

  served_onto : (a : Option Asked) (ds : List ℕ) → OntoRequest (asked_put forgetting lay u a) (when_present s.phase s (asked lay a ds s))
  unfolding OntoRequest asking
  served_onto option.None ds = calm_onto _ (unlisted_calm lay s)
  served_onto (option.Some a) ds = request_onto a.request a.length ds

-- where a unit is recovering, some unit is the first
first_below : (us : List UnitRecord) (u : ℕ) → is_recovering (get_or us u new_unit).standing ≡ true → first_recovering us < length us
first_below [] u r = absurd (false≢true r)
first_below (x ∷ us) zero r = rw r (omega arith)
first_below (x ∷ us) (suc u) r = elim (is_recovering x.standing) as (λ b. cond b 0 (suc (first_recovering us)) < suc (length us)) [
  | true ↦ omega arith
  | false ↦ up (first_below us u r)
]
  where
    up : first_recovering us < length us → suc (first_recovering us) < suc (length us)
    up h = omega arith

advanced_onto : (last : Bool) (c : ℕ) (st : Standing) (x : UnitRecord) → x.standing ≡ st → leb c (16 * (steps_done_of st + 1)) ≡ last → Onto false (is_recovering st && true) c st (advanced last st x).standing
advanced_onto last c impersonal x e f = not_so (ap is_recovering e)
advanced_onto last c (locked p) x e f = not_so (ap is_recovering e)
advanced_onto last c (unlocked p) x e f = not_so (ap is_recovering e)
advanced_onto true c (recovering p d) x e f = not_so refl
advanced_onto false c (recovering p d) x e f =
    let more : 16 * (d + 1) < c = leb-false c (16 * (d + 1)) f in
    counted refl refl refl (omega arith) (omega arith)

work_onto : (lay : Layout) (u : ℕ) (s : Stick) → Onto false (falls_to u s work) (blocks_of lay u) (unit_at u s).standing (unit_at u (worked lay s)).standing
work_onto lay u s =
    cond_facts (λ (t : Stick). Onto false (is_recovering (unit_at u s).standing && eqb v u) (blocks_of lay u) (unit_at u s).standing (unit_at u t).standing) (ltb v (length s.units)) (on v) s
    (λ e. ⊎_elim here there (cases_eq v u))
    (λ e. ⊎_elim
    (λ r. absurd (none (first_below s.units u r) (ltb-false v (length s.units) e)))
    (λ r. not_so r)
    (cases_Bool (is_recovering (unit_at u s).standing)))
  where
    v : ℕ
    v = first_recovering s.units

    on : ℕ → Stick
    on w = work_on lay w (steps_done_of (unit_at w s).standing) s

    none : v < length s.units → length s.units ≤ v → ⊥
    none a b = omega arith

    fin : Bool
    fin = leb (place_at lay u).count (16 * (steps_done_of (unit_at u s).standing + 1))

    At : ℕ → Type 0
    At w = Onto false (is_recovering (unit_at u s).standing && eqb w u) (blocks_of lay u) (unit_at u s).standing (unit_at u (on w)).standing

    here : v ≡ u → At v
    here e = subst At (sym e) (rw (eq-eqb u u refl)
        (⊎_elim
        (λ a. rw a (advanced_onto fin (place_at lay u).count (unit_at u s).standing (unit_at u s) refl refl))
        (λ a. rw a (not_so refl))
        (alter_same s.units u (λ x. advanced fin x.standing x) new_unit)))

    there : (v ≡ u → ⊥) → At v
    there ne =
        rw (ne_eqb v u ne, alter_other s.units v u (λ x. advanced (leb (place_at lay v).count (16 * (steps_done_of (unit_at v s).standing + 1))) x.standing x) new_unit ne)
        (rw (and_right (is_recovering (unit_at u s).standing) false refl) (same (blocks_of lay u) (unit_at u s).standing))

relocked_onto : (c : ℕ) (st : Standing) → Onto false false c st (relocked st)
relocked_onto c impersonal = not_so refl
relocked_onto c (locked p) = not_so refl
relocked_onto c (unlocked p) = not_so refl
relocked_onto c (recovering p d) = same c (recovering p d)

OntoEvent : Layout → ℕ → Stick → Event → Type 0
OntoEvent lay u s e = Onto (accepts forgetting lay u s e) (falls_to u s e) (blocks_of lay u) (unit_at u s).standing (unit_at u (step lay s e).next).standing

step_onto : (lay : Layout) (u : ℕ) (s : Stick) (e : Event) → OntoEvent lay u s e
unfolding OntoEvent OntoRequest
step_onto lay u s (control setup ds) =
    subst₂ (λ (c : ℕ) (t : Stick). Onto (asked_put forgetting lay u (requested setup) && eqb c 0) false (blocks_of lay u) (unit_at u s).standing (unit_at u t).standing)
    (sym (control_code lay s setup ds)) (sym (control_next lay s setup ds)) (served_onto lay u s (requested setup) ds)
step_onto lay u s (bulk i cbw ds) = calm_onto lay u s _ (bulked_calm lay s i cbw ds)
step_onto lay u s work = work_onto lay u s
step_onto lay u s (clock ms) = calm_onto lay u s _ (passed_calm lay s ms s.phase)
step_onto lay u s reset = same _ _
step_onto lay u s suspend = same _ _
step_onto lay u s resume = same _ _
step_onto lay u s power = subst (λ x. Onto false false (blocks_of lay u) (unit_at u s).standing x) (sym (power_relocks lay u s)) (relocked_onto _ (unit_at u s).standing)

-- over a history
pub record Counted (lay : Layout) (m : List Block) (u : ℕ) (h : List Event) : Type 0 where
  pub steps : is_recovering (unit_at u (after lay m h)).standing ≡ true → steps_since lay m u h ≡ option.Some (steps_done_of (unit_at u (after lay m h)).standing)
  pub fewer : is_recovering (unit_at u (after lay m h)).standing ≡ true → 0 < blocks_of lay u → 16 * steps_done_of (unit_at u (after lay m h)).standing < blocks_of lay u

counted_more : (lay : Layout) (m : List Block) (u : ℕ) (e : Event) (past : List Event) → OntoEvent lay u (after lay m past) e → Counted lay m u past → Counted lay m u (e ∷ past)
unfolding OntoEvent
counted_more lay m u e past (not_so n) b = record { steps = λ r. absurd (both_ways _ n r); fewer = λ r. absurd (both_ways _ n r) }
counted_more lay m u e past (begun a z) b = record { steps = λ r. rw (a, z) refl; fewer = λ r c. rw z (omega arith) }
counted_more lay m u e past (counted a f q z w) b = record { steps = λ r. rw (a, f, z) (ap one_more (b.steps q)); fewer = λ r c. rw z w }
counted_more lay m u e past (as_before a f q z) b = record { steps = λ r. rw (a, f, z) (b.steps q); fewer = λ r c. rw z (b.fewer q c) }

pub counted_all : (lay : Layout) (m : List Block) (u : ℕ) (h : List Event) → Counted lay m u h
counted_all lay m u [] =
    let e : unit_at u (first lay m) ≡ new_unit = replicate_getD (sum lay.counts) u new_unit in
    record { steps = λ r. absurd (false≢true (rw e at r)); fewer = λ r. absurd (false≢true (rw e at r)) }
counted_all lay m u (e ∷ past) = counted_more lay m u e past (step_onto lay u (after lay m past) e) (counted_all lay m u past)

-- What an event does to a recovery

put_stays : (ok : Bool) (p : UnitPut) (st : Standing) (x : UnitRecord) → x.standing ≡ st → is_recovering st ≡ true → (judged ok st p x).after.standing ≡ x.standing
put_stays ok p impersonal x e r = absurd (false≢true r)
put_stays ok p (locked w) x e r = absurd (false≢true r)
put_stays ok p (unlocked w) x e r = absurd (false≢true r)
put_stays ok misfit (recovering w d) x e r = refl
put_stays ok (store c) (recovering w d) x e r = refl
put_stays ok (match c) (recovering w d) x e r = refl
put_stays ok (change c) (recovering w d) x e r = refl
put_stays ok (erase c) (recovering w d) x e r = refl
put_stays ok forget (recovering w d) x e r = refl
put_stays ok lock_again (recovering w d) x e r = refl

relocked_stays : (st : Standing) → is_recovering st ≡ true → relocked st ≡ st
relocked_stays impersonal r = absurd (false≢true r)
relocked_stays (locked w) r = absurd (false≢true r)
relocked_stays (unlocked w) r = absurd (false≢true r)
relocked_stays (recovering w d) r = refl

module _ (lay : Layout) (u : ℕ) (s : Stick) (r : is_recovering (unit_at u s).standing ≡ true) where
  unfoldable pub Stays : Stick → Type 0
  Stays t = (unit_at u t).standing ≡ (unit_at u s).standing

  unit_stays : (f : Option ℕ) (n : Bool) (p : UnitPut) → Stays (put_to_unit f n p s).next
  unfolding Stays
  unit_stays option.None n p = refl
  unit_stays (option.Some v) n p =
      alter_rel (λ (x y : UnitRecord). is_recovering x.standing ≡ true → y.standing ≡ x.standing) s.units v u (λ x. (turned n p x).after) new_unit (λ x h. refl)
      (λ x h. put_stays (correct n x p) p x.standing x refl h) r

  calm_stays : (t : Stick) → Calm lay s t → Stays t
  unfolding Stays
  calm_stays t c = calm_keeps lay u s t c

  request_stays : (q : Request) (n : ℕ) (ds : List ℕ) → Stays (asking lay q n ds s).next
  unfolding Stays asking
  request_stays DeviceDescriptor n ds = calm_stays _ (request_calm lay s DeviceDescriptor n ds refl)
  request_stays Bundle n ds = calm_stays _ (request_calm lay s Bundle n ds refl)
  request_stays (LockData a) n ds = calm_stays _ (request_calm lay s (LockData a) n ds refl)
  request_stays (HighestUnit i) n ds = calm_stays _ (request_calm lay s (HighestUnit i) n ds refl)
  request_stays (ClearJam i) n ds = calm_stays _ (request_calm lay s (ClearJam i) n ds refl)
  request_stays (PutTo p a) n ds =
      ⊎_elim
      (λ e. when_present_all (λ o. Stays o.next) s.phase s _ refl refl
      (subst (λ o. Stays o.next) (sym (unit_put_is lay p a.interface a.unit n ds s e)) (unit_stays (find_unit lay a.interface a.unit) (is_negotiable (interface_at a.interface s).ids) (sized p n ds))))
      (λ e. calm_stays _ (request_calm lay s (PutTo p a) n ds e))
      (cases_Bool (is_unit_put p))

  served_stays : (o : Option Asked) (ds : List ℕ) → Stays (when_present s.phase s (asked lay o ds s)).next
  unfolding asking
  served_stays option.None ds = calm_stays _ (unlisted_calm lay s)
  served_stays (option.Some a) ds = request_stays a.request a.length ds

  v : ℕ
  v = first_recovering s.units

  on : ℕ → Stick
  on w = work_on lay w (steps_done_of (unit_at w s).standing) s

  -- some unit is recovering, so that a work step is made
  works : worked lay s ≡ on v
  unfolding v on
  works = ap (λ b. cond b (on v) s) (lt-ltb v (length s.units) (first_below s.units u r))

  falls_not : falls_to u s work ≡ false → v ≡ u → ⊥
  unfolding v
  falls_not f e = true≢false (sym (ap₂ (λ a b. a && b) r (eq-eqb v u e)) ∙ f)

  falls_is : falls_to u s work ≡ true → v ≡ u
  unfolding v
  falls_is f = eqb-true v u (and_parts (is_recovering (unit_at u s).standing) (eqb v u) f).1

  work_stays : falls_to u s work ≡ false → Stays (worked lay s)
  unfolding Stays on
  work_stays f = ap (λ (t : Stick). (unit_at u t).standing) works ∙ ap (λ (x : UnitRecord). x.standing) (alter_other s.units v u _ new_unit (falls_not f))

  pub goes_on : (e : Event) → falls_to u s e ≡ false → Stays (step lay s e).next
  unfolding Stays
  goes_on (control setup ds) f = ap (λ (t : Stick). (unit_at u t).standing) (control_next lay s setup ds) ∙ served_stays (requested setup) ds
  goes_on (bulk i cbw ds) f = calm_stays _ (bulked_calm lay s i cbw ds)
  goes_on work f = work_stays f
  goes_on (clock ms) f = calm_stays _ (passed_calm lay s ms s.phase)
  goes_on reset f = refl
  goes_on suspend f = refl
  goes_on resume f = refl
  goes_on power f = power_relocks lay u s ∙ relocked_stays (unit_at u s).standing r

  unfoldable pub d : ℕ
  d = steps_done_of (unit_at u s).standing

  unfoldable pub c : ℕ
  c = (place_at lay u).count

  -- the unit after the work step that falls to it
  worked_unit : falls_to u s work ≡ true → unit_at u (worked lay s) ≡ advanced (leb c (16 * (d + 1))) (unit_at u s).standing (unit_at u s)
  unfolding on c d
  worked_unit f =
      ap (λ (t : Stick). unit_at u t) (works ∙ ap on (falls_is f))
      ∙ ⊎_elim (λ a. a) (λ a. absurd (false≢true (rw a at r))) (alter_at s.units u (λ x. advanced (leb c (16 * (d + 1))) x.standing x) new_unit)

  left : completing c (unit_at u s).standing ≡ 10 * (steps_for c - d)
  unfolding d
  left = completes_in (unit_at u s).standing r
    where
      completes_in : (st : Standing) → is_recovering st ≡ true → completing c st ≡ 10 * (steps_for c - steps_done_of st)
      completes_in impersonal q = absurd (false≢true q)
      completes_in (locked w) q = absurd (false≢true q)
      completes_in (unlocked w) q = absurd (false≢true q)
      completes_in (recovering w n) q = refl

  tens : (n : ℕ) → 10 * n / 10 ≡ n
  tens n = omega arith

  pub reports : reported lay u s ≡ steps_for c - d
  unfolding c d
  reports = ap (λ n. n / 10) left ∙ tens (steps_for c - d)

  is_last : reported lay u s ≤ 1 → leb c (16 * (d + 1)) ≡ true
  unfolding c d
  is_last h = le-leb c (16 * (d + 1)) (last_of c d (subst (λ n. n ≤ 1) reports h))
    where
      last_of : (c d : ℕ) → steps_for c - d ≤ 1 → c ≤ 16 * (d + 1)
      last_of c d k = omega arith

  not_last : 1 < reported lay u s → leb c (16 * (d + 1)) ≡ false
  unfolding c d
  not_last h = lt-leb c (16 * (d + 1)) (more_of c d (subst (λ n. 1 < n) reports h))
    where
      more_of : (c d : ℕ) → 1 < steps_for c - d → 16 * (d + 1) < c
      more_of c d k = omega arith

  advanced_last : (st : Standing) (x : UnitRecord) → is_recovering st ≡ true → advanced true st x ≡ unit_record impersonal [] 0 true x.sense
  advanced_last impersonal x q = absurd (false≢true q)
  advanced_last (locked w) x q = absurd (false≢true q)
  advanced_last (unlocked w) x q = absurd (false≢true q)
  advanced_last (recovering w n) x q = refl

  pub advanced_more : (st : Standing) (x : UnitRecord) → is_recovering st ≡ true → (is_recovering (advanced false st x).standing ≡ true) × (steps_done_of (advanced false st x).standing ≡ steps_done_of st + 1)
  advanced_more impersonal x q = absurd (false≢true q)
  advanced_more (locked w) x q = absurd (false≢true q)
  advanced_more (unlocked w) x q = absurd (false≢true q)
  advanced_more (recovering w n) x q = (refl, refl)

  ends : falls_to u s work ≡ true → reported lay u s ≤ 1 → unit_at u (worked lay s) ≡ unit_record impersonal [] 0 true (unit_at u s).sense
  ends f h = worked_unit f ∙ ap (λ b. advanced b (unit_at u s).standing (unit_at u s)) (is_last h) ∙ advanced_last (unit_at u s).standing (unit_at u s) r

  pub goes_further : falls_to u s work ≡ true → 1 < reported lay u s → unit_at u (worked lay s) ≡ advanced false (unit_at u s).standing (unit_at u s)
  goes_further f h = worked_unit f ∙ ap (λ b. advanced b (unit_at u s).standing (unit_at u s)) (not_last h)

locked_if : (st : Standing) → is_recovering st ≡ true → is_locked st ≡ true
locked_if impersonal q = absurd (false≢true q)
locked_if (locked w) q = refl
locked_if (unlocked w) q = absurd (false≢true q)
locked_if (recovering w n) q = refl

zeros_block : (x : Block) → IsZeros (zeroed_block x)
zeros_block bad = tt
zeros_block (good bs) = refl

-- the last step leaves nothing but zeros
wiped : (lay : Layout) (u : ℕ) (s : Stick) → Clean lay u s → is_recovering (unit_at u s).standing ≡ true → falls_to u s work ≡ true → reported lay u s ≤ 1 → (b : ℕ) → Holds lay u b → IsZeros (get_or (worked lay s).blocks b bad)
unfolding but
wiped lay u s k r f h b x =
    let open-now = ap (λ (y : UnitRecord). is_locked y.standing) (ends lay u s r f h) in
    let e = ap (λ (t : Stick). get_or t.blocks b bad) (work_lets_go lay u s (locked_if (unit_at u s).standing r) k open-now) in
    let z = zeroed_in (worked lay s).blocks (place_at lay u).start (place_at lay u).count b x.0 x.1 in
    subst IsZeros (sym z ∙ e) (zeros_block (get_or (worked lay s).blocks b bad))

-- a work step that does not end it takes one from the steps left
counts : (lay : Layout) (u : ℕ) (s : Stick) → is_recovering (unit_at u s).standing ≡ true → falls_to u s work ≡ true → 1 < reported lay u s →
    (is_recovering (unit_at u (worked lay s)).standing ≡ true) × (reported lay u (worked lay s) + 1 ≡ reported lay u s)
unfolding c d
counts lay u s r f h =
    let g = goes_further lay u s r f h in
    let m = advanced_more lay u s r (unit_at u s).standing (unit_at u s) r in
    let q : is_recovering (unit_at u (worked lay s)).standing ≡ true = ap (λ (y : UnitRecord). is_recovering y.standing) g ∙ m.0 in
    let n : steps_done_of (unit_at u (worked lay s)).standing ≡ steps_done_of (unit_at u s).standing + 1 = ap (λ (y : UnitRecord). steps_done_of y.standing) g ∙ m.1 in (
      q,
      ap (λ k. k + 1) (reports lay u (worked lay s) q ∙ ap (λ k. steps_for (place_at lay u).count - k) n)
          ∙ down (steps_for (place_at lay u).count) (steps_done_of (unit_at u s).standing) (subst (λ k. 1 < k) (reports lay u s r) h) ∙ sym (reports lay u s r),
    )
  where
    down : (n d : ℕ) → 1 < n - d → n - (d + 1) + 1 ≡ n - d
    down n d k = omega arith

recovers : (lay : Layout) (u : ℕ) (s : Stick) → Clean lay u s → is_recovering (unit_at u s).standing ≡ true → (e : Event) → Recovers lay u s e
unfolding Stays
recovers lay u s k r (control setup ds) = record { goes_on = goes_on lay u s r (control setup ds); counts = λ f. absurd (false≢true f); ends = λ f. absurd (false≢true f); wiped = λ f. absurd (false≢true f) }
recovers lay u s k r (bulk i cbw ds) = record { goes_on = goes_on lay u s r (bulk i cbw ds); counts = λ f. absurd (false≢true f); ends = λ f. absurd (false≢true f); wiped = λ f. absurd (false≢true f) }
recovers lay u s k r work = record { goes_on = goes_on lay u s r work; counts = counts lay u s r; ends = ends lay u s r; wiped = wiped lay u s k r }
recovers lay u s k r (clock ms) = record { goes_on = goes_on lay u s r (clock ms); counts = λ f. absurd (false≢true f); ends = λ f. absurd (false≢true f); wiped = λ f. absurd (false≢true f) }
recovers lay u s k r reset = record { goes_on = goes_on lay u s r reset; counts = λ f. absurd (false≢true f); ends = λ f. absurd (false≢true f); wiped = λ f. absurd (false≢true f) }
recovers lay u s k r suspend = record { goes_on = goes_on lay u s r suspend; counts = λ f. absurd (false≢true f); ends = λ f. absurd (false≢true f); wiped = λ f. absurd (false≢true f) }
recovers lay u s k r resume = record { goes_on = goes_on lay u s r resume; counts = λ f. absurd (false≢true f); ends = λ f. absurd (false≢true f); wiped = λ f. absurd (false≢true f) }
recovers lay u s k r power = record { goes_on = goes_on lay u s r power; counts = λ f. absurd (false≢true f); ends = λ f. absurd (false≢true f); wiped = λ f. absurd (false≢true f) }

-- a time told in four bytes, and in tens of milliseconds
told_back : (n : ℕ) → n % 256 + 256 * (n / 256 % 256) + 65536 * (n / 65536 % 256) + 16777216 * (n / 16777216) ≡ n
told_back n = omega arith

in_tens : (c : ℕ) (st : Standing) → completing c st ≡ 10 * (completing c st / 10)
in_tens c impersonal = omega arith
in_tens c (locked p) = omega arith
in_tens c (unlocked p) = omega arith
in_tens c (recovering p d) = omega arith

pub lock_data_reports : LockDataReports
lock_data_reports lay u i k s = told_back (completing (blocks_of lay u) (unit_at u s).standing) ∙ in_tens (blocks_of lay u) (unit_at u s).standing

pub recovers_as_reported : RecoversAsReported
recovers_as_reported lay m h u fit r e = recovers lay u (after lay m h) (after_clean lay u (fit_disjoint lay (length m) fit) m h) r e

pub completes_in_last : CompletesInLast
completes_in_last lay m h u fit e = (there, back)
  where
    s : Stick
    s = after lay m h

    t : Stick
    t = (step lay s e).next

    there : completes lay u s e ≡ true → (falls_to u s e ≡ true) × (reported lay u s ≤ 1)
    there q =
        let k = and_parts (is_recovering (unit_at u s).standing) (not (is_recovering (unit_at u t).standing)) q in
        let r = recovers_as_reported lay m h u fit k.0 e in
        let over = not-true (is_recovering (unit_at u t).standing) k.1 in
        ⊎_elim
        (λ f. (f, ⊎_elim (λ n. absurd (both_ways _ over (r.counts f n).0)) (λ n. n) (cases_lt 1 (reported lay u s))))
        (λ f. absurd (both_ways _ over (ap is_recovering (r.goes_on f) ∙ k.0)))
        (cases_Bool (falls_to u s e))

    back : (falls_to u s e ≡ true) × (reported lay u s ≤ 1) → completes lay u s e ≡ true
    back q =
        let k = and_parts (is_recovering (unit_at u s).standing) (eqb (first_recovering s.units) u) (and_parts (is_work e) _ q.0).1 in
        let r = recovers_as_reported lay m h u fit k.0 e in
        and_from (is_recovering (unit_at u s).standing) (not (is_recovering (unit_at u t).standing)) k.0
        (ap (λ (x : UnitRecord). not (is_recovering x.standing)) (r.ends q.0 q.1))

-- one event of a recovery that does not end in it
record Lasts (lay : Layout) (u : ℕ) (s : Stick) (e : Event) : Type 0 where
  stays : is_recovering (unit_at u (step lay s e).next).standing ≡ true
  fewer : reported lay u (step lay s e).next + cond (falls_to u s e) 1 0 ≡ reported lay u s

calm_lasts : (lay : Layout) (u : ℕ) (s : Stick) (e : Event) → is_recovering (unit_at u s).standing ≡ true → falls_to u s e ≡ false → Lasts lay u s e
unfolding Stays
calm_lasts lay u s e r f =
    let g = goes_on lay u s r e f in
    record {
      stays = ap is_recovering g ∙ r;
      fewer = ap₂ (λ (st : Standing) (b : Bool). completing (blocks_of lay u) st / 10 + cond b 1 0) g f ∙ plus_none (reported lay u s);
    }
  where
    plus_none : (n : ℕ) → n + 0 ≡ n
    plus_none n = omega arith

one_lasts : (lay : Layout) (u : ℕ) (s : Stick) (e : Event) → is_recovering (unit_at u s).standing ≡ true → cond (falls_to u s e) 1 0 < reported lay u s → Lasts lay u s e
one_lasts lay u s (control setup ds) r h = calm_lasts lay u s (control setup ds) r refl
one_lasts lay u s (bulk i cbw ds) r h = calm_lasts lay u s (bulk i cbw ds) r refl
one_lasts lay u s work r h = ⊎_elim
    (λ f. let k = counts lay u s r f (subst (λ b. cond b 1 0 < reported lay u s) f h) in
    record { stays = k.0; fewer = ap (λ b. reported lay u (worked lay s) + cond b 1 0) f ∙ k.1 })
    (λ f. calm_lasts lay u s work r f)
    (cases_Bool (falls_to u s work))
one_lasts lay u s (clock ms) r h = calm_lasts lay u s (clock ms) r refl
one_lasts lay u s reset r h = calm_lasts lay u s reset r refl
one_lasts lay u s suspend r h = calm_lasts lay u s suspend r refl
one_lasts lay u s resume r h = calm_lasts lay u s resume r refl
one_lasts lay u s power r h = calm_lasts lay u s power r refl

pub lasts_as_reported : LastsAsReported
lasts_as_reported lay u s [] r h = (r, plus_none (reported lay u s))
  where
    plus_none : (n : ℕ) → n + 0 ≡ n
    plus_none n = omega arith
lasts_as_reported lay u s (e ∷ es) r h =
    let k = one_lasts lay u s e r (part (cond (falls_to u s e) 1 0) (fallen lay u (step lay s e).next es) (reported lay u s) h) in
    let rest = lasts_as_reported lay u (step lay s e).next es k.stays (left_over (cond (falls_to u s e) 1 0) (fallen lay u (step lay s e).next es) (reported lay u s) (reported lay u (step lay s e).next) h k.fewer) in
    (rest.0, sums (cond (falls_to u s e) 1 0) (fallen lay u (step lay s e).next es) (reported lay u s) (reported lay u (step lay s e).next) (reported lay u (run lay (step lay s e).next es)) rest.1 k.fewer)
  where
    part : (a b n : ℕ) → a + b < n → a < n
    part a b n g = omega arith

    left_over : (a b n m : ℕ) → a + b < n → m + a ≡ n → b < m
    left_over a b n m g q = omega arith

    sums : (a b n m k : ℕ) → k + b ≡ m → m + a ≡ n → k + (a + b) ≡ n
    sums a b n m k x y = omega arith

pub wipes_in_order : WipesInOrder
unfolding on v
wipes_in_order lay u s b f x = (inside, outside)
  where
    start : ℕ
    start = (place_at lay u).start

    count : ℕ
    count = (place_at lay u).count

    done : ℕ
    done = steps_done_of (unit_at u s).standing

    r : is_recovering (unit_at u s).standing ≡ true
    r = (and_parts (is_recovering (unit_at u s).standing) (eqb (first_recovering s.units) u) f).0

    e : (worked lay s).blocks ≡ zeroed (start + 16 * done) (min 16 (count - 16 * done)) s.blocks
    e = ap (λ (t : Stick). t.blocks) (works lay u s r ∙ ap (on lay u s r) (falls_is lay u s r f))

    within : (b start count d : ℕ) → start ≤ b → b < start + count → (b - start) / 16 ≡ d → (start + 16 * d ≤ b) × (b < start + 16 * d + min 16 (count - 16 * d))
    within b start count d h k q = (omega arith, omega arith)

    without : (b start count d : ℕ) → start ≤ b → b < start + count → ((b - start) / 16 ≡ d → ⊥) → (b < start + 16 * d) ⊎ (start + 16 * d + min 16 (count - 16 * d) ≤ b)
    without b start count d h k q = ⊎_elim
        (λ l. inl l)
        (λ l. ⊎_elim (λ n. absurd (q (omega arith))) (λ n. inr n) (cases_lt b (start + 16 * d + min 16 (count - 16 * d))))
        (cases_lt b (start + 16 * d))

    inside : (b - start) / 16 ≡ done → IsZeros (get_or (worked lay s).blocks b bad)
    inside q =
        let w = within b start count done x.0 x.1 q in
        subst IsZeros (sym (ap (λ (m : List Block). get_or m b bad) e ∙ zeroed_in s.blocks (start + 16 * done) (min 16 (count - 16 * done)) b w.0 w.1)) (zeros_block (get_or s.blocks b bad))

    outside : ((b - start) / 16 ≡ done → ⊥) → get_or (worked lay s).blocks b bad ≡ get_or s.blocks b bad
    outside q = ap (λ (m : List Block). get_or m b bad) e ∙ zeroed_getD s.blocks (start + 16 * done) (min 16 (count - 16 * done)) b bad (without b start count done x.0 x.1 q)
