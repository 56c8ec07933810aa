-- A unit that holds a passphrase is Unlocked exactly when it was opened, and not closed since.
use Rattle.std.proofs.Common.{◌≡◌, ℕ, Bool, true, false, cond, ◌&&◌, ◌||◌, eqb, ltb, ◌⊎◌, List, [], ◌∷◌, length, get_or, Option, sym, refl, subst, subst₂, inl, inr, ⊎_elim}
use Rattle.std.proofs.lemmas.Bool.{false≢true, cases_eq, both_ways, eq-eqb, ne_eqb}
use Rattle.std.specs.declared.option.Option.TheVariants as option
use Rattle.model.specs.Blocks.{Block}
use Rattle.model.specs.Control.{Outcome, alter, unit_at, interface_at, find_unit, sized, put_to_unit, asked, when_present}
use Rattle.model.specs.Events.{Event, control, bulk, work, clock, reset, suspend, resume, power, step, after}
use Rattle.model.specs.Identities.{is_negotiable}
use Rattle.model.specs.Layouts.{Layout, sum}
use Rattle.model.specs.Puts.{UnitPut, carried, misfit, store, match, change, erase, forget, lock_again, correct, judged, turned}
use Rattle.model.specs.Recovery.{steps_done_of, first_recovering, advanced, work_on, worked}
use Rattle.model.specs.Requests.{address, requested}
use Rattle.model.specs.Sticks.{Stick, first}
use Rattle.model.specs.Units.{Standing, impersonal, locked, unlocked, recovering, UnitRecord, new_unit, is_locked, holds_phrase, relocked}
use Rattle.model.specs.declared.request.Asked.{Asked}
use Rattle.model.specs.declared.request.Put.{Put}
use Rattle.model.specs.declared.request.Put.TheVariants.{StorePassphrase, MatchPassphrase, ChangePassphrase, ErasePassphrase, EraseForgottenPassphrase, LockAgain, ChangeInterfaceAccess}
use Rattle.model.specs.declared.request.Request.{Request}
use Rattle.model.specs.declared.request.Request.TheVariants.{DeviceDescriptor, Bundle, LockData, HighestUnit, ClearJam, PutTo}
use Rattle.privacy.specs.Claims.{is_unit, is_unlocked, is_put, asks_put, asked_put, opening, locking, is_power, OpenedSince, OpenWhenOpened}
use Rattle.privacy.proofs.Calm.{when_present_all, Calm, calm_keeps, request_calm, unlisted_calm, bulked_calm, passed_calm, power_relocks, control_next, control_code, is_unit_put, puts}
use Rattle.privacy.proofs.Asking.{asking, unit_put_is}
use Rattle.privacy.proofs.PutKinds.{opens, closes_unit, opens_carried, closes_carried, same_kind}
use Rattle.privacy.proofs.Lists.{alter_other, alter_same, alter_rel, replicate_getD}

-- how an event that opens or closes, or does neither, may change a standing
record Fair (opens closes : Bool) (st nw : Standing) : Type 0 where
  to_open : is_unlocked nw ≡ true → (opens ≡ true) ⊎ ((closes ≡ false) × (is_unlocked st ≡ true))
  to_locked : is_locked nw ≡ true → (opens ≡ false) × ((closes ≡ true) ⊎ (is_locked st ≡ true))

same : (st : Standing) → Fair false false st st
same st = record { to_open = λ h. inr (refl, h); to_locked = λ h. (refl, inr h) }

to_impersonal : (o c : Bool) (st : Standing) → Fair o c st impersonal
to_impersonal o c st = record { to_open = λ h. absurd (false≢true h); to_locked = λ h. absurd (false≢true h) }

-- a Put, at the unit's own row
put_fair : (ok n : Bool) (st : Standing) (p : UnitPut) (x : UnitRecord) → x.standing ≡ st →
    Fair (opens p && eqb (judged ok st p x).code 0) (closes_unit p && eqb (judged ok st p x).code 0) st (judged ok st p x).after.standing
put_fair ok n impersonal misfit x e = rw e (same impersonal)
put_fair ok n impersonal (store option.None) x e = rw e (same impersonal)
put_fair ok n impersonal (store (option.Some q)) x e = record { to_open = λ h. inl refl; to_locked = λ h. absurd (false≢true h) }
put_fair ok n impersonal (match c) x e = rw e (same impersonal)
put_fair ok n impersonal (change c) x e = rw e (same impersonal)
put_fair ok n impersonal (erase c) x e = rw e (same impersonal)
put_fair ok n impersonal forget x e = rw e (same impersonal)
put_fair ok n impersonal lock_again x e = rw e (same impersonal)
put_fair ok n (locked q) misfit x e = rw e (same (locked q))
put_fair ok n (locked q) (store c) x e = rw e (same (locked q))
put_fair ok n (locked q) (match option.None) x e = rw e (same (locked q))
put_fair true n (locked q) (match (option.Some c)) x e = record { to_open = λ h. inl refl; to_locked = λ h. absurd (false≢true h) }
put_fair false n (locked q) (match (option.Some c)) x e = rw e (same (locked q))
put_fair ok n (locked q) (change c) x e = rw e (same (locked q))
put_fair ok n (locked q) (erase c) x e = rw e (same (locked q))
put_fair ok n (locked q) forget x e = record { to_open = λ h. absurd (false≢true h); to_locked = λ h. (refl, inr refl) }
put_fair ok n (locked q) lock_again x e = rw e (same (locked q))
put_fair ok n (unlocked q) misfit x e = rw e (same (unlocked q))
put_fair ok n (unlocked q) (store c) x e = rw e (same (unlocked q))
put_fair ok n (unlocked q) (match c) x e = rw e (same (unlocked q))
put_fair ok n (unlocked q) (change option.None) x e = rw e (same (unlocked q))
put_fair true n (unlocked q) (change (option.Some c)) x e = record { to_open = λ h. inr (refl, refl); to_locked = λ h. absurd (false≢true h) }
put_fair false n (unlocked q) (change (option.Some c)) x e = rw e (same (unlocked q))
put_fair ok n (unlocked q) (erase option.None) x e = rw e (same (unlocked q))
put_fair true n (unlocked q) (erase (option.Some c)) x e = to_impersonal _ _ (unlocked q)
put_fair false n (unlocked q) (erase (option.Some c)) x e = rw e (same (unlocked q))
put_fair ok n (unlocked q) forget x e = rw e (same (unlocked q))
put_fair true n (unlocked q) lock_again x e = record { to_open = λ h. absurd (false≢true h); to_locked = λ h. (refl, inl refl) }
put_fair false n (unlocked q) lock_again x e = rw e (same (unlocked q))
put_fair ok n (recovering q d) misfit x e = rw e (same (recovering q d))
put_fair ok n (recovering q d) (store c) x e = rw e (same (recovering q d))
put_fair ok n (recovering q d) (match c) x e = rw e (same (recovering q d))
put_fair ok n (recovering q d) (change c) x e = rw e (same (recovering q d))
put_fair ok n (recovering q d) (erase c) x e = rw e (same (recovering q d))
put_fair ok n (recovering q d) forget x e = rw e (same (recovering q d))
put_fair ok n (recovering q d) lock_again x e = rw e (same (recovering q d))

refused_fair : (a b : Bool) (st : Standing) → Fair (a && false) (b && false) st st
refused_fair true true st = same st
refused_fair true false st = same st
refused_fair false true st = same st
refused_fair false false st = same st

worked_fair : (final : Bool) (st : Standing) (x : UnitRecord) → x.standing ≡ st → Fair false false st (advanced final st x).standing
worked_fair final impersonal x e = rw e (same impersonal)
worked_fair final (locked q) x e = rw e (same (locked q))
worked_fair final (unlocked q) x e = rw e (same (unlocked q))
worked_fair true (recovering q d) x e = to_impersonal false false (recovering q d)
worked_fair false (recovering q d) x e = record { to_open = λ h. absurd (false≢true h); to_locked = λ h. (refl, inr refl) }

relocked_fair : (st : Standing) → Fair false true st (relocked st)
relocked_fair impersonal = to_impersonal false true impersonal
relocked_fair (locked q) = record { to_open = λ h. absurd (false≢true h); to_locked = λ h. (refl, inl refl) }
relocked_fair (unlocked q) = record { to_open = λ h. absurd (false≢true h); to_locked = λ h. (refl, inl refl) }
relocked_fair (recovering q d) = record { to_open = λ h. absurd (false≢true h); to_locked = λ h. (refl, inl refl) }

kept_fair : (st nw : Standing) → nw ≡ st → Fair false false st nw
kept_fair st nw e = subst (λ x. Fair false false st x) (sym e) (same st)

worked_all : (lay : Layout) (u : ℕ) (s : Stick) → Fair false false (unit_at u s).standing (unit_at u (worked lay s)).standing
worked_all lay u s =
    let v = first_recovering s.units in
    let d = steps_done_of (unit_at v s).standing in
    elim (ltb v (length s.units)) as (λ b. Fair false false (unit_at u s).standing (unit_at u (cond b (work_on lay v d s) s)).standing) [
      | true ↦ alter_rel (λ (x y : UnitRecord). Fair false false x.standing y.standing) s.units v u _ new_unit (λ x. same x.standing) (λ x. worked_fair _ x.standing x refl)
      | false ↦ same (unit_at u s).standing
    ]

PutAt : ℕ → ℕ → Bool → UnitPut → Stick → Type 0
PutAt u v n p s = Fair (eqb v u && opens p && eqb (turned n p (unit_at v s)).code 0) (eqb v u && closes_unit p && eqb (turned n p (unit_at v s)).code 0) (unit_at u s).standing (get_or (alter v (λ x. (turned n p x).after) s.units) u new_unit).standing

-- the Put is for this unit
put_here : (lay : Layout) (u v : ℕ) (n : Bool) (p : UnitPut) (s : Stick) → v ≡ u → PutAt u v n p s
unfolding PutAt
put_here lay u v n p s e = subst (λ w. PutAt u w n p s) (sym e) (rw (eq-eqb u u refl)
    (⊎_elim
    (λ a. rw a (put_fair (correct n (unit_at u s) p) n (unit_at u s).standing p (unit_at u s) refl))
    (λ a. rw a (to_impersonal _ _ (unit_at u s).standing))
    (alter_same s.units u (λ x. (turned n p x).after) new_unit)))

put_there : (lay : Layout) (u v : ℕ) (n : Bool) (p : UnitPut) (s : Stick) → (v ≡ u → ⊥) → PutAt u v n p s
unfolding PutAt
put_there lay u v n p s ne = rw (ne_eqb v u ne, alter_other s.units v u (λ x. (turned n p x).after) new_unit ne) (same (unit_at u s).standing)

put_to_fair : (lay : Layout) (u : ℕ) (f : Option ℕ) (n : Bool) (p : UnitPut) (s : Stick) →
    Fair (is_unit f u && opens p && eqb (put_to_unit f n p s).code 0) (is_unit f u && closes_unit p && eqb (put_to_unit f n p s).code 0) (unit_at u s).standing (unit_at u (put_to_unit f n p s).next).standing
unfolding PutAt
put_to_fair lay u option.None n p s = same (unit_at u s).standing
put_to_fair lay u (option.Some v) n p s = ⊎_elim (put_here lay u v n p s) (put_there lay u v n p s) (cases_eq v u)

calm_fair : (lay : Layout) (u : ℕ) (s t : Stick) → Calm lay s t → Fair false false (unit_at u s).standing (unit_at u t).standing
calm_fair lay u s t c = kept_fair _ _ (calm_keeps lay u s t c)

-- the claim of a request
FairRequest : Layout → ℕ → Stick → Request → Outcome → Type 0
FairRequest lay u s r o = Fair (asks_put opening lay u r && eqb o.code 0) (asks_put locking lay u r && eqb o.code 0) (unit_at u s).standing (unit_at u o.next).standing

-- by what the Put carries, and by what its request tells
unit_fair : (lay : Layout) (u : ℕ) (f : Option ℕ) (n : Bool) (p : Put) (k : ℕ) (ds : List ℕ) (s : Stick) →
    Fair (is_unit f u && opening p && eqb (put_to_unit f n (sized p k ds) s).code 0) (is_unit f u && locking p && eqb (put_to_unit f n (sized p k ds) s).code 0) (unit_at u s).standing (unit_at u (put_to_unit f n (sized p k ds) s).next).standing
unit_fair lay u option.None n p k ds s = same (unit_at u s).standing
unit_fair lay u (option.Some v) n p k ds s =
    subst₂ (λ a b. Fair a b (unit_at u s).standing (unit_at u (put_to_unit (option.Some v) n (sized p k ds) s).next).standing)
    (kinds (eqb v u) opening opens opens_carried) (kinds (eqb v u) locking closes_unit closes_carried)
    (put_to_fair lay u (option.Some v) n (sized p k ds) s)
  where
    kinds : (a : Bool) (kind : Put → Bool) (ukind : UnitPut → Bool) → ((q : Put) (es : List ℕ) → ukind (carried q es) ≡ kind q) →
        (a && ukind (sized p k ds) && eqb (turned n (sized p k ds) (unit_at v s)).code 0) ≡ (a && kind p && eqb (turned n (sized p k ds) (unit_at v s)).code 0)
    kinds true kind ukind e = sym (same_kind kind ukind e p k ds n (unit_at v s))
    kinds false kind ukind e = refl

put_request_fair : (lay : Layout) (u : ℕ) (s : Stick) (p : Put) (i k n : ℕ) (ds : List ℕ) → is_unit_put p ≡ true → FairRequest lay u s (PutTo p (address i k)) (asking lay (PutTo p (address i k)) n ds s)
unfolding FairRequest asking
put_request_fair lay u s p i k n ds e =
    when_present_all (FairRequest lay u s (PutTo p (address i k))) s.phase s _ (refused_fair _ _ _) (refused_fair _ _ _)
    (subst (FairRequest lay u s (PutTo p (address i k))) (sym (unit_put_is lay p i k n ds s e)) (unit_fair lay u (find_unit lay i k) (is_negotiable (interface_at i s).ids) p n ds s))

calm_request_fair : (lay : Layout) (u : ℕ) (s : Stick) (r : Request) (n : ℕ) (ds : List ℕ) → puts r ≡ false → asks_put opening lay u r ≡ false → asks_put locking lay u r ≡ false → FairRequest lay u s r (asking lay r n ds s)
unfolding FairRequest asking
calm_request_fair lay u s r n ds e a b = rw (a, b) (calm_fair lay u s _ (request_calm lay s r n ds e))

-- a Put that is for no unit
other_kind : (a b : Bool) → b ≡ false → (a && b) ≡ false
other_kind true b e = e
other_kind false b e = refl

request_fair : (lay : Layout) (u : ℕ) (s : Stick) (r : Request) (n : ℕ) (ds : List ℕ) → FairRequest lay u s r (asking lay r n ds s)
request_fair lay u s DeviceDescriptor n ds = calm_request_fair lay u s DeviceDescriptor n ds refl refl refl
request_fair lay u s Bundle n ds = calm_request_fair lay u s Bundle n ds refl refl refl
request_fair lay u s (LockData a) n ds = calm_request_fair lay u s (LockData a) n ds refl refl refl
request_fair lay u s (HighestUnit i) n ds = calm_request_fair lay u s (HighestUnit i) n ds refl refl refl
request_fair lay u s (ClearJam i) n ds = calm_request_fair lay u s (ClearJam i) n ds refl refl refl
request_fair lay u s (PutTo StorePassphrase a) n ds = put_request_fair lay u s StorePassphrase a.interface a.unit n ds refl
request_fair lay u s (PutTo MatchPassphrase a) n ds = put_request_fair lay u s MatchPassphrase a.interface a.unit n ds refl
request_fair lay u s (PutTo ChangePassphrase a) n ds = put_request_fair lay u s ChangePassphrase a.interface a.unit n ds refl
request_fair lay u s (PutTo ErasePassphrase a) n ds = put_request_fair lay u s ErasePassphrase a.interface a.unit n ds refl
request_fair lay u s (PutTo EraseForgottenPassphrase a) n ds = put_request_fair lay u s EraseForgottenPassphrase a.interface a.unit n ds refl
request_fair lay u s (PutTo LockAgain a) n ds = put_request_fair lay u s LockAgain a.interface a.unit n ds refl
request_fair lay u s (PutTo ChangeInterfaceAccess a) n ds =
    calm_request_fair lay u s (PutTo ChangeInterfaceAccess a) n ds refl (other_kind (is_unit (find_unit lay a.interface a.unit) u) false refl) (other_kind (is_unit (find_unit lay a.interface a.unit) u) false refl)

FairServed : Layout → ℕ → Stick → Option Asked → Outcome → Type 0
FairServed lay u s a o = Fair (asked_put opening lay u a && eqb o.code 0) (asked_put locking lay u a && eqb o.code 0) (unit_at u s).standing (unit_at u o.next).standing

served_fair : (lay : Layout) (u : ℕ) (s : Stick) (a : Option Asked) (ds : List ℕ) → FairServed lay u s a (when_present s.phase s (asked lay a ds s))
unfolding FairServed FairRequest asking
served_fair lay u s option.None ds = calm_fair lay u s _ (unlisted_calm lay s)
served_fair lay u s (option.Some a) ds = request_fair lay u s a.request a.length ds

-- the claim of one event
FairEvent : Layout → ℕ → Stick → Event → Type 0
FairEvent lay u s e = Fair (is_put opening lay u e && eqb (step lay s e).reply.code 0) (is_power e || is_put locking lay u e && eqb (step lay s e).reply.code 0) (unit_at u s).standing (unit_at u (step lay s e).next).standing

step_fair : (lay : Layout) (u : ℕ) (s : Stick) (e : Event) → FairEvent lay u s e
unfolding FairEvent FairServed
step_fair lay u s (control setup ds) =
    subst₂ (λ (c : ℕ) (t : Stick). Fair (asked_put opening lay u (requested setup) && eqb c 0) (asked_put locking lay u (requested setup) && eqb c 0) (unit_at u s).standing (unit_at u t).standing)
    (sym (control_code lay s setup ds)) (sym (control_next lay s setup ds)) (served_fair lay u s (requested setup) ds)
step_fair lay u s (bulk i cbw ds) = calm_fair lay u s _ (bulked_calm lay s i cbw ds)
step_fair lay u s work = worked_all lay u s
step_fair lay u s (clock ms) = calm_fair lay u s _ (passed_calm lay s ms s.phase)
step_fair lay u s reset = same _
step_fair lay u s suspend = same _
step_fair lay u s resume = same _
step_fair lay u s power = subst (λ x. Fair false true (unit_at u s).standing x) (sym (power_relocks lay u s)) (relocked_fair (unit_at u s).standing)

-- over a whole history
either_holds : (st : Standing) → holds_phrase st ≡ true → (is_unlocked st ≡ true) ⊎ (is_locked st ≡ true)
either_holds impersonal h = absurd (false≢true h)
either_holds (locked p) h = inr refl
either_holds (unlocked p) h = inl refl
either_holds (recovering p d) h = inr refl

record Fits (lay : Layout) (m : List Block) (u : ℕ) (h : List Event) : Type 0 where
  opened : is_unlocked (unit_at u (after lay m h)).standing ≡ true → OpenedSince lay m u h
  closed : is_locked (unit_at u (after lay m h)).standing ≡ true → OpenedSince lay m u h → ⊥

fits_more : (lay : Layout) (m : List Block) (u : ℕ) (e : Event) (past : List Event) → FairEvent lay u (after lay m past) e → Fits lay m u past → Fits lay m u (e ∷ past)
unfolding FairEvent
fits_more lay m u e past f b = record {
  opened = λ k. ⊎_elim (λ o. inl o) (λ c. inr (c.0, b.opened c.1)) (f.to_open k);
  closed = λ k o. ⊎_elim (λ did. both_ways _ (f.to_locked k).0 did)
      (λ c. ⊎_elim (λ cl. both_ways _ c.0 cl) (λ lk. b.closed lk c.1) (f.to_locked k).1) o;
}

fits_all : (lay : Layout) (m : List Block) (u : ℕ) (h : List Event) → Fits lay m u h
fits_all lay m u [] =
    let e : unit_at u (first lay m) ≡ new_unit = replicate_getD (sum lay.counts) u new_unit in
    record {
      opened = λ k. absurd (false≢true (rw e at k));
      closed = λ k. absurd (false≢true (rw e at k));
    }
fits_all lay m u (e ∷ past) = fits_more lay m u e past (step_fair lay u (after lay m past) e) (fits_all lay m u past)

pub open_when_opened : OpenWhenOpened
open_when_opened lay m h u held =
    let f = fits_all lay m u h in
    (f.opened, λ o. ⊎_elim (λ k. k) (λ k. absurd (f.closed k o)) (either_holds _ held))
