-- After ten misses no candidate is accepted.
use Rattle.std.proofs.Common.{◌≡◌, ℕ, ◌≤◌, Bool, true, false, ◌&&◌, eqb, ltb, List, Option, sym, refl, ap, ◌∙◌, subst, ⊎_elim}
use Rattle.std.proofs.lemmas.Bool.{false≢true, cases_eq, cases_Bool, eq-eqb, ne_eqb, le-ltb, and_left, and_right}
use Rattle.std.specs.declared.option.Option.TheVariants as option
use Rattle.model.specs.Control.{Outcome, find_unit, unit_at, interface_at, sized, put_to_unit, asked, when_present}
use Rattle.model.specs.Events.{control, bulk, work, clock, reset, suspend, resume, power}
use Rattle.model.specs.Identities.{is_negotiable}
use Rattle.model.specs.Layouts.{Layout}
use Rattle.model.specs.Puts.{UnitPut, misfit, store, match, change, erase, forget, lock_again, is_phrase, judged, correct, turned}
use Rattle.model.specs.Requests.{address, requested}
use Rattle.model.specs.Sticks.{Stick}
use Rattle.model.specs.Units.{Standing, impersonal, locked, unlocked, recovering, UnitRecord, is_locked}
use Rattle.model.specs.declared.request.Asked.{Asked}
use Rattle.model.specs.declared.request.Put.{Put}
use Rattle.model.specs.declared.request.Request.{Request}
use Rattle.model.specs.declared.request.Request.TheVariants.{DeviceDescriptor, Bundle, LockData, HighestUnit, ClearJam, PutTo}
use Rattle.privacy.specs.Claims.{Locked, is_unit, asks_put, asked_put, carries_candidate}
use Rattle.privacy.specs.Causes.{ShutAfterTen}
use Rattle.privacy.proofs.Asking.{asking, unit_put_is}
use Rattle.privacy.proofs.Calm.{when_present_all, control_code, is_unit_put}
use Rattle.privacy.proofs.PutKinds.{candidate, candidate_carried, same_kind}

-- a candidate that is not correct, at the unit's record
wrong_shut : (p : UnitPut) (st : Standing) (x : UnitRecord) → is_locked st ≡ true → (candidate p && eqb (judged false st p x).code 0) ≡ false
wrong_shut p impersonal x l = absurd (false≢true l)
wrong_shut p (unlocked w) x l = absurd (false≢true l)
wrong_shut misfit (locked w) x l = refl
wrong_shut (store q) (locked w) x l = refl
wrong_shut (match option.None) (locked w) x l = refl
wrong_shut (match (option.Some q)) (locked w) x l = refl
wrong_shut (change q) (locked w) x l = refl
wrong_shut (erase q) (locked w) x l = refl
wrong_shut forget (locked w) x l = refl
wrong_shut lock_again (locked w) x l = refl
wrong_shut misfit (recovering w n) x l = refl
wrong_shut (store q) (recovering w n) x l = refl
wrong_shut (match q) (recovering w n) x l = refl
wrong_shut (change q) (recovering w n) x l = refl
wrong_shut (erase q) (recovering w n) x l = refl
wrong_shut forget (recovering w n) x l = refl
wrong_shut lock_again (recovering w n) x l = refl

module _ (n : Bool) (x : UnitRecord) (l : is_locked x.standing ≡ true) (ten : 10 ≤ x.misses) where
  many : (b : Bool) → (b && ltb x.misses 10) ≡ false
  many b = and_right b (ltb x.misses 10) (le-ltb x.misses 10 ten)

  -- with ten misses none is
  never : (p : UnitPut) (ok : Bool) → ok ≡ false → (candidate p && eqb (judged ok x.standing p x).code 0) ≡ false
  never p ok e = subst (λ b. (candidate p && eqb (judged b x.standing p x).code 0) ≡ false) (sym e) (wrong_shut p x.standing x l)

  unit_shut : (p : UnitPut) → (candidate p && eqb (turned n p x).code 0) ≡ false
  unit_shut misfit = refl
  unit_shut (store q) = refl
  unit_shut (match option.None) = never (match option.None) false refl
  unit_shut (match (option.Some q)) = never (match (option.Some q)) (correct n x (match (option.Some q))) (many (is_phrase x.standing q))
  unit_shut (change option.None) = never (change option.None) false refl
  unit_shut (change (option.Some q)) = never (change (option.Some q)) (correct n x (change (option.Some q))) (many (is_phrase x.standing q.0))
  unit_shut (erase option.None) = never (erase option.None) false refl
  unit_shut (erase (option.Some q)) = never (erase (option.Some q)) (correct n x (erase (option.Some q))) (many (is_phrase x.standing q))
  unit_shut forget = refl
  unit_shut lock_again = refl

module _ (lay : Layout) (s : Stick) (u : ℕ) (l : Locked u s) (ten : 10 ≤ (unit_at u s).misses) where
  Shut : Bool → Outcome → Type 0
  Shut kind o = (kind && eqb o.code 0) ≡ false

  put_shut : (f : Option ℕ) (n : Bool) (p : Put) (k : ℕ) (ds : List ℕ) → Shut (is_unit f u && carries_candidate p) (put_to_unit f n (sized p k ds) s)
  unfolding Shut
  put_shut option.None n p k ds = refl
  put_shut (option.Some v) n p k ds = ⊎_elim
      (λ e. subst At (sym e) (ap (λ b. b && carries_candidate p && eqb (turned n (sized p k ds) (unit_at u s)).code 0) (eq-eqb u u refl)
      ∙ same_kind carries_candidate candidate candidate_carried p k ds n (unit_at u s) ∙ unit_shut n (unit_at u s) l ten (sized p k ds)))
      (λ ne. ap (λ b. b && carries_candidate p && eqb (turned n (sized p k ds) (unit_at v s)).code 0) (ne_eqb v u ne))
      (cases_eq v u)
    where
      At : ℕ → Type 0
      At w = (eqb w u && carries_candidate p && eqb (turned n (sized p k ds) (unit_at w s)).code 0) ≡ false

  away_shut : (kind : Bool) → (kind && false) ≡ false
  away_shut kind = and_right kind false refl

  put_request_shut : (p : Put) (i k n : ℕ) (ds : List ℕ) → Shut (is_unit (find_unit lay i k) u && carries_candidate p) (asking lay (PutTo p (address i k)) n ds s)
  unfolding Shut asking
  put_request_shut p i k n ds = ⊎_elim
      (λ e. when_present_all (Shut (is_unit (find_unit lay i k) u && carries_candidate p)) s.phase s _ (away_shut _) (away_shut _)
      (subst (Shut (is_unit (find_unit lay i k) u && carries_candidate p)) (sym (unit_put_is lay p i k n ds s e)) (put_shut (find_unit lay i k) (is_negotiable (interface_at i s).ids) p n ds)))
      (λ e. and_left _ _ (and_right (is_unit (find_unit lay i k) u) (carries_candidate p) (no_unit p e)))
      (cases_Bool (is_unit_put p))
    where
      no_unit : (q : Put) → is_unit_put q ≡ false → carries_candidate q ≡ false
      no_unit Put.StorePassphrase e = refl
      no_unit Put.MatchPassphrase e = e
      no_unit Put.ChangePassphrase e = e
      no_unit Put.ErasePassphrase e = e
      no_unit Put.EraseForgottenPassphrase e = refl
      no_unit Put.LockAgain e = refl
      no_unit Put.ChangeInterfaceAccess e = refl

  request_shut : (r : Request) (n : ℕ) (ds : List ℕ) → Shut (asks_put carries_candidate lay u r) (asking lay r n ds s)
  unfolding Shut
  request_shut DeviceDescriptor n ds = refl
  request_shut Bundle n ds = refl
  request_shut (LockData a) n ds = refl
  request_shut (HighestUnit i) n ds = refl
  request_shut (ClearJam i) n ds = refl
  request_shut (PutTo p a) n ds = put_request_shut p a.interface a.unit n ds

  served_shut : (a : Option Asked) (ds : List ℕ) → Shut (asked_put carries_candidate lay u a) (when_present s.phase s (asked lay a ds s))
  unfolding Shut asking
  served_shut option.None ds = refl
  served_shut (option.Some a) ds = request_shut a.request a.length ds

pub shut_after_ten : ShutAfterTen
unfolding Shut
shut_after_ten lay s (control setup ds) u l ten =
    ap (λ c. asked_put carries_candidate lay u (requested setup) && eqb c 0) (control_code lay s setup ds) ∙ served_shut lay s u l ten (requested setup) ds
shut_after_ten lay s (bulk i cbw ds) u l ten = refl
shut_after_ten lay s work u l ten = refl
shut_after_ten lay s (clock ms) u l ten = refl
shut_after_ten lay s reset u l ten = refl
shut_after_ten lay s suspend u l ten = refl
shut_after_ten lay s resume u l ten = refl
shut_after_ten lay s power u l ten = refl
