-- A Locked unit keeps its secret, and a completed recovery leaves nothing of it.
use Rattle.std.proofs.Common.{◌≡◌, ℕ, Bool, true, false, cond, ◌&&◌, eqb, ltb, ◌⊎◌, List, [], ◌∷◌, length, Option, sym, refl, ap, ◌∙◌, subst, inl, inr, ⊎_elim}
use Rattle.std.proofs.lemmas.Bool.{true≢false, false≢true, cases_Bool, both_ways, and_parts, not-true}
use Rattle.std.specs.declared.option.Option.TheVariants as option
use Rattle.model.specs.Blocks.{Block}
use Rattle.model.specs.Control.{Outcome, unit_at, interface_at, find_unit, sized, put_to_unit, asked, when_present}
use Rattle.model.specs.Events.{Event, control, bulk, work, clock, reset, suspend, resume, power, step, after, replies}
use Rattle.model.specs.Identities.{is_negotiable}
use Rattle.model.specs.Layouts.{Layout}
use Rattle.model.specs.Puts.{UnitPut, misfit, store, match, change, erase, forget, lock_again, correct, judged, turned}
use Rattle.model.specs.Recovery.{is_recovering, steps_done_of, first_recovering, advanced, work_on, worked}
use Rattle.model.specs.Requests.{address, requested}
use Rattle.model.specs.Sticks.{Stick}
use Rattle.model.specs.Units.{Standing, impersonal, locked, unlocked, recovering, UnitRecord, new_unit, is_locked, relocked}
use Rattle.model.specs.declared.request.Asked.{Asked}
use Rattle.model.specs.declared.request.Put.{Put}
use Rattle.model.specs.declared.request.Request.{Request}
use Rattle.model.specs.declared.request.Request.TheVariants.{DeviceDescriptor, Bundle, LockData, HighestUnit, ClearJam, PutTo}
use Rattle.privacy.specs.Claims.{but, Locked, AlikeBut, accepts, asks_put, asked_put, is_unit, carries_candidate, Agree, completes, KeepsSecret}
use Rattle.privacy.proofs.Calm.{Calm, when_present_all, calm_keeps, request_calm, unlisted_calm, bulked_calm, passed_calm, power_relocks, control_next, control_code, is_unit_put}
use Rattle.privacy.proofs.Asking.{asking, unit_put_is}
use Rattle.privacy.proofs.PutKinds.{candidate, candidate_asked, quieter}
use Rattle.privacy.proofs.Blind.{seen_locked}
use Rattle.privacy.proofs.Agree.{agrees, present_locks}
use Rattle.privacy.proofs.Passed.{Clean, step_clean, after_clean, work_lets_go}
use Rattle.privacy.proofs.Lists.{alter_rel}
use Rattle.privacy.proofs.Places.{Disjoint, fit_disjoint}

relocked_locked : (st : Standing) → is_locked st ≡ true → is_locked (relocked st) ≡ true
relocked_locked impersonal l = l
relocked_locked (locked p) l = refl
relocked_locked (unlocked p) l = refl
relocked_locked (recovering p d) l = refl

module _ (lay : Layout) (ok : Disjoint lay) (u : ℕ) where
  -- only a last work step ends a Locked unit's lock, as long as no candidate is accepted
  calm_locks : (s t : Stick) → Locked u s → Calm lay s t → Locked u t
  calm_locks s t l c = ap is_locked (calm_keeps lay u s t c) ∙ l

  put_request_locks : (s : Stick) → Locked u s → (p : Put) (i j n : ℕ) (ds : List ℕ) → (is_unit (find_unit lay i j) u && carries_candidate p && eqb (asking lay (PutTo p (address i j)) n ds s).code 0) ≡ false → Locked u (asking lay (PutTo p (address i j)) n ds s).next
  unfolding asking
  put_request_locks s l p i j n ds q =
      ⊎_elim
      (λ e. subst (λ o. Quiet o → Locked u (when_present s.phase s o).next) (sym (unit_put_is lay p i j n ds s e))
      (λ x. present_locks lay u s.phase (find_unit lay i j) (is_negotiable (interface_at i s).ids) (sized p n ds) s l (quieter (is_unit (find_unit lay i j) u) (carries_candidate p) (candidate (sized p n ds)) _ (candidate_asked p n ds) x)) q)
      (λ e. calm_locks s _ l (request_calm lay s (PutTo p (address i j)) n ds e))
      (cases_Bool (is_unit_put p))
    where
      Quiet : Outcome → Type 0
      Quiet o = (is_unit (find_unit lay i j) u && carries_candidate p && eqb (when_present s.phase s o).code 0) ≡ false

  request_locks : (s : Stick) → Locked u s → (r : Request) (n : ℕ) (ds : List ℕ) → (asks_put carries_candidate lay u r && eqb (asking lay r n ds s).code 0) ≡ false → Locked u (asking lay r n ds s).next
  unfolding asking
  request_locks s l DeviceDescriptor n ds q = calm_locks s _ l (request_calm lay s DeviceDescriptor n ds refl)
  request_locks s l Bundle n ds q = calm_locks s _ l (request_calm lay s Bundle n ds refl)
  request_locks s l (LockData a) n ds q = calm_locks s _ l (request_calm lay s (LockData a) n ds refl)
  request_locks s l (HighestUnit i) n ds q = calm_locks s _ l (request_calm lay s (HighestUnit i) n ds refl)
  request_locks s l (ClearJam i) n ds q = calm_locks s _ l (request_calm lay s (ClearJam i) n ds refl)
  request_locks s l (PutTo p a) n ds q = put_request_locks s l p a.interface a.unit n ds q

  served_locks : (s : Stick) → Locked u s → (o : Option Asked) (ds : List ℕ) → (asked_put carries_candidate lay u o && eqb (when_present s.phase s (asked lay o ds s)).code 0) ≡ false → Locked u (when_present s.phase s (asked lay o ds s)).next
  unfolding asking
  served_locks s l option.None ds q = calm_locks s _ l (unlisted_calm lay s)
  served_locks s l (option.Some a) ds q = request_locks s l a.request a.length ds q

  control_locks : (s : Stick) → Locked u s → (setup ds : List ℕ) → accepts carries_candidate lay u s (control setup ds) ≡ false → Locked u (step lay s (control setup ds)).next
  control_locks s l setup ds q = subst (Locked u) (sym (control_next lay s setup ds))
      (served_locks s l (requested setup) ds (ap (λ c. asked_put carries_candidate lay u (requested setup) && eqb c 0) (sym (control_code lay s setup ds)) ∙ q))

  lets_go : (s : Stick) → Locked u s → Clean lay u s → (e : Event) → accepts carries_candidate lay u s e ≡ false → is_locked (unit_at u (step lay s e).next).standing ≡ false → but lay u (step lay s e).next ≡ (step lay s e).next
  lets_go s l k (control setup ds) q g = absurd (both_ways _ g (control_locks s l setup ds q))
  lets_go s l k (bulk i cbw ds) q g = absurd (both_ways _ g (calm_locks s _ l (bulked_calm lay s i cbw ds)))
  lets_go s l k work q g = work_lets_go lay u s l k g
  lets_go s l k (clock n) q g = absurd (both_ways _ g (calm_locks s _ l (passed_calm lay s n s.phase)))
  lets_go s l k reset q g = absurd (both_ways _ g l)
  lets_go s l k suspend q g = absurd (both_ways _ g l)
  lets_go s l k resume q g = absurd (both_ways _ g l)
  lets_go s l k power q g = absurd (both_ways _ g (ap is_locked (power_relocks lay u s) ∙ relocked_locked _ l))

  -- two sticks on the way: alike but for the secret of the unit, which is Locked; or alike in every respect
  record Apart (s t : Stick) : Type 0 where
    locked_left : Locked u s
    locked_right : Locked u t
    clean_left : Clean lay u s
    clean_right : Clean lay u t
    alike : AlikeBut lay u s t

  abbrev Pair : Stick → Stick → Type 0
  Pair s t = Apart s t ⊎ (s ≡ t)

  locked_alike : (s t : Stick) → AlikeBut lay u s t → is_locked (unit_at u s).standing ≡ is_locked (unit_at u t).standing
  locked_alike s t b = sym (seen_locked lay u s u) ∙ ap (λ x. is_locked (unit_at u x).standing) b ∙ seen_locked lay u t u

  record Onward (s t : Stick) (e : Event) : Type 0 where
    reply : (step lay s e).reply ≡ (step lay t e).reply
    pair : Pair (step lay s e).next (step lay t e).next

  onward : (s t : Stick) (e : Event) → accepts carries_candidate lay u s e ≡ false → accepts carries_candidate lay u t e ≡ false → Pair s t → Onward s t e
  onward s t e p q (inr same) = record { reply = ap (λ x. (step lay x e).reply) same; pair = inr (ap (λ x. (step lay x e).next) same) }
  onward s t e p q (inl a) =
      let b = agrees lay u ok s t a.locked_left a.locked_right a.alike e p q in
      let s' = (step lay s e).next in
      let t' = (step lay t e).next in
      let lk = locked_alike s' t' b.next in
      record {
        reply = b.reply;
        pair = ⊎_elim
            (λ l. inl (record {
              locked_left = l;
              locked_right = sym lk ∙ l;
              clean_left = step_clean lay u ok s e a.clean_left;
              clean_right = step_clean lay u ok t e a.clean_right;
              alike = b.next;
            }))
            (λ n. inr (sym (lets_go s a.locked_left a.clean_left e p n) ∙ b.next ∙ lets_go t a.locked_right a.clean_right e q (sym lk ∙ n)))
            (cases_Bool (is_locked (unit_at u s').standing));
      }

  pair_alike : (s t : Stick) → Pair s t → AlikeBut lay u s t
  pair_alike s t (inl a) = a.alike
  pair_alike s t (inr e) = ap (but lay u) e

  start : (m n : List Block) (h k : List Event) → Locked u (after lay m h) → AlikeBut lay u (after lay m h) (after lay n k) → Pair (after lay m h) (after lay n k)
  start m n h k l b = inl (record {
    locked_left = l;
    locked_right = sym (locked_alike (after lay m h) (after lay n k) b) ∙ l;
    clean_left = after_clean lay u ok m h;
    clean_right = after_clean lay u ok n k;
    alike = b;
  })

-- a recovery that a work step ends leaves the unit not Locked
Ends : Standing → Standing → Type 0
Ends st nw = is_recovering st ≡ true → is_recovering nw ≡ false → is_locked nw ≡ false

ends_same : (st : Standing) → Ends st st
unfolding Ends
ends_same st r n = absurd (both_ways _ n r)

worked_ends : (b : Bool) (st : Standing) (x : UnitRecord) → x.standing ≡ st → Ends st (advanced b st x).standing
unfolding Ends
worked_ends b impersonal x e r n = absurd (false≢true r)
worked_ends b (locked p) x e r n = absurd (false≢true r)
worked_ends b (unlocked p) x e r n = absurd (false≢true r)
worked_ends true (recovering p d) x e r n = refl
worked_ends false (recovering p d) x e r n = absurd (true≢false n)

work_ends : (lay : Layout) (u : ℕ) (s : Stick) → Ends (unit_at u s).standing (unit_at u (worked lay s)).standing
work_ends lay u s =
    let v = first_recovering s.units in
    elim (ltb v (length s.units)) as (λ b. Ends (unit_at u s).standing (unit_at u (cond b (work_on lay v (steps_done_of (unit_at v s).standing) s) s)).standing) [
      | true ↦ alter_rel (λ (x y : UnitRecord). Ends x.standing y.standing) s.units v u _ new_unit (λ x. ends_same x.standing) (λ x. worked_ends _ x.standing x refl)
      | false ↦ ends_same (unit_at u s).standing
    ]

-- the event that completes the recovery is a work step, and leaves the unit not Locked
Done : Layout → ℕ → Stick → Event → Type 0
Done lay u s e = completes lay u s e ≡ true → is_locked (unit_at u (step lay s e).next).standing ≡ false

kept_done : (lay : Layout) (u : ℕ) (s : Stick) (e : Event) → is_recovering (unit_at u (step lay s e).next).standing ≡ is_recovering (unit_at u s).standing → Done lay u s e
unfolding Done
kept_done lay u s e k c =
    let h = and_parts _ _ c in
    absurd (both_ways _ (not-true _ h.1) (k ∙ h.0))

work_done : (lay : Layout) (u : ℕ) (s : Stick) → Done lay u s work
unfolding Done Ends
work_done lay u s c = let h = and_parts _ _ c in work_ends lay u s h.0 (not-true _ h.1)

relocked_recovering : (st : Standing) → is_recovering (relocked st) ≡ is_recovering st
relocked_recovering impersonal = refl
relocked_recovering (locked p) = refl
relocked_recovering (unlocked p) = refl
relocked_recovering (recovering p d) = refl

-- a Put leaves a recovering unit recovering
judged_recovering : (ok : Bool) (p : UnitPut) (st : Standing) (x : UnitRecord) → x.standing ≡ st → is_recovering st ≡ true → is_recovering (judged ok st p x).after.standing ≡ true
judged_recovering ok p impersonal x e r = absurd (false≢true r)
judged_recovering ok p (locked w) x e r = absurd (false≢true r)
judged_recovering ok p (unlocked w) x e r = absurd (false≢true r)
judged_recovering ok misfit (recovering w d) x e r = ap is_recovering e
judged_recovering ok (store c) (recovering w d) x e r = ap is_recovering e
judged_recovering ok (match c) (recovering w d) x e r = ap is_recovering e
judged_recovering ok (change c) (recovering w d) x e r = ap is_recovering e
judged_recovering ok (erase c) (recovering w d) x e r = ap is_recovering e
judged_recovering ok forget (recovering w d) x e r = ap is_recovering e
judged_recovering ok lock_again (recovering w d) x e r = ap is_recovering e

put_recovering : (u : ℕ) (f : Option ℕ) (n : Bool) (p : UnitPut) (s : Stick) → is_recovering (unit_at u s).standing ≡ true → is_recovering (unit_at u (put_to_unit f n p s).next).standing ≡ true
put_recovering u option.None n p s r = r
put_recovering u (option.Some v) n p s r =
    alter_rel (λ (x y : UnitRecord). is_recovering x.standing ≡ true → is_recovering y.standing ≡ true) s.units v u (λ x. (turned n p x).after) new_unit (λ x h. h)
    (λ x h. judged_recovering (correct n x p) p x.standing x refl h) r

request_recovering : (lay : Layout) (u : ℕ) (s : Stick) (r : Request) (n : ℕ) (ds : List ℕ) → is_recovering (unit_at u s).standing ≡ true → is_recovering (unit_at u (asking lay r n ds s).next).standing ≡ true
unfolding asking
request_recovering lay u s DeviceDescriptor n ds h = ap is_recovering (calm_keeps lay u s _ (request_calm lay s DeviceDescriptor n ds refl)) ∙ h
request_recovering lay u s Bundle n ds h = ap is_recovering (calm_keeps lay u s _ (request_calm lay s Bundle n ds refl)) ∙ h
request_recovering lay u s (LockData a) n ds h = ap is_recovering (calm_keeps lay u s _ (request_calm lay s (LockData a) n ds refl)) ∙ h
request_recovering lay u s (HighestUnit i) n ds h = ap is_recovering (calm_keeps lay u s _ (request_calm lay s (HighestUnit i) n ds refl)) ∙ h
request_recovering lay u s (ClearJam i) n ds h = ap is_recovering (calm_keeps lay u s _ (request_calm lay s (ClearJam i) n ds refl)) ∙ h
request_recovering lay u s (PutTo p a) n ds h =
    ⊎_elim
    (λ e. when_present_all (λ o. is_recovering (unit_at u o.next).standing ≡ true) s.phase s _ h h
    (subst (λ o. is_recovering (unit_at u o.next).standing ≡ true) (sym (unit_put_is lay p a.interface a.unit n ds s e)) (put_recovering u (find_unit lay a.interface a.unit) (is_negotiable (interface_at a.interface s).ids) (sized p n ds) s h)))
    (λ e. ap is_recovering (calm_keeps lay u s _ (request_calm lay s (PutTo p a) n ds e)) ∙ h)
    (cases_Bool (is_unit_put p))

served_recovering : (lay : Layout) (u : ℕ) (s : Stick) (o : Option Asked) (ds : List ℕ) → is_recovering (unit_at u s).standing ≡ true → is_recovering (unit_at u (when_present s.phase s (asked lay o ds s)).next).standing ≡ true
unfolding asking
served_recovering lay u s option.None ds h = ap is_recovering (calm_keeps lay u s _ (unlisted_calm lay s)) ∙ h
served_recovering lay u s (option.Some a) ds h = request_recovering lay u s a.request a.length ds h

pub control_recovering : (lay : Layout) (u : ℕ) (s : Stick) (setup ds : List ℕ) → is_recovering (unit_at u s).standing ≡ true → is_recovering (unit_at u (step lay s (control setup ds)).next).standing ≡ true
control_recovering lay u s setup ds h = subst (λ (t : Stick). is_recovering (unit_at u t).standing ≡ true) (sym (control_next lay s setup ds)) (served_recovering lay u s (requested setup) ds h)

completed_open : (lay : Layout) (u : ℕ) (s : Stick) (e : Event) → Done lay u s e
unfolding Done
completed_open lay u s (control setup ds) c =
    let h = and_parts _ _ c in
    absurd (both_ways _ (not-true _ h.1) (control_recovering lay u s setup ds h.0))
completed_open lay u s (bulk i cbw ds) c = kept_done lay u s (bulk i cbw ds) (ap is_recovering (calm_keeps lay u s _ (bulked_calm lay s i cbw ds))) c
completed_open lay u s work c = work_done lay u s c
completed_open lay u s (clock n) c = kept_done lay u s (clock n) (ap is_recovering (calm_keeps lay u s _ (passed_calm lay s n s.phase))) c
completed_open lay u s reset c = kept_done lay u s reset refl c
completed_open lay u s suspend c = kept_done lay u s suspend refl c
completed_open lay u s resume c = kept_done lay u s resume refl c
completed_open lay u s power c = kept_done lay u s power (ap is_recovering (power_relocks lay u s) ∙ relocked_recovering _) c

keeps_all : (lay : Layout) (ok : Disjoint lay) (u : ℕ) (s t : Stick) (es : List Event) → Pair lay ok u s t → Agree lay u s t es (replies lay s es) (replies lay t es)
unfolding Done
keeps_all lay ok u s t [] r = refl
keeps_all lay ok u s t (e ∷ es) r =
    ⊎_elim (λ a. inl a) (λ p. ⊎_elim (λ b. inr (inl b)) (λ q. inr (inr (both p q (λ w. keeps_all lay ok u (step lay s e).next (step lay t e).next es w)))) (cases_Bool (accepts carries_candidate lay u t e))) (cases_Bool (accepts carries_candidate lay u s e))
  where
    s' : Stick
    s' = (step lay s e).next

    t' : Stick
    t' = (step lay t e).next

    over : Pair lay ok u s' t' → completes lay u s e ≡ true → s' ≡ t'
    over w c = ⊎_elim (λ a. absurd (both_ways _ (completed_open lay u s e c) a.locked_left)) (λ x. x) w

    both : accepts carries_candidate lay u s e ≡ false → accepts carries_candidate lay u t e ≡ false → (Pair lay ok u s' t' → Agree lay u s' t' es (replies lay s' es) (replies lay t' es)) →
        ((step lay s e).reply ≡ (step lay t e).reply) × AlikeBut lay u s' t' × (completes lay u s e ≡ true → (s' ≡ t') × (replies lay s' es ≡ replies lay t' es)) × Agree lay u s' t' es (replies lay s' es) (replies lay t' es)
    both p q rest =
        let o = onward lay ok u s t e p q r in
        (o.reply, pair_alike lay ok u s' t' o.pair, (λ c. let x = over o.pair c in (x, ap (λ y. replies lay y es) x)), rest o.pair)

pub keeps_secret : KeepsSecret
keeps_secret lay m n h k u fit l b es = let ok = fit_disjoint lay (length m) fit in keeps_all lay ok u _ _ es (start lay ok u m n h k l b)
