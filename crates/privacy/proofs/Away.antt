-- A stick idles or is gone exactly as an accepted interface change asked for.
use Rattle.std.proofs.Common.{◌≡◌, ℕ, ◌+◌, ◌-◌, ◌<◌, ◌≤◌, Bool, true, false, cond, not, ◌&&◌, ◌||◌, eqb, ltb, leb, ◌⊎◌, List, [], ◌∷◌, length, get_or, take, Option, sym, refl, ap, ◌∙◌, ap₂, inl, inr, ⊎_elim, arith}
use Rattle.std.proofs.lemmas.Bool.{true≢false, false≢true, cases_lt, cases_Bool, both_ways, lt-ltb, le-ltb, le-leb, lt-leb, not-false}
use Rattle.std.specs.declared.option.Option.TheVariants as option
use Rattle.model.specs.Blocks.{Block}
use Rattle.model.specs.Bulk.{Completed, addressed, wrapped, commanded_when}
use Rattle.model.specs.Control.{Outcome, find_unit, interface_at, answered, tell_lock_data, sized, put_to_unit, change_access, request, asked, when_present}
use Rattle.model.specs.Descriptors.{device_descriptor, bundle}
use Rattle.model.specs.Events.{Event, control, bulk, work, clock, reset, suspend, resume, power, step, after}
use Rattle.model.specs.Identities.{is_negotiable}
use Rattle.model.specs.Layouts.{Layout}
use Rattle.model.specs.Parts.{Access, access_in}
use Rattle.model.specs.Presence.{presenting, gone_on, passed}
use Rattle.model.specs.Puts.{UnitPut}
use Rattle.model.specs.Recovery.{first_recovering, worked}
use Rattle.model.specs.Requests.{requested}
use Rattle.model.specs.Sticks.{Stick, units_of_interface}
use Rattle.model.specs.Units.{any_locked}
use Rattle.model.specs.Wrappers.{cbw_in}
use Rattle.model.specs.declared.command.Cbw.{Cbw}
use Rattle.model.specs.declared.ids.Ids.{Ids}
use Rattle.model.specs.declared.ids.Phase.{Phase}
use Rattle.model.specs.declared.ids.Phase.TheVariants.{Present, Idle, Gone}
use Rattle.model.specs.declared.request.Asked.{Asked}
use Rattle.model.specs.declared.request.Put.TheVariants.{StorePassphrase, MatchPassphrase, ChangePassphrase, ErasePassphrase, EraseForgottenPassphrase, LockAgain, ChangeInterfaceAccess}
use Rattle.model.specs.declared.request.Request.{Request}
use Rattle.model.specs.declared.request.Request.TheVariants.{DeviceDescriptor, Bundle, LockData, HighestUnit, ClearJam, PutTo}
use Rattle.privacy.specs.Claims.{is_power, Since}
use Rattle.privacy.specs.Causes.{is_away, at_interface, access_asked, access_told, accepted_access, Change, and_time, time_passes, changed_to, last_change, phase_at, phase_due, AwayAsAsked, presents, is_some, AwayWhenAsked}
use Rattle.privacy.proofs.Calm.{when_present_all, cond_all, control_next, control_code}

-- the phase after a transfer that brought an accepted interface change, or none
abbrev phase_after : Option (ℕ × Access) → Phase → Phase
phase_after option.None ph = ph
phase_after (option.Some x) ph = Idle x.0 x.1.target x.1.idle x.1.gone

module _ (lay : Layout) (s : Stick) where
  Turns : Option (ℕ × Access) → Outcome → Type 0
  Turns x o = o.next.phase ≡ phase_after (cond (eqb o.code 0) x option.None) s.phase

  calm_turns : (o : Outcome) → o.next.phase ≡ s.phase → Turns option.None o
  unfolding Turns
  calm_turns o e = e ∙ cond_all (λ x. s.phase ≡ phase_after x s.phase) (eqb o.code 0) option.None option.None refl refl

  SameP : Outcome → Type 0
  SameP o = o.next.phase ≡ s.phase

  answered_same : (n room : ℕ) (bs : List ℕ) → SameP (answered n room bs s)
  unfolding SameP
  answered_same n room bs = cond_all SameP (ltb room (length (take n bs))) _ _ refl refl

  lock_data_same : (f : Option ℕ) (i k n room : ℕ) → SameP (tell_lock_data lay f i k n room s)
  unfolding SameP
  lock_data_same option.None i k n room = refl
  lock_data_same (option.Some v) i k n room = answered_same n room _

  unit_same : (f : Option ℕ) (n : Bool) (p : UnitPut) → SameP (put_to_unit f n p s)
  unfolding SameP
  unit_same option.None n p = refl
  unit_same (option.Some v) n p = refl

  unit_turns : (f : Option ℕ) (n : Bool) (p : UnitPut) → Turns option.None (put_to_unit f n p s)
  unfolding SameP
  unit_turns f n p = calm_turns (put_to_unit f n p s) (unit_same f n p)

  access_turns : (i : ℕ) (a : Option Access) → Turns (at_interface i a) (change_access lay i a s)
  unfolding Turns
  access_turns i option.None = refl
  access_turns i (option.Some a) = cond_all (Turns (option.Some (i, a))) (not (is_negotiable a.target) && any_locked (units_of_interface lay i s.units)) _ _ refl refl

  request_turns : (r : Request) (n : ℕ) (ds : List ℕ) → Turns (access_asked r ds) (request lay r n ds s)
  unfolding Turns SameP
  request_turns DeviceDescriptor n ds = calm_turns (request lay DeviceDescriptor n ds s) (answered_same n (length ds) (device_descriptor lay s.interfaces))
  request_turns Bundle n ds = calm_turns (request lay Bundle n ds s) (answered_same n (length ds) (bundle s.interfaces))
  request_turns (LockData a) n ds = calm_turns (request lay (LockData a) n ds s) (lock_data_same (find_unit lay a.interface a.unit) a.interface a.unit n (length ds))
  request_turns (HighestUnit i) n ds =
      calm_turns (request lay (HighestUnit i) n ds s) (cond_all SameP (ltb i (length lay.counts)) _ _ (cond_all SameP (eqb n 1) _ _ (answered_same n (length ds) ((get_or lay.counts i 0 - 1) ∷ [])) refl) refl)
  request_turns (ClearJam i) n ds = calm_turns (request lay (ClearJam i) n ds s) (cond_all SameP (ltb i (length lay.counts)) _ _ (cond_all SameP (eqb n 0 && eqb n (length ds)) _ _ refl refl) refl)
  request_turns (PutTo StorePassphrase a) n ds = unit_turns (find_unit lay a.interface a.unit) (is_negotiable (interface_at a.interface s).ids) (sized StorePassphrase n ds)
  request_turns (PutTo MatchPassphrase a) n ds = unit_turns (find_unit lay a.interface a.unit) (is_negotiable (interface_at a.interface s).ids) (sized MatchPassphrase n ds)
  request_turns (PutTo ChangePassphrase a) n ds = unit_turns (find_unit lay a.interface a.unit) (is_negotiable (interface_at a.interface s).ids) (sized ChangePassphrase n ds)
  request_turns (PutTo ErasePassphrase a) n ds = unit_turns (find_unit lay a.interface a.unit) (is_negotiable (interface_at a.interface s).ids) (sized ErasePassphrase n ds)
  request_turns (PutTo EraseForgottenPassphrase a) n ds = unit_turns (find_unit lay a.interface a.unit) (is_negotiable (interface_at a.interface s).ids) (sized EraseForgottenPassphrase n ds)
  request_turns (PutTo LockAgain a) n ds = unit_turns (find_unit lay a.interface a.unit) (is_negotiable (interface_at a.interface s).ids) (sized LockAgain n ds)
  request_turns (PutTo ChangeInterfaceAccess a) n ds =
      cond_all (Turns (at_interface a.interface (access_in ds))) (ltb a.interface (length lay.counts)) _ _
      (cond_all (Turns (at_interface a.interface (access_in ds))) (eqb n 12 && eqb n (length ds)) _ _ (access_turns a.interface (access_in ds)) refl) refl

  asked_turns : (o : Option Asked) (ds : List ℕ) → Turns (access_told o ds) (asked lay o ds s)
  unfolding Turns
  asked_turns option.None ds = refl
  asked_turns (option.Some a) ds = request_turns a.request a.length ds

  served_turns : (o : Option Asked) (ds : List ℕ) → Turns (access_told o ds) (when_present s.phase s (asked lay o ds s))
  unfolding Turns
  served_turns o ds = when_present_all (Turns (access_told o ds)) s.phase s _ refl refl (asked_turns o ds)

  control_turns : (setup ds : List ℕ) → (step lay s (control setup ds)).next.phase ≡ phase_after (accepted_access lay s (control setup ds)) s.phase
  unfolding Turns
  control_turns setup ds =
      ap (λ (t : Stick). t.phase) (control_next lay s setup ds) ∙ served_turns (requested setup) ds
      ∙ ap (λ c. phase_after (cond (eqb c 0) (access_told (requested setup) ds) option.None) s.phase) (sym (control_code lay s setup ds))

  addressed_phase : (i : ℕ) (f : Option ℕ) (c : Cbw) (ds : List ℕ) → (addressed lay i f c ds s).next.phase ≡ s.phase
  addressed_phase i option.None c ds = refl
  addressed_phase i (option.Some v) c ds = cond_all (λ (o : Completed). o.next.phase ≡ s.phase) (ltb (length ds) c.total) _ _ refl refl

  wrapped_phase : (i : ℕ) (c : Option Cbw) (ds : List ℕ) → (wrapped lay i c ds s).next.phase ≡ s.phase
  wrapped_phase i option.None ds = refl
  wrapped_phase i (option.Some c) ds = addressed_phase i (find_unit lay i c.unit) c ds

  when_phase : (ph : Phase) (i : ℕ) (cbw ds : List ℕ) → (commanded_when ph lay i cbw ds s).next.phase ≡ s.phase
  when_phase Present i cbw ds =
      cond_all (λ (o : Completed). o.next.phase ≡ s.phase) (ltb i (length lay.counts)) _ _
      (cond_all (λ (o : Completed). o.next.phase ≡ s.phase) (interface_at i s).jammed _ _ refl (wrapped_phase i (cbw_in cbw) ds)) refl
  when_phase (Idle j t a b) i cbw ds = refl
  when_phase (Gone j t b) i cbw ds = refl

  bulk_phase : (i : ℕ) (cbw ds : List ℕ) → (step lay s (bulk i cbw ds)).next.phase ≡ s.phase
  bulk_phase i cbw ds = when_phase s.phase i cbw ds

  work_phase : (worked lay s).phase ≡ s.phase
  work_phase = cond_all (λ (t : Stick). t.phase ≡ s.phase) (ltb (first_recovering s.units) (length s.units)) _ _ refl refl

-- time that passes, of a phase alone
gone_pass : ℕ → ℕ → Ids → ℕ → Phase
gone_pass ms i t y = cond (leb y ms) Present (Gone i t (y - ms))

phase_pass : ℕ → Phase → Phase
phase_pass ms Present = Present
phase_pass ms (Idle i t x y) = cond (leb x ms) (gone_pass (ms - x) i t y) (Idle i t (x - ms) y)
phase_pass ms (Gone i t y) = gone_pass ms i t y

gone_phase : (ms i : ℕ) (t : Ids) (y : ℕ) (s : Stick) → (gone_on ms i t y s).phase ≡ gone_pass ms i t y
unfolding gone_pass
gone_phase ms i t y s = elim (leb y ms) as (λ b. (cond b (presenting i t s) (Rattle.model.specs.Control.with_phase (Gone i t (y - ms)) s)).phase ≡ cond b Present (Gone i t (y - ms))) [
  | true ↦ refl
  | false ↦ refl
]

pass_phase : (ms : ℕ) (ph : Phase) (s : Stick) → s.phase ≡ ph → (passed ms ph s).phase ≡ phase_pass ms ph
unfolding phase_pass
pass_phase ms Present s e = e
pass_phase ms (Idle i t x y) s e = elim (leb x ms) as (λ b. (cond b (gone_on (ms - x) i t y s) (Rattle.model.specs.Control.with_phase (Idle i t (x - ms) y) s)).phase ≡ cond b (gone_pass (ms - x) i t y) (Idle i t (x - ms) y)) [
  | true ↦ gone_phase (ms - x) i t y s
  | false ↦ refl
]
pass_phase ms (Gone i t y) s e = gone_phase ms i t y s

-- the times add up
module _ (i : ℕ) (a : Access) where
  abbrev due : ℕ → Phase
  due t = phase_at i a (option.Some t)

  due_idle : (t : ℕ) → t < a.idle → due t ≡ Idle i a.target (a.idle - t) a.gone
  due_idle t h = rw (lt-ltb t a.idle h) refl

  due_gone : (t : ℕ) → a.idle ≤ t → t < a.idle + a.gone → due t ≡ Gone i a.target (a.idle + a.gone - t)
  due_gone t h k = rw (le-ltb t a.idle h, lt-ltb t (a.idle + a.gone) k) refl

  due_present : (t : ℕ) → a.idle ≤ t → a.idle + a.gone ≤ t → due t ≡ Present
  due_present t h k = rw (le-ltb t a.idle h, le-ltb t (a.idle + a.gone) k) refl

  -- an idle phase with x left, when ms have passed
  idle_pass : (t ms x : ℕ) → x + t ≡ a.idle + ms → phase_pass ms (Idle i a.target x a.gone) ≡ due t
  unfolding phase_pass gone_pass
  idle_pass t ms x e = ⊎_elim
      (λ h. rw (lt-leb x ms (omega arith)) (ap (λ n. Idle i a.target n a.gone) (omega arith) ∙ sym (due_idle t h)))
      (λ h. ⊎_elim
      (λ k. rw (le-leb x ms (omega arith), lt-leb a.gone (ms - x) (omega arith)) (ap (λ n. Gone i a.target n) (omega arith) ∙ sym (due_gone t h k)))
      (λ k. rw (le-leb x ms (omega arith), le-leb a.gone (ms - x) (omega arith)) (sym (due_present t h k)))
      (cases_lt t (a.idle + a.gone)))
      (cases_lt t a.idle)

  gone_passes : (t ms y : ℕ) → y + t ≡ a.idle + a.gone + ms → a.idle ≤ t → phase_pass ms (Gone i a.target y) ≡ due t
  unfolding phase_pass gone_pass
  gone_passes t ms y e h = ⊎_elim
      (λ k. rw (lt-leb y ms (omega arith)) (ap (λ n. Gone i a.target n) (omega arith) ∙ sym (due_gone t h k)))
      (λ k. rw (le-leb y ms (omega arith)) (sym (due_present t h k)))
      (cases_lt t (a.idle + a.gone))

  due_pass : (el : Option ℕ) (ms : ℕ) → phase_pass ms (phase_at i a el) ≡ due (and_time el ms)
  unfolding phase_pass
  due_pass option.None ms = idle_pass ms ms a.idle (omega arith)
  due_pass (option.Some t) ms = ⊎_elim
      (λ h. ap (phase_pass ms) (due_idle t h) ∙ idle_pass (t + ms) ms (a.idle - t) (omega arith))
      (λ h. ⊎_elim
      (λ k. ap (phase_pass ms) (due_gone t h k) ∙ gone_passes (t + ms) ms (a.idle + a.gone - t) (omega arith) (omega arith))
      (λ k. ap (phase_pass ms) (due_present t h k) ∙ sym (due_present (t + ms) (omega arith) (omega arith)))
      (cases_lt t (a.idle + a.gone)))
      (cases_lt t a.idle)

time_due : (c : Option Change) (ms : ℕ) → phase_pass ms (phase_due c) ≡ phase_due (time_passes ms c)
unfolding phase_pass
time_due option.None ms = refl
time_due (option.Some c) ms = due_pass c.interface c.access c.elapsed ms

turned_due : (x : Option (ℕ × Access)) (setup ds : List ℕ) (c : Option Change) → phase_after x (phase_due c) ≡ phase_due (changed_to x (control setup ds) c)
turned_due option.None setup ds c = refl
turned_due (option.Some x) setup ds c = refl

step_due : (lay : Layout) (s : Stick) (e : Event) (c : Option Change) → s.phase ≡ phase_due c → (step lay s e).next.phase ≡ phase_due (changed_to (accepted_access lay s e) e c)
step_due lay s (control setup ds) c h = control_turns lay s setup ds ∙ ap (phase_after (accepted_access lay s (control setup ds))) h ∙ turned_due (accepted_access lay s (control setup ds)) setup ds c
step_due lay s (bulk i cbw ds) c h = bulk_phase lay s i cbw ds ∙ h
step_due lay s work c h = work_phase lay s ∙ h
step_due lay s (clock ms) c h = pass_phase ms s.phase s refl ∙ ap (phase_pass ms) h ∙ time_due c ms
step_due lay s reset c h = h
step_due lay s suspend c h = h
step_due lay s resume c h = h
step_due lay s power c h = refl

pub away_as_asked : AwayAsAsked
away_as_asked lay m [] = refl
away_as_asked lay m (e ∷ past) = step_due lay (after lay m past) e (last_change lay m past) (away_as_asked lay m past)

-- only after an accepted interface change, neither presented nor dropped since

turned_away : (x : Option (ℕ × Access)) (ph : Phase) → is_away (phase_after x ph) ≡ true → (is_some x ≡ true) ⊎ (is_away ph ≡ true)
turned_away option.None ph h = inr h
turned_away (option.Some x) ph h = inl refl

still_present : (ms : ℕ) (ph : Phase) (s : Stick) → s.phase ≡ ph → is_away ph ≡ false → is_away (passed ms ph s).phase ≡ false
still_present ms Present s e h = ap is_away e
still_present ms (Idle i t x y) s e h = absurd (true≢false h)
still_present ms (Gone i t y) s e h = absurd (true≢false h)

step_away : (lay : Layout) (s : Stick) (e : Event) → is_away (step lay s e).next.phase ≡ true →
    (is_some (accepted_access lay s e) ≡ true) ⊎ (((is_power e || presents lay s e) ≡ false) × (is_away s.phase ≡ true))
step_away lay s (control setup ds) h = ⊎_elim (λ x. inl x) (λ x. inr (refl, x)) (turned_away (accepted_access lay s (control setup ds)) s.phase (ap is_away (sym (control_turns lay s setup ds)) ∙ h))
step_away lay s (bulk i cbw ds) h = inr (refl, ap is_away (sym (bulk_phase lay s i cbw ds)) ∙ h)
step_away lay s work h = inr (refl, ap is_away (sym (work_phase lay s)) ∙ h)
step_away lay s (clock ms) h = ⊎_elim
    (λ r. inr (ap₂ (λ a b. a && not b) r h, r))
    (λ r. absurd (both_ways _ (still_present ms s.phase s refl r) h))
    (cases_Bool (is_away s.phase))
step_away lay s reset h = inr (refl, h)
step_away lay s suspend h = inr (refl, h)
step_away lay s resume h = inr (refl, h)
step_away lay s power h = absurd (false≢true h)

asked_away : (x : Option (ℕ × Access)) (ph : Phase) → is_some x ≡ true → is_away (phase_after x ph) ≡ true
asked_away option.None ph h = absurd (false≢true h)
asked_away (option.Some x) ph h = refl

kept_away : (x : Option (ℕ × Access)) (ph : Phase) → is_away ph ≡ true → is_away (phase_after x ph) ≡ true
kept_away option.None ph h = h
kept_away (option.Some x) ph h = refl

-- an accepted interface change is under way
step_asked : (lay : Layout) (s : Stick) (e : Event) → is_some (accepted_access lay s e) ≡ true → is_away (step lay s e).next.phase ≡ true
step_asked lay s (control setup ds) h = ap is_away (control_turns lay s setup ds) ∙ asked_away (accepted_access lay s (control setup ds)) s.phase h
step_asked lay s (bulk i cbw ds) h = absurd (false≢true h)
step_asked lay s work h = absurd (false≢true h)
step_asked lay s (clock ms) h = absurd (false≢true h)
step_asked lay s reset h = absurd (false≢true h)
step_asked lay s suspend h = absurd (false≢true h)
step_asked lay s resume h = absurd (false≢true h)
step_asked lay s power h = absurd (false≢true h)

-- and stays so until it is presented or power drops it
step_stays : (lay : Layout) (s : Stick) (e : Event) → (is_power e || presents lay s e) ≡ false → is_away s.phase ≡ true → is_away (step lay s e).next.phase ≡ true
step_stays lay s (control setup ds) n h = ap is_away (control_turns lay s setup ds) ∙ kept_away (accepted_access lay s (control setup ds)) s.phase h
step_stays lay s (bulk i cbw ds) n h = ap is_away (bulk_phase lay s i cbw ds) ∙ h
step_stays lay s work n h = ap is_away (work_phase lay s) ∙ h
step_stays lay s (clock ms) n h = not-false (is_away (passed ms s.phase s).phase) (sym (ap (λ b. b && not (is_away (passed ms s.phase s).phase)) h) ∙ n)
step_stays lay s reset n h = h
step_stays lay s suspend n h = h
step_stays lay s resume n h = h
step_stays lay s power n h = absurd (true≢false n)

AskedSince : Layout → List Block → List Event → Type 0
AskedSince lay m h = Since (λ past e. is_some (accepted_access lay (after lay m past) e)) (λ past e. is_power e || presents lay (after lay m past) e) h

away_since : (lay : Layout) (m : List Block) (h : List Event) → is_away (after lay m h).phase ≡ true → AskedSince lay m h
unfolding AskedSince
away_since lay m [] h = absurd (false≢true h)
away_since lay m (e ∷ past) h = ⊎_elim (λ x. inl x) (λ x. inr (x.0, away_since lay m past x.1)) (step_away lay (after lay m past) e h)

since_away : (lay : Layout) (m : List Block) (h : List Event) → AskedSince lay m h → is_away (after lay m h).phase ≡ true
unfolding AskedSince
since_away lay m [] h = absurd h
since_away lay m (e ∷ past) (inl x) = step_asked lay (after lay m past) e x
since_away lay m (e ∷ past) (inr x) = step_stays lay (after lay m past) e x.0 (since_away lay m past x.1)

pub away_when_asked : AwayWhenAsked
unfolding AskedSince
away_when_asked lay m h = (away_since lay m h, since_away lay m h)
