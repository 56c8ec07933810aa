-- Two sticks alike but for a Locked unit's secret answer alike until a candidate for it is accepted.
use Rattle.std.proofs.Common.{◌≡◌, ℕ, Bool, true, false, cond, ◌&&◌, eqb, List, [], ◌++◌, map, length, drop, replicate, Option, sym, refl, ap, ◌∙◌, subst, ap₂, ⊎_elim}
use Rattle.std.proofs.lemmas.Bool.{true≢false, false≢true, cases_eq, eq-eqb}
use Rattle.std.specs.declared.option.Option.TheVariants as option
use Rattle.model.specs.Bulk.{Completed, commanded, bulk_with}
use Rattle.model.specs.Control.{Outcome, outcome, refuse, alter, with_units, unit_at, interface_at, find_unit, unjammed, sized, put_to_unit, request, asked, when_present, served, transferred}
use Rattle.model.specs.Events.{Event, control, bulk, work, clock, reset, suspend, resume, power, Step, stepped, done, after_control, after_bulk, reply, step}
use Rattle.model.specs.Identities.{is_negotiable}
use Rattle.model.specs.Layouts.{Layout}
use Rattle.model.specs.Presence.{passed, bus_reset}
use Rattle.model.specs.Puts.{UnitPut, misfit, store, match, change, erase, forget, lock_again, correct, Turn, judged, turned}
use Rattle.model.specs.Recovery.{worked}
use Rattle.model.specs.Requests.{requested, is_reading}
use Rattle.model.specs.Sticks.{Stick, repowered}
use Rattle.model.specs.Units.{Standing, impersonal, locked, unlocked, recovering, UnitRecord, new_unit, is_locked}
use Rattle.model.specs.declared.ids.Phase.{Phase}
use Rattle.model.specs.declared.ids.Phase.TheVariants as phase
use Rattle.model.specs.declared.refusal.Refusal.TheVariants as refusal
use Rattle.model.specs.declared.request.Asked.{Asked}
use Rattle.model.specs.declared.request.Put.{Put}
use Rattle.model.specs.declared.request.Put.TheVariants.{StorePassphrase, MatchPassphrase, ChangePassphrase, ErasePassphrase, EraseForgottenPassphrase, LockAgain, ChangeInterfaceAccess}
use Rattle.model.specs.declared.request.Request.{Request}
use Rattle.model.specs.declared.request.Request.TheVariants.{DeviceDescriptor, Bundle, LockData, HighestUnit, ClearJam, PutTo}
use Rattle.privacy.specs.Claims.{but, mute, mute_standing, Locked, accepts, asked_put, asks_put, is_unit, carries_candidate}
use Rattle.privacy.proofs.Places.{Disjoint}
use Rattle.privacy.proofs.Respects.{unit_mute}
use Rattle.privacy.proofs.Lists.{alter_other, alter_at, alter_alter, alter_comm, alter_like, zeroed_twice}
use Rattle.privacy.proofs.PutKinds.{candidate, candidate_asked, quieter}
use Rattle.privacy.proofs.Calm.{control_code}
use Rattle.privacy.proofs.Blind.{Blind, BlindO, BlindC, request_blind, commanded_blind, work_blind, passed_blind, power_blind, idle, refuse_blind, when_present_two, but_eq, mute_mute, alter_twice}

-- A Put to a Locked unit whose candidate is not accepted goes as if the candidate were wrong
quiet_judged : (ok : Bool) (st : Standing) (p : UnitPut) (x : UnitRecord) → is_locked st ≡ true → (candidate p && eqb (judged ok st p x).code 0) ≡ false → judged ok st p x ≡ judged false st p x
quiet_judged ok impersonal p x l q = absurd (false≢true l)
quiet_judged ok (locked w) misfit x l q = refl
quiet_judged ok (locked w) (store c) x l q = refl
quiet_judged ok (locked w) (match option.None) x l q = refl
quiet_judged true (locked w) (match (option.Some c)) x l q = absurd (true≢false q)
quiet_judged false (locked w) (match (option.Some c)) x l q = refl
quiet_judged ok (locked w) (change c) x l q = refl
quiet_judged ok (locked w) (erase c) x l q = refl
quiet_judged ok (locked w) forget x l q = refl
quiet_judged ok (locked w) lock_again x l q = refl
quiet_judged ok (unlocked w) p x l q = absurd (false≢true l)
quiet_judged ok (recovering w d) misfit x l q = refl
quiet_judged ok (recovering w d) (store c) x l q = refl
quiet_judged ok (recovering w d) (match c) x l q = refl
quiet_judged ok (recovering w d) (change c) x l q = refl
quiet_judged ok (recovering w d) (erase c) x l q = refl
quiet_judged ok (recovering w d) forget x l q = refl
quiet_judged ok (recovering w d) lock_again x l q = refl

-- and then nothing of the passphrase shows
record Mum (st : Standing) (p : UnitPut) (x : UnitRecord) : Type 0 where
  code : (judged false (mute_standing st) p (mute x)).code ≡ (judged false st p x).code
  row : mute (judged false (mute_standing st) p (mute x)).after ≡ mute (judged false st p x).after
  lock : is_locked (judged false st p x).after.standing ≡ true

mum : (st : Standing) (p : UnitPut) (x : UnitRecord) → x.standing ≡ st → is_locked st ≡ true → Mum st p x
mum impersonal p x e l = absurd (false≢true l)
mum (locked w) misfit x e l = rw e (record { code = refl; row = refl; lock = refl })
mum (locked w) (store c) x e l = rw e (record { code = refl; row = refl; lock = refl })
mum (locked w) (match option.None) x e l = rw e (record { code = refl; row = refl; lock = refl })
mum (locked w) (match (option.Some c)) x e l = rw e (record { code = refl; row = refl; lock = refl })
mum (locked w) (change c) x e l = rw e (record { code = refl; row = refl; lock = refl })
mum (locked w) (erase c) x e l = rw e (record { code = refl; row = refl; lock = refl })
mum (locked w) forget x e l = record { code = refl; row = refl; lock = refl }
mum (locked w) lock_again x e l = rw e (record { code = refl; row = refl; lock = refl })
mum (unlocked w) p x e l = absurd (false≢true l)
mum (recovering w d) misfit x e l = rw e (record { code = refl; row = refl; lock = refl })
mum (recovering w d) (store c) x e l = record { code = refl; row = mute_mute x; lock = ap is_locked e }
mum (recovering w d) (match c) x e l = record { code = refl; row = mute_mute x; lock = ap is_locked e }
mum (recovering w d) (change c) x e l = record { code = refl; row = mute_mute x; lock = ap is_locked e }
mum (recovering w d) (erase c) x e l = record { code = refl; row = mute_mute x; lock = ap is_locked e }
mum (recovering w d) forget x e l = record { code = refl; row = mute_mute x; lock = ap is_locked e }
mum (recovering w d) lock_again x e l = record { code = refl; row = mute_mute x; lock = ap is_locked e }

module _ (lay : Layout) (u : ℕ) where
  -- the Put as it goes where its candidate is wrong
  wrong : UnitPut → Stick → Outcome
  wrong p s = outcome (judged false (unit_at u s).standing p (unit_at u s)).code [] (with_units (alter u (λ x. (judged false x.standing p x).after) s.units) s)

  put_wrong : (n : Bool) (p : UnitPut) (s : Stick) → Locked u s → (candidate p && eqb (put_to_unit (option.Some u) n p s).code 0) ≡ false → put_to_unit (option.Some u) n p s ≡ wrong p s
  unfolding wrong
  put_wrong n p s l q =
      let x = unit_at u s in
      let e = quiet_judged (correct n x p) x.standing p x l q in
      ap₂ (λ c rs. outcome c [] (with_units rs s)) (ap (λ t. t.code) e) (alter_like s.units u (λ y. (turned n p y).after) (λ y. (judged false y.standing p y).after) new_unit (ap (λ t. t.after) e))

  wrong_blind : (p : UnitPut) (s : Stick) → Locked u s → BlindO lay u (wrong p s) (wrong p (but lay u s))
  unfolding but wrong
  wrong_blind p s l =
      let x = unit_at u s in
      let g : UnitRecord → UnitRecord = λ y. (judged false y.standing p y).after in
      let k = mum x.standing p x refl l in
      record {
        code = sym (ap (λ (y : UnitRecord). (judged false y.standing p y).code) (unit_mute s.units u) ∙ k.code);
        answer = refl;
        next = but_eq lay u _ _ s.interfaces s.phase s.blocks _
            (alter_alter s.units u g mute ∙ alter_like s.units u (λ y. mute (g y)) (λ y. mute (g (mute y))) new_unit (sym k.row)
            ∙ sym (alter_alter s.units u mute (λ y. mute (g y))) ∙ sym (alter_alter (alter u mute s.units) u g mute))
            (sym (zeroed_twice s.blocks _ _));
      }

  other_blind : (v : ℕ) (n : Bool) (p : UnitPut) (s : Stick) → (v ≡ u → ⊥) → BlindO lay u (put_to_unit (option.Some v) n p s) (put_to_unit (option.Some v) n p (but lay u s))
  unfolding but
  other_blind v n p s ne =
      let f : UnitRecord → UnitRecord = λ y. (turned n p y).after in
      record {
        code = ap (λ (y : UnitRecord). (turned n p y).code) (sym (alter_other s.units u v mute new_unit (λ e. ne (sym e))));
        answer = refl;
        next = but_eq lay u _ _ s.interfaces s.phase s.blocks _
            (alter_comm s.units v u f mute ne ∙ ap (alter v f) (sym (alter_twice s.units u)) ∙ sym (alter_comm (alter u mute s.units) v u f mute ne))
            (sym (zeroed_twice s.blocks _ _));
      }

  quiet : (p : UnitPut) (v : ℕ) → v ≡ u → (h : ℕ → Outcome) → (eqb v u && candidate p && eqb (h v).code 0) ≡ false → (candidate p && eqb (h u).code 0) ≡ false
  quiet p v e h q = rw (eq-eqb u u refl) at (subst (λ w. (eqb w u && candidate p && eqb (h w).code 0) ≡ false) e q)

  -- and leaves it Locked
  put_locks : (f : Option ℕ) (n : Bool) (p : UnitPut) (s : Stick) → Locked u s → (is_unit f u && candidate p && eqb (put_to_unit f n p s).code 0) ≡ false → Locked u (put_to_unit f n p s).next
  put_locks option.None n p s l q = l
  put_locks (option.Some v) n p s l q = ⊎_elim
      (λ e. subst (λ w. Locked u (put_to_unit (option.Some w) n p s).next) (sym e) (here (quiet p v e (λ w. put_to_unit (option.Some w) n p s) q)))
      (λ ne. rw (alter_other s.units v u (λ x. (turned n p x).after) new_unit ne) l)
      (cases_eq v u)
    where
      here : (candidate p && eqb (put_to_unit (option.Some u) n p s).code 0) ≡ false → Locked u (put_to_unit (option.Some u) n p s).next
      here q = ⊎_elim
          (λ a. ap (λ (x : UnitRecord). is_locked x.standing) a ∙ ap (λ (t : Turn). is_locked t.after.standing) (quiet_judged (correct n (unit_at u s) p) (unit_at u s).standing p (unit_at u s) l q) ∙ (mum (unit_at u s).standing p (unit_at u s) refl l).lock)
          (λ a. absurd (false≢true (rw a at l)))
          (alter_at s.units u (λ x. (turned n p x).after) new_unit)

  pub present_locks : (ph : Phase) (f : Option ℕ) (n : Bool) (p : UnitPut) (s : Stick) → Locked u s → (is_unit f u && candidate p && eqb (when_present ph s (put_to_unit f n p s)).code 0) ≡ false → Locked u (when_present ph s (put_to_unit f n p s)).next
  present_locks phase.Present f n p s l q = put_locks f n p s l q
  present_locks (phase.Idle i m a b) f n p s l q = l
  present_locks (phase.Gone i m a) f n p s l q = l

  -- One Put at two sticks: some way to go that both follow, and that sees nothing of the secret
  record Way (h : Stick → Outcome) (s t : Stick) : Type 0 where
    go : Stick → Outcome
    left : h s ≡ go s
    right : h t ≡ go t
    left_blind : BlindO lay u (go s) (go (but lay u s))
    right_blind : BlindO lay u (go t) (go (but lay u t))

  way_agrees : (h : Stick → Outcome) (s t : Stick) → but lay u s ≡ but lay u t → Way h s t → BlindO lay u (h s) (h t)
  way_agrees h s t b w = record {
    code = ap (λ (o : Outcome). o.code) w.left ∙ w.left_blind.code ∙ ap (λ x. (w.go x).code) b ∙ sym w.right_blind.code ∙ sym (ap (λ (o : Outcome). o.code) w.right);
    answer = ap (λ (o : Outcome). o.answer) w.left ∙ w.left_blind.answer ∙ ap (λ x. (w.go x).answer) b ∙ sym w.right_blind.answer ∙ sym (ap (λ (o : Outcome). o.answer) w.right);
    next = ap (λ (o : Outcome). but lay u o.next) w.left ∙ w.left_blind.next ∙ ap (λ x. but lay u (w.go x).next) b ∙ sym w.right_blind.next ∙ sym (ap (λ (o : Outcome). but lay u o.next) w.right);
  }

  present_wrong : (ph : Phase) (n : Bool) (p : UnitPut) (s : Stick) → Locked u s → (candidate p && eqb (when_present ph s (put_to_unit (option.Some u) n p s)).code 0) ≡ false →
      when_present ph s (put_to_unit (option.Some u) n p s) ≡ when_present ph s (wrong p s)
  present_wrong phase.Present n p s l q = put_wrong n p s l q
  present_wrong (phase.Idle i m a b) n p s l q = refl
  present_wrong (phase.Gone i m a) n p s l q = refl

  -- a Put for the unit that was found
  putting : ℕ → UnitPut → Option ℕ → Stick → Outcome
  putting i p f x = when_present x.phase x (put_to_unit f (is_negotiable (interface_at i x).ids) p x)

  present_blind : (h : Stick → Outcome) (s : Stick) → BlindO lay u (h s) (h (but lay u s)) → BlindO lay u (when_present s.phase s (h s)) (when_present (but lay u s).phase (but lay u s) (h (but lay u s)))
  unfolding but
  present_blind h s b = when_present_two (BlindO lay u) s.phase s (but lay u s) (h s) (h (but lay u s)) (refuse_blind lay u s refusal.Idle) (refuse_blind lay u s refusal.Gone) b

  module _ (s t : Stick) (l : Locked u s) (k : Locked u t) (i : ℕ) (p : UnitPut) where
    put_way : (f : Option ℕ) → (is_unit f u && candidate p && eqb (putting i p f s).code 0) ≡ false → (is_unit f u && candidate p && eqb (putting i p f t).code 0) ≡ false → Way (putting i p f) s t
    unfolding putting but
    put_way option.None a b = record {
      go = putting i p option.None;
      left = refl;
      right = refl;
      left_blind = present_blind (λ x. refuse refusal.Absent x) s (refuse_blind lay u s refusal.Absent);
      right_blind = present_blind (λ x. refuse refusal.Absent x) t (refuse_blind lay u t refusal.Absent);
    }
    put_way (option.Some v) a b = ⊎_elim
        (λ e. subst (λ w. Way (putting i p (option.Some w)) s t) (sym e) (record {
          go = λ x. when_present x.phase x (wrong p x);
          left = present_wrong s.phase (is_negotiable (interface_at i s).ids) p s l (quiet p v e (λ w. putting i p (option.Some w) s) a);
          right = present_wrong t.phase (is_negotiable (interface_at i t).ids) p t k (quiet p v e (λ w. putting i p (option.Some w) t) b);
          left_blind = present_blind (wrong p) s (wrong_blind p s l);
          right_blind = present_blind (wrong p) t (wrong_blind p t k);
        }))
        (λ ne. record {
          go = putting i p (option.Some v);
          left = refl;
          right = refl;
          left_blind = present_blind (λ x. put_to_unit (option.Some v) (is_negotiable (interface_at i x).ids) p x) s (other_blind v (is_negotiable (interface_at i s).ids) p s ne);
          right_blind = present_blind (λ x. put_to_unit (option.Some v) (is_negotiable (interface_at i x).ids) p x) t (other_blind v (is_negotiable (interface_at i t).ids) p t ne);
        })
        (cases_eq v u)

  -- a transfer at two sticks
  serving : Option Asked → List ℕ → Stick → Outcome
  serving o ds s = when_present s.phase s (asked lay o ds s)

  asking : Request → ℕ → List ℕ → Stick → Outcome
  asking r n ds s = when_present s.phase s (request lay r n ds s)

  calm_agrees : (h : Stick → Outcome) → ((s : Stick) → BlindO lay u (h s) (h (but lay u s))) → (s t : Stick) → but lay u s ≡ but lay u t → BlindO lay u (when_present s.phase s (h s)) (when_present t.phase t (h t))
  calm_agrees h g s t b = way_agrees (λ x. when_present x.phase x (h x)) s t b (record { go = λ x. when_present x.phase x (h x); left = refl; right = refl; left_blind = present_blind h s (g s); right_blind = present_blind h t (g t) })

  module _ (s t : Stick) (l : Locked u s) (k : Locked u t) (b : but lay u s ≡ but lay u t) where
    unit_agrees : (p : Put) (i j n : ℕ) (ds : List ℕ) →
        (is_unit (find_unit lay i j) u && carries_candidate p && eqb (putting i (sized p n ds) (find_unit lay i j) s).code 0) ≡ false →
        (is_unit (find_unit lay i j) u && carries_candidate p && eqb (putting i (sized p n ds) (find_unit lay i j) t).code 0) ≡ false →
        BlindO lay u (putting i (sized p n ds) (find_unit lay i j) s) (putting i (sized p n ds) (find_unit lay i j) t)
    unit_agrees p i j n ds x y =
        let f = find_unit lay i j in
        way_agrees (putting i (sized p n ds) f) s t b (put_way s t l k i (sized p n ds) f
        (quieter (is_unit f u) (carries_candidate p) (candidate (sized p n ds)) _ (candidate_asked p n ds) x)
        (quieter (is_unit f u) (carries_candidate p) (candidate (sized p n ds)) _ (candidate_asked p n ds) y))

    request_agrees : (r : Request) (n : ℕ) (ds : List ℕ) → (asks_put carries_candidate lay u r && eqb (asking r n ds s).code 0) ≡ false → (asks_put carries_candidate lay u r && eqb (asking r n ds t).code 0) ≡ false → BlindO lay u (asking r n ds s) (asking r n ds t)
    unfolding asking putting
    request_agrees DeviceDescriptor n ds x y = calm_agrees (request lay DeviceDescriptor n ds) (λ z. request_blind lay u z DeviceDescriptor n ds refl) s t b
    request_agrees Bundle n ds x y = calm_agrees (request lay Bundle n ds) (λ z. request_blind lay u z Bundle n ds refl) s t b
    request_agrees (LockData a) n ds x y = calm_agrees (request lay (LockData a) n ds) (λ z. request_blind lay u z (LockData a) n ds refl) s t b
    request_agrees (HighestUnit i) n ds x y = calm_agrees (request lay (HighestUnit i) n ds) (λ z. request_blind lay u z (HighestUnit i) n ds refl) s t b
    request_agrees (ClearJam i) n ds x y = calm_agrees (request lay (ClearJam i) n ds) (λ z. request_blind lay u z (ClearJam i) n ds refl) s t b
    request_agrees (PutTo StorePassphrase a) n ds x y = unit_agrees StorePassphrase a.interface a.unit n ds x y
    request_agrees (PutTo MatchPassphrase a) n ds x y = unit_agrees MatchPassphrase a.interface a.unit n ds x y
    request_agrees (PutTo ChangePassphrase a) n ds x y = unit_agrees ChangePassphrase a.interface a.unit n ds x y
    request_agrees (PutTo ErasePassphrase a) n ds x y = unit_agrees ErasePassphrase a.interface a.unit n ds x y
    request_agrees (PutTo EraseForgottenPassphrase a) n ds x y = unit_agrees EraseForgottenPassphrase a.interface a.unit n ds x y
    request_agrees (PutTo LockAgain a) n ds x y = unit_agrees LockAgain a.interface a.unit n ds x y
    request_agrees (PutTo ChangeInterfaceAccess a) n ds x y = calm_agrees (request lay (PutTo ChangeInterfaceAccess a) n ds) (λ z. request_blind lay u z (PutTo ChangeInterfaceAccess a) n ds refl) s t b

    served_agrees : (o : Option Asked) (ds : List ℕ) → (asked_put carries_candidate lay u o && eqb (serving o ds s).code 0) ≡ false → (asked_put carries_candidate lay u o && eqb (serving o ds t).code 0) ≡ false → BlindO lay u (serving o ds s) (serving o ds t)
    unfolding serving asking
    served_agrees option.None ds x y = calm_agrees (refuse refusal.Unlisted) (λ z. refuse_blind lay u z refusal.Unlisted) s t b
    served_agrees (option.Some a) ds x y = request_agrees a.request a.length ds x y

  -- what an answer is wrapped in depends on the event alone
  control_wrap : List ℕ → List ℕ → Outcome → Step
  control_wrap setup ds o =
      after_control (cond (is_reading setup) (transferred o.code o.answer (o.answer ++ drop (length o.answer) ds) o.next) (transferred o.code [] (replicate (length ds) 0) o.next))

  control_blind : (setup ds : List ℕ) (o p : Outcome) → BlindO lay u o p → Blind lay u (control_wrap setup ds o) (control_wrap setup ds p)
  unfolding control_wrap
  control_blind setup ds o p h = elim (is_reading setup) as (λ b. Blind lay u
      (after_control (cond b (transferred o.code o.answer (o.answer ++ drop (length o.answer) ds) o.next) (transferred o.code [] (replicate (length ds) 0) o.next)))
      (after_control (cond b (transferred p.code p.answer (p.answer ++ drop (length p.answer) ds) p.next) (transferred p.code [] (replicate (length ds) 0) p.next)))) [
        | true ↦ record { reply = ap₂ (λ (c : ℕ) (bs : List ℕ). reply c bs [] (bs ++ drop (length bs) ds)) h.code h.answer; next = h.next }
        | false ↦ record { reply = ap (λ (c : ℕ). reply c [] [] (replicate (length ds) 0)) h.code; next = h.next }
      ]

  bulk_wrap : List ℕ → Completed → Step
  bulk_wrap ds o = after_bulk (bulk_with o.code o.csw o.answer (o.answer ++ drop (length o.answer) ds) o.next)

  bulk_blind : (ds : List ℕ) (o p : Completed) → BlindC lay u o p → Blind lay u (bulk_wrap ds o) (bulk_wrap ds p)
  unfolding bulk_wrap
  bulk_blind ds o p h = record {
    reply = ap₂ (λ (c : ℕ) (w : List ℕ). reply c o.answer w (o.answer ++ drop (length o.answer) ds)) h.code h.csw
        ∙ ap (λ (bs : List ℕ). reply p.code bs p.csw (bs ++ drop (length bs) ds)) h.answer;
    next = h.next;
  }

  simple : (h : Stick → Step) (s t : Stick) → but lay u s ≡ but lay u t → Blind lay u (h s) (h (but lay u s)) → Blind lay u (h t) (h (but lay u t)) → Blind lay u (h s) (h t)
  simple h s t b x y = record {
    reply = x.reply ∙ ap (λ z. (h z).reply) b ∙ sym y.reply;
    next = x.next ∙ ap (λ z. but lay u (h z).next) b ∙ sym y.next;
  }

  served_quiet : (s : Stick) (setup ds : List ℕ) → accepts carries_candidate lay u s (control setup ds) ≡ false → (asked_put carries_candidate lay u (requested setup) && eqb (served lay setup ds s).code 0) ≡ false
  served_quiet s setup ds q = ap (λ c. asked_put carries_candidate lay u (requested setup) && eqb c 0) (sym (control_code lay s setup ds)) ∙ q

  pub agrees : Disjoint lay → (s t : Stick) → Locked u s → Locked u t → but lay u s ≡ but lay u t → (e : Event) →
      accepts carries_candidate lay u s e ≡ false → accepts carries_candidate lay u t e ≡ false → Blind lay u (step lay s e) (step lay t e)
  unfolding but serving control_wrap bulk_wrap
  agrees ok s t l k b (control setup ds) x y = control_blind setup ds _ _ (served_agrees s t l k b (requested setup) ds (served_quiet s setup ds x) (served_quiet t setup ds y))
  agrees ok s t l k b (bulk i cbw ds) x y =
      simple (λ z. bulk_wrap ds (commanded lay i cbw ds z)) s t b (bulk_blind ds _ _ (commanded_blind lay u ok s l i cbw ds)) (bulk_blind ds _ _ (commanded_blind lay u ok t k i cbw ds))
  agrees ok s t l k b work x y = simple (λ z. stepped done (worked lay z)) s t b (work_blind lay u s) (work_blind lay u t)
  agrees ok s t l k b (clock ms) x y = simple (λ z. stepped done (passed ms z.phase z)) s t b (passed_blind lay u s ms s.phase) (passed_blind lay u t ms t.phase)
  agrees ok s t l k b reset x y = simple (λ z. stepped done (bus_reset z)) s t b (idle lay u s (map unjammed s.interfaces) s.phase) (idle lay u t (map unjammed t.interfaces) t.phase)
  agrees ok s t l k b suspend x y = record { reply = refl; next = b }
  agrees ok s t l k b resume x y = record { reply = refl; next = b }
  agrees ok s t l k b power x y = simple (λ z. stepped done (repowered lay z)) s t b (power_blind lay u s) (power_blind lay u t)
