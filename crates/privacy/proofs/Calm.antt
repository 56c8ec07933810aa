-- What an event other than a Put to a unit, a work step or a power cycle can do to records and blocks.
use Rattle.std.proofs.Common.{◌≡◌, ℕ, ◌+◌, ◌-◌, ◌≤◌, Bool, true, false, cond, not, ◌&&◌, eqb, ltb, leb, List, [], ◌∷◌, map, length, get_or, take, Option, sym, refl, ap, ◌∙◌, arith}
use lib.ListN.{get_or-map}
use Rattle.std.proofs.lemmas.Bool.{true≢false, leb-true}
use Rattle.std.specs.declared.option.Option.TheVariants as option
use Rattle.model.specs.Blocks.{Block}
use Rattle.model.specs.Bulk.{Completed, place_at, with_sense, ended, addressed, wrapped, commanded_when, bulked}
use Rattle.model.specs.Commands.{good_run, stored, barrier, out_of_range, mismatched, Ending, ending, unless_failed, moving, performed}
use Rattle.model.specs.Control.{Outcome, outcome, refuse, alter, unit_at, interface_at, find_unit, answered, tell_lock_data, with_interface, sized, put_to_unit, change_access, access_sized, put, request, when_present, served, controlled}
use Rattle.model.specs.Descriptors.{device_descriptor, bundle}
use Rattle.model.specs.Identities.{is_negotiable}
use Rattle.model.specs.Layouts.{Layout}
use Rattle.model.specs.Parts.{Access, access_in}
use Rattle.model.specs.Presence.{presented, gone_on, passed}
use Rattle.model.specs.Requests.{is_reading}
use Rattle.model.specs.Sticks.{Stick, stick, units_of_interface, repowered}
use Rattle.model.specs.Units.{Standing, impersonal, locked, unlocked, recovering, UnitRecord, new_unit, is_locked, any_locked, relocked, powered}
use Rattle.model.specs.Wrappers.{cbw_in}
use Rattle.model.specs.declared.command.Cbw.{Cbw}
use Rattle.model.specs.declared.command.Command.{Command}
use Rattle.model.specs.declared.command.Command.TheVariants.{TestUnitReady, RequestSense, Inquiry, ReadCapacity, Read, Write, Rejected}
use Rattle.model.specs.declared.command.Direction.{Direction}
use Rattle.model.specs.declared.ids.Ids.{Ids}
use Rattle.model.specs.declared.ids.Interface.{Interface}
use Rattle.model.specs.declared.ids.Phase.{Phase}
use Rattle.model.specs.declared.ids.Phase.TheVariants as phase
use Rattle.model.specs.declared.layout.Place.{Place}
use Rattle.model.specs.declared.refusal.Refusal.{Refusal}
use Rattle.model.specs.declared.refusal.Refusal.TheVariants as refusal
use Rattle.model.specs.declared.request.Put.{Put}
use Rattle.model.specs.declared.request.Put.TheVariants.{StorePassphrase, MatchPassphrase, ChangePassphrase, ErasePassphrase, EraseForgottenPassphrase, LockAgain, ChangeInterfaceAccess}
use Rattle.model.specs.declared.request.Request.{Request}
use Rattle.model.specs.declared.request.Request.TheVariants.{DeviceDescriptor, Bundle, LockData, HighestUnit, ClearJam, PutTo}
use Rattle.model.specs.declared.sense.Sense.{Sense}
use Rattle.model.specs.declared.command.Status.TheVariants.{PhaseError}
use Rattle.privacy.specs.Causes.{is_writing}
use Rattle.privacy.proofs.Lists.{alter_rel, run_most}

-- every way out
pub when_present_all : (P : Outcome → Type 0) (ph : Phase) (s : Stick) (o : Outcome) → P (refuse refusal.Idle s) → P (refuse refusal.Gone s) → P o → P (when_present ph s o)
when_present_all P phase.Present s o a b c = c
when_present_all P (phase.Idle i t x y) s o a b c = a
when_present_all P (phase.Gone i t x) s o a b c = b

pub cond_all : {A : Type 0} (P : A → Type 0) (b : Bool) (x y : A) → P x → P y → P (cond b x y)
cond_all P true x y p q = p
cond_all P false x y p q = q

pub cond_facts : {A : Type 0} (P : A → Type 0) (b : Bool) (x y : A) → (b ≡ true → P x) → (b ≡ false → P y) → P (cond b x y)
cond_facts P true x y p q = p refl
cond_facts P false x y p q = q refl

-- nothing of records and blocks; a unit's sense; blocks of a unit that is not Locked; what presenting clears
pub data Calm (lay : Layout) (s t : Stick) : Type 0 where
  still : t.units ≡ s.units → t.blocks ≡ s.blocks → Calm lay s t
  noted : (v : ℕ) (x : Sense) → t.units ≡ alter v (with_sense x) s.units → t.blocks ≡ s.blocks → Calm lay s t
  wrote : (v a n : ℕ) (ds : List ℕ) (x : Sense) → is_locked (unit_at v s).standing ≡ false → a + n ≤ (place_at lay v).count →
      t.units ≡ alter v (with_sense x) s.units → t.blocks ≡ stored n ((place_at lay v).start + a) ds s.blocks → Calm lay s t
  shown : t.units ≡ map presented s.units → t.blocks ≡ s.blocks → Calm lay s t

-- a calm event leaves a unit as it stands
pub calm_keeps : (lay : Layout) (u : ℕ) (s t : Stick) → Calm lay s t → (unit_at u t).standing ≡ (unit_at u s).standing
calm_keeps lay u s t (still r m) = ap (λ rs. (get_or rs u new_unit).standing) r
calm_keeps lay u s t (noted v n r m) = ap (λ rs. (get_or rs u new_unit).standing) r ∙ alter_rel (λ (x y : UnitRecord). y.standing ≡ x.standing) s.units v u (with_sense n) new_unit (λ x. refl) (λ x. refl)
calm_keeps lay u s t (wrote v a n ds x l f r m) = ap (λ rs. (get_or rs u new_unit).standing) r ∙ alter_rel (λ (x y : UnitRecord). y.standing ≡ x.standing) s.units v u (with_sense x) new_unit (λ x. refl) (λ x. refl)
calm_keeps lay u s t (shown r m) = ap (λ rs. (get_or rs u new_unit).standing) r ∙ ap (λ (x : UnitRecord). x.standing) (get_or-map presented s.units u new_unit)

-- Bulk commands

abbrev pub closes : Option Sense → Bool
closes option.None = false
closes (option.Some x) = true

pub barrier_closes : (st : Standing) → closes (barrier st) ≡ is_locked st
barrier_closes impersonal = refl
barrier_closes (locked p) = refl
barrier_closes (unlocked p) = refl
barrier_closes (recovering p d) = refl

-- what a command leaves of the blocks: all as they were, or some of its unit's written, which then is open
pub data Effect (p : Place) (closed : Option Sense) (c : Command) (m : List Block) (e : Ending) : Type 0 where
  none : e.blocks ≡ m → Effect p closed c m e
  some : is_writing c ≡ true → closes closed ≡ false → (a n : ℕ) (ds : List ℕ) → a + n ≤ p.count → e.blocks ≡ stored n (p.start + a) ds m → Effect p closed c m e

module _ (p : Place) (s : Sense) (total : ℕ) (d : Direction) (ds : List ℕ) (m : List Block) where
  unless_mismatched : (closed : Option Sense) (c : Command) → Effect p closed c m (moving p s c ds m) →
      Effect p closed c m (cond (mismatched total d c) (ending PhaseError [] 0 s m) (moving p s c ds m))
  unless_mismatched closed c h = cond_all (Effect p closed c m) (mismatched total d c) _ _ (none refl) h

  ranged : (closed : Option Sense) (c : Command) (a n : ℕ) (e : Ending) → (a + n ≤ p.count → Effect p closed c m e) → Effect p closed c m (unless_failed (out_of_range p.count a n) m e)
  ranged closed c a n e k =
      cond_facts (λ f. Effect p closed c m (unless_failed f m e)) (leb (a + n) p.count) _ _ (λ h. k (leb-true (a + n) p.count h)) (λ h. none refl)

  pub effect : (closed : Option Sense) (c : Command) → Effect p closed c m (performed p closed s total d c ds m)
  effect option.None TestUnitReady = unless_mismatched option.None TestUnitReady (none refl)
  effect (option.Some x) TestUnitReady = none refl
  effect closed (RequestSense n) = unless_mismatched closed (RequestSense n) (none refl)
  effect closed (Inquiry n) = unless_mismatched closed (Inquiry n) (none refl)
  effect closed ReadCapacity = unless_mismatched closed ReadCapacity (none refl)
  effect option.None (Read a n) =
      ranged option.None (Read a n) a n _ (λ f. unless_mismatched option.None (Read a n)
      (cond_all (Effect p option.None (Read a n) m) (eqb (good_run n (p.start + a) m) n) _ _ (none refl) (none refl)))
  effect (option.Some x) (Read a n) = none refl
  effect option.None (Write a n) =
      ranged option.None (Write a n) a n _ (λ f.
      let k = good_run n (p.start + a) m in
      let most : a + k ≤ p.count = omega (arith, run_most n (p.start + a) m) in
      unless_mismatched option.None (Write a n)
      (cond_all (Effect p option.None (Write a n) m) (eqb k n) _ _ (some refl refl a k ds most refl) (some refl refl a k ds most refl)))
  effect (option.Some x) (Write a n) = none refl
  effect closed (Rejected x) = none refl

module _ (lay : Layout) (s : Stick) where
  CalmC : Completed → Type 0
  CalmC o = Calm lay s o.next

  ended_calm : (v : ℕ) (c : Cbw) (e : Ending) → Effect (place_at lay v) (barrier (unit_at v s).standing) c.command s.blocks e → CalmC (ended v c e s)
  unfolding CalmC
  ended_calm v c e (none q) = noted v e.sense refl q
  ended_calm v c e (some w o a n ds f q) = wrote v a n ds e.sense (sym (barrier_closes (unit_at v s).standing) ∙ o) f refl q

  addressed_calm : (i : ℕ) (f : Option ℕ) (c : Cbw) (ds : List ℕ) → CalmC (addressed lay i f c ds s)
  unfolding CalmC
  addressed_calm i option.None c ds = still refl refl
  addressed_calm i (option.Some v) c ds = cond_all CalmC (ltb (length ds) c.total) _ _ (still refl refl)
      (ended_calm v c _ (effect (place_at lay v) (unit_at v s).sense c.total c.direction ds s.blocks (barrier (unit_at v s).standing) c.command))

  wrapped_calm : (i : ℕ) (c : Option Cbw) (ds : List ℕ) → CalmC (wrapped lay i c ds s)
  unfolding CalmC
  wrapped_calm i option.None ds = still refl refl
  wrapped_calm i (option.Some c) ds = addressed_calm i (find_unit lay i c.unit) c ds

  when_calm : (ph : Phase) (i : ℕ) (cbw ds : List ℕ) → CalmC (commanded_when ph lay i cbw ds s)
  unfolding CalmC
  when_calm phase.Present i cbw ds =
      cond_all CalmC (ltb i (length lay.counts)) _ _
      (cond_all CalmC (interface_at i s).jammed _ _ (still refl refl) (wrapped_calm i (cbw_in cbw) ds)) (still refl refl)
  when_calm (phase.Idle j t a b) i cbw ds = still refl refl
  when_calm (phase.Gone j t b) i cbw ds = still refl refl

  pub bulked_calm : (i : ℕ) (cbw ds : List ℕ) → Calm lay s (bulked lay i cbw ds s).next
  unfolding CalmC
  bulked_calm i cbw ds = when_calm s.phase i cbw ds

-- Control transfers

-- a Put to a unit, which all are but the one for an interface
abbrev pub is_unit_put : Put → Bool
is_unit_put StorePassphrase = true
is_unit_put MatchPassphrase = true
is_unit_put ChangePassphrase = true
is_unit_put ErasePassphrase = true
is_unit_put EraseForgottenPassphrase = true
is_unit_put LockAgain = true
is_unit_put ChangeInterfaceAccess = false

abbrev pub puts : Request → Bool
puts DeviceDescriptor = false
puts Bundle = false
puts (LockData a) = false
puts (HighestUnit i) = false
puts (ClearJam i) = false
puts (PutTo p a) = is_unit_put p

-- the two ways of a Put
pub put_cases : (P : Outcome → Type 0) (lay : Layout) (p : Put) (i k n : ℕ) (ds : List ℕ) (s : Stick) →
    (is_unit_put p ≡ true → P (put_to_unit (find_unit lay i k) (is_negotiable (interface_at i s).ids) (sized p n ds) s)) →
    (is_unit_put p ≡ false → P (with_interface lay i s (access_sized lay i n ds s))) → P (put lay p i k n ds s)
put_cases P lay StorePassphrase i k n ds s a b = a refl
put_cases P lay MatchPassphrase i k n ds s a b = a refl
put_cases P lay ChangePassphrase i k n ds s a b = a refl
put_cases P lay ErasePassphrase i k n ds s a b = a refl
put_cases P lay EraseForgottenPassphrase i k n ds s a b = a refl
put_cases P lay LockAgain i k n ds s a b = a refl
put_cases P lay ChangeInterfaceAccess i k n ds s a b = b refl

-- the code and the stick after a control transfer are those that were served
pub control_next : (lay : Layout) (s : Stick) (setup ds : List ℕ) → (controlled lay setup ds s).next ≡ (served lay setup ds s).next
control_next lay s setup ds = cond_all (λ (o : Rattle.model.specs.Control.Transferred). o.next ≡ (served lay setup ds s).next) (is_reading setup) _ _ refl refl

pub control_code : (lay : Layout) (s : Stick) (setup ds : List ℕ) → (controlled lay setup ds s).code ≡ (served lay setup ds s).code
control_code lay s setup ds = cond_all (λ (o : Rattle.model.specs.Control.Transferred). o.code ≡ (served lay setup ds s).code) (is_reading setup) _ _ refl refl

module _ (lay : Layout) (s : Stick) where
  CalmO : Outcome → Type 0
  CalmO o = Calm lay s o.next

  same : (r : Refusal) → CalmO (refuse r s)
  unfolding CalmO
  same r = still refl refl

  moves : (n : ℕ) (bs : List ℕ) (is : List Interface) (ph : Phase) → CalmO (outcome n bs (stick s.units is ph s.blocks))
  unfolding CalmO
  moves n bs is ph = still refl refl

  answers : (n room : ℕ) (bs : List ℕ) → CalmO (answered n room bs s)
  answers n room bs = cond_all CalmO (ltb room (length (take n bs))) _ _ (same refusal.ShortBuffer) (moves 0 (take n bs) s.interfaces s.phase)

  lock_datas : (f : Option ℕ) (i k n room : ℕ) → CalmO (tell_lock_data lay f i k n room s)
  lock_datas option.None i k n room = same refusal.Absent
  lock_datas (option.Some v) i k n room = answers n room _

  accesses : (i : ℕ) (a : Option Access) → CalmO (change_access lay i a s)
  accesses i option.None = same refusal.Malformed
  accesses i (option.Some a) =
      cond_all CalmO (not (is_negotiable a.target) && any_locked (units_of_interface lay i s.units)) _ _ (same refusal.WrongState)
      (moves 0 [] s.interfaces (phase.Idle i a.target a.idle a.gone))

  on_the_interface : (i : ℕ) (o : Outcome) → CalmO o → CalmO (with_interface lay i s o)
  on_the_interface i o h = cond_all CalmO (ltb i (length lay.counts)) _ _ h (same refusal.Absent)

  requests : (r : Request) (n : ℕ) (ds : List ℕ) → puts r ≡ false → CalmO (request lay r n ds s)
  requests DeviceDescriptor n ds e = answers n (length ds) (device_descriptor lay s.interfaces)
  requests Bundle n ds e = answers n (length ds) (bundle s.interfaces)
  requests (LockData a) n ds e = lock_datas (find_unit lay a.interface a.unit) a.interface a.unit n (length ds)
  requests (HighestUnit i) n ds e =
      on_the_interface i _ (cond_all CalmO (eqb n 1) _ _ (answers n (length ds) ((get_or lay.counts i 0 - 1) ∷ [])) (same refusal.WrongLength))
  requests (ClearJam i) n ds e =
      on_the_interface i _ (cond_all CalmO (eqb n 0 && eqb n (length ds)) _ _ (moves 0 [] (alter i Rattle.model.specs.Control.unjammed s.interfaces) s.phase) (same refusal.WrongLength))
  requests (PutTo p a) n ds e =
      put_cases CalmO lay p a.interface a.unit n ds s (λ u. absurd (true≢false (sym u ∙ e)))
      (λ u. on_the_interface a.interface _ (cond_all CalmO (eqb n 12 && eqb n (length ds)) _ _ (accesses a.interface (access_in ds)) (same refusal.WrongLength)))

  pub request_calm : (r : Request) (n : ℕ) (ds : List ℕ) → puts r ≡ false → Calm lay s (when_present s.phase s (request lay r n ds s)).next
  unfolding CalmO
  request_calm r n ds e = when_present_all CalmO s.phase s _ (same refusal.Idle) (same refusal.Gone) (requests r n ds e)

  pub unlisted_calm : Calm lay s (when_present s.phase s (refuse refusal.Unlisted s)).next
  unfolding CalmO
  unlisted_calm = when_present_all CalmO s.phase s _ (same refusal.Idle) (same refusal.Gone) (same refusal.Unlisted)

  gones : (ms i : ℕ) (t : Ids) (gone : ℕ) → Calm lay s (gone_on ms i t gone s)
  gones ms i t gone = cond_all (Calm lay s) (leb gone ms) _ _ (shown refl refl) (still refl refl)

  pub passed_calm : (ms : ℕ) (ph : Phase) → Calm lay s (passed ms ph s)
  passed_calm ms phase.Present = still refl refl
  passed_calm ms (phase.Idle i t a b) = cond_all (Calm lay s) (leb a ms) _ _ (gones (ms - a) i t b) (still refl refl)
  passed_calm ms (phase.Gone i t a) = gones ms i t a

pub power_relocks : (lay : Layout) (u : ℕ) (s : Stick) → (unit_at u (repowered lay s)).standing ≡ relocked (unit_at u s).standing
power_relocks lay u s = ap (λ (x : UnitRecord). x.standing) (get_or-map powered s.units u new_unit)
