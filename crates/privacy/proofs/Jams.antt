-- An interface is jammed exactly when a bulk command there was refused with 16, and the jam was not cleared since.
use Rattle.std.proofs.Common.{◌≡◌, ℕ, zero, suc, ◌-◌, ◌<◌, Bool, true, false, not, ◌&&◌, ◌||◌, eqb, ltb, leb, ◌⊎◌, List, [], ◌∷◌, map, length, get_or, take, Option, sym, refl, ap, ◌∙◌, subst, subst₂, inl, inr, ⊎_elim, arith}
use lib.ListN.{length-replicate, length-map}
use Rattle.std.specs.List.{range_with_len}
use Rattle.std.proofs.lemmas.List.FromFn.{length-map-range_with_len}
use Rattle.std.proofs.lemmas.Bool.{cases_eq, cases_Bool, both_ways, eq-eqb, ne_eqb, ltb-true, and_right}
use Rattle.std.specs.declared.option.Option.TheVariants as option
use Rattle.model.specs.Blocks.{Block}
use Rattle.model.specs.Bulk.{Completed, turned_down, jammed, jam, addressed, wrapped, commanded_when}
use Rattle.model.specs.Control.{Outcome, refuse, alter, find_unit, interface_at, answered, tell_lock_data, unjammed, sized, put_to_unit, change_access, request, asked, when_present, with_phase}
use Rattle.model.specs.Descriptors.{device_descriptor, bundle}
use Rattle.model.specs.Events.{Event, control, bulk, work, clock, reset, suspend, resume, power, step, after}
use Rattle.model.specs.Identities.{is_negotiable}
use Rattle.model.specs.Layouts.{Layout}
use Rattle.model.specs.Parts.{Access, access_in}
use Rattle.model.specs.Presence.{presenting, gone_on, passed}
use Rattle.model.specs.Puts.{UnitPut}
use Rattle.model.specs.Recovery.{first_recovering, worked}
use Rattle.model.specs.Requests.{requested}
use Rattle.model.specs.Sticks.{Stick, interface, units_of_interface, interface_up}
use Rattle.model.specs.Units.{any_locked}
use Rattle.model.specs.Wrappers.{cbw_in}
use Rattle.model.specs.declared.command.Cbw.{Cbw}
use Rattle.model.specs.declared.ids.Ids.{Ids}
use Rattle.model.specs.declared.ids.Ids.TheVariants.{ScsiBbb}
use Rattle.model.specs.declared.ids.Interface.{Interface}
use Rattle.model.specs.declared.ids.Phase.{Phase}
use Rattle.model.specs.declared.ids.Phase.TheVariants as phase
use Rattle.model.specs.declared.refusal.Refusal.{Refusal}
use Rattle.model.specs.declared.refusal.Refusal.TheVariants as refusal
use Rattle.model.specs.declared.request.Asked.{Asked}
use Rattle.model.specs.declared.request.Request.{Request}
use Rattle.model.specs.declared.request.Request.TheVariants.{DeviceDescriptor, Bundle, LockData, HighestUnit, ClearJam, PutTo}
use Rattle.privacy.specs.Claims.{Since}
use Rattle.privacy.specs.Causes.{is_away, jams, clears, asks_clearing, asked_clearing, JammedWhenJammed}
use Rattle.privacy.proofs.Lists.{alter_other, alter_rel, length_alter, replicate_getD}
use Rattle.privacy.proofs.Calm.{when_present_all, cond_all, cond_facts, put_cases, control_next, control_code}

abbrev plain : Interface
plain = interface ScsiBbb false

-- how an event that jams or clears, or does neither, may change a jam
record Fair (did undid before now : Bool) : Type 0 where
  to_jam : now ≡ true → (did ≡ true) ⊎ ((undid ≡ false) × (before ≡ true))
  to_free : now ≡ false → (did ≡ false) × ((undid ≡ true) ⊎ (before ≡ false))

same : (b : Bool) → Fair false false b b
same b = record { to_jam = λ h. inr (refl, h); to_free = λ h. (refl, inr h) }

kept : (b c : Bool) → c ≡ b → Fair false false b c
kept b c e = subst (Fair false false b) (sym e) (same b)

freed : (b c : Bool) → c ≡ false → Fair false true b c
freed b c e = record { to_jam = λ h. absurd (both_ways _ e h); to_free = λ h. (refl, inl refl) }

caught : (u b c : Bool) → c ≡ true → Fair true u b c
caught u b c e = record { to_jam = λ h. inl refl; to_free = λ h. absurd (both_ways _ h e) }

refused : (a b : Bool) → Fair false (a && false) b b
refused true b = same b
refused false b = same b

unjammed_by : (a b : Bool) → Fair (a && false) false b b
unjammed_by true b = same b
unjammed_by false b = same b

-- lists of interfaces
free_map : {A : Type 0} (f : A → Interface) → ((x : A) → (f x).jammed ≡ false) → (xs : List A) (i : ℕ) → (get_or (map f xs) i plain).jammed ≡ false
free_map f e [] i = refl
free_map f e (x ∷ xs) zero = e x
free_map f e (x ∷ xs) (suc i) = free_map f e xs i

free_alter : (is : List Interface) (i : ℕ) → (get_or (alter i unjammed is) i plain).jammed ≡ false
free_alter [] i = refl
free_alter (x ∷ is) zero = refl
free_alter (x ∷ is) (suc i) = free_alter is i

caught_alter : (is : List Interface) (i : ℕ) → i < length is → (get_or (alter i jammed is) i plain).jammed ≡ true
caught_alter [] i h = absurd (omega arith)
caught_alter (x ∷ is) zero h = refl
caught_alter (x ∷ is) (suc i) h = caught_alter is i (omega arith)

-- Control transfers

-- what a request leaves of the interfaces: all, or one with its jam cleared
module _ (lay : Layout) (s : Stick) where
  SameI : Outcome → Type 0
  SameI o = o.next.interfaces ≡ s.interfaces

  answered_same : (n room : ℕ) (bs : List ℕ) → SameI (answered n room bs s)
  unfolding SameI
  answered_same n room bs = cond_all SameI (ltb room (length (take n bs))) _ _ refl refl

  lock_data_same : (f : Option ℕ) (i k n room : ℕ) → SameI (tell_lock_data lay f i k n room s)
  unfolding SameI
  lock_data_same option.None i k n room = refl
  lock_data_same (option.Some v) i k n room = answered_same n room _

  unit_same : (f : Option ℕ) (n : Bool) (p : UnitPut) → SameI (put_to_unit f n p s)
  unfolding SameI
  unit_same option.None n p = refl
  unit_same (option.Some v) n p = refl

  access_same : (i : ℕ) (a : Option Access) → SameI (change_access lay i a s)
  unfolding SameI
  access_same i option.None = refl
  access_same i (option.Some a) = cond_all SameI (not (is_negotiable a.target) && any_locked (units_of_interface lay i s.units)) _ _ refl refl

  module _ (i : ℕ) where
    FairO : Bool → Outcome → Type 0
    FairO kind o = Fair false (kind && eqb o.code 0) (interface_at i s).jammed (interface_at i o.next).jammed

    calm_fair : (o : Outcome) → SameI o → FairO false o
    unfolding FairO SameI
    calm_fair o e = kept _ _ (ap (λ (is : List Interface). (get_or is i plain).jammed) e)

    refuse_fair : (kind : Bool) (r : Refusal) → eqb (Rattle.model.specs.Refusals.refusal_number r) 0 ≡ false → FairO kind (refuse r s)
    unfolding FairO
    refuse_fair kind r e = rw e (refused kind (interface_at i s).jammed)

    clear_fair : (k : ℕ) → Fair false (eqb k i && true) (interface_at i s).jammed (get_or (alter k unjammed s.interfaces) i plain).jammed
    clear_fair k = ⊎_elim
        (λ e. subst (λ j. Fair false (eqb j i && true) (interface_at i s).jammed (get_or (alter j unjammed s.interfaces) i plain).jammed) (sym e)
        (rw (eq-eqb i i refl) (freed _ _ (free_alter s.interfaces i))))
        (λ ne. rw (ne_eqb k i ne) (kept _ _ (ap (λ (x : Interface). x.jammed) (alter_other s.interfaces k i unjammed plain ne))))
        (cases_eq k i)

    request_fair : (r : Request) (n : ℕ) (ds : List ℕ) → FairO (asks_clearing i r) (request lay r n ds s)
    unfolding FairO SameI
    request_fair DeviceDescriptor n ds = calm_fair (request lay DeviceDescriptor n ds s) (answered_same n (length ds) (device_descriptor lay s.interfaces))
    request_fair Bundle n ds = calm_fair (request lay Bundle n ds s) (answered_same n (length ds) (bundle s.interfaces))
    request_fair (LockData a) n ds = calm_fair (request lay (LockData a) n ds s) (lock_data_same (find_unit lay a.interface a.unit) a.interface a.unit n (length ds))
    request_fair (HighestUnit j) n ds =
        calm_fair (request lay (HighestUnit j) n ds s) (cond_all SameI (ltb j (length lay.counts)) _ _ (cond_all SameI (eqb n 1) _ _ (answered_same n (length ds) ((get_or lay.counts j 0 - 1) ∷ [])) refl) refl)
    request_fair (ClearJam j) n ds =
        cond_all (FairO (eqb j i)) (ltb j (length lay.counts)) _ _
        (cond_all (FairO (eqb j i)) (eqb n 0 && eqb n (length ds)) _ _ (clear_fair j) (refuse_fair (eqb j i) refusal.WrongLength refl)) (refuse_fair (eqb j i) refusal.Absent refl)
    request_fair (PutTo p a) n ds =
        calm_fair (request lay (PutTo p a) n ds s) (put_cases SameI lay p a.interface a.unit n ds s (λ e. unit_same (find_unit lay a.interface a.unit) (is_negotiable (interface_at a.interface s).ids) (sized p n ds))
        (λ e. cond_all SameI (ltb a.interface (length lay.counts)) _ _ (cond_all SameI (eqb n 12 && eqb n (length ds)) _ _ (access_same a.interface (access_in ds)) refl) refl))

    asked_fair : (o : Option Asked) (ds : List ℕ) → FairO (asked_clearing i o) (asked lay o ds s)
    unfolding FairO
    asked_fair option.None ds = same (interface_at i s).jammed
    asked_fair (option.Some a) ds = request_fair a.request a.length ds

    served_fair : (o : Option Asked) (ds : List ℕ) → FairO (asked_clearing i o) (when_present s.phase s (asked lay o ds s))
    served_fair o ds = when_present_all (FairO (asked_clearing i o)) s.phase s _ (refuse_fair (asked_clearing i o) refusal.Idle refl) (refuse_fair (asked_clearing i o) refusal.Gone refl) (asked_fair o ds)

    -- Bulk commands

    FairC : ℕ → Completed → Type 0
    FairC k o = Fair (eqb k i && eqb o.code 16) false (interface_at i s).jammed (interface_at i o.next).jammed

    down_fair : (k : ℕ) (r : Refusal) → eqb (Rattle.model.specs.Refusals.refusal_number r) 16 ≡ false → FairC k (turned_down r s)
    unfolding FairC
    down_fair k r e = rw e (unjammed_by (eqb k i) (interface_at i s).jammed)

    jam_fair : (k : ℕ) → k < length s.interfaces → FairC k (jam k s)
    unfolding FairC
    jam_fair k h = ⊎_elim
        (λ e. subst (λ j. Fair (eqb j i && true) false (interface_at i s).jammed (get_or (alter j jammed s.interfaces) i plain).jammed) (sym e)
        (rw (eq-eqb i i refl) (caught _ _ _ (caught_alter s.interfaces i (subst (λ j. j < length s.interfaces) e h)))))
        (λ ne. rw (ne_eqb k i ne) (kept _ _ (ap (λ (x : Interface). x.jammed) (alter_other s.interfaces k i jammed plain ne))))
        (cases_eq k i)

    addressed_fair : (k : ℕ) → k < length s.interfaces → (f : Option ℕ) (c : Cbw) (ds : List ℕ) → FairC k (addressed lay k f c ds s)
    unfolding FairC
    addressed_fair k h option.None c ds = jam_fair k h
    addressed_fair k h (option.Some v) c ds = cond_all (FairC k) (ltb (length ds) c.total) _ _ (down_fair k refusal.ShortBuffer refl) (unjammed_by (eqb k i) (interface_at i s).jammed)

    wrapped_fair : (k : ℕ) → k < length s.interfaces → (c : Option Cbw) (ds : List ℕ) → FairC k (wrapped lay k c ds s)
    wrapped_fair k h option.None ds = jam_fair k h
    wrapped_fair k h (option.Some c) ds = addressed_fair k h (find_unit lay k c.unit) c ds

    when_fair : length s.interfaces ≡ length lay.counts → (ph : Phase) (k : ℕ) (cbw ds : List ℕ) → FairC k (commanded_when ph lay k cbw ds s)
    when_fair n phase.Present k cbw ds =
        cond_facts (FairC k) (ltb k (length lay.counts)) _ _
        (λ e. cond_all (FairC k) (interface_at k s).jammed _ _ (down_fair k refusal.Jammed refl) (wrapped_fair k (subst (λ l. k < l) (sym n) (ltb-true k (length lay.counts) e)) (cbw_in cbw) ds))
        (λ e. down_fair k refusal.Absent refl)
    when_fair n (phase.Idle j t a b) k cbw ds = down_fair k refusal.Idle refl
    when_fair n (phase.Gone j t b) k cbw ds = down_fair k refusal.Gone refl

    -- The clock

    FairT : Stick → Type 0
    FairT t = Fair false (is_away s.phase && not (is_away t.phase) || false) (interface_at i s).jammed (interface_at i t).jammed

    away_fair : (t : Stick) → t.interfaces ≡ s.interfaces → is_away t.phase ≡ true → FairT t
    unfolding FairT
    away_fair t e a = rw (a, and_right (is_away s.phase) false refl) (kept _ _ (ap (λ (is : List Interface). (get_or is i plain).jammed) e))

    present_fair : (k : ℕ) (t : Ids) → is_away s.phase ≡ true → FairT (presenting k t s)
    unfolding FairT
    present_fair k t a =
        rw a (freed _ _ (alter_rel (λ (x y : Interface). x.jammed ≡ false → y.jammed ≡ false) (map unjammed s.interfaces) k i (λ x. interface t false) plain (λ x h. h) (λ x h. refl)
        (free_map unjammed (λ x. refl) s.interfaces i)))

    gone_fair : (ms k : ℕ) (t : Ids) (y : ℕ) → is_away s.phase ≡ true → FairT (gone_on ms k t y s)
    gone_fair ms k t y a = cond_all FairT (leb y ms) _ _ (present_fair k t a) (away_fair (with_phase (phase.Gone k t (y - ms)) s) refl refl)

    passed_fair : (ms : ℕ) (ph : Phase) → s.phase ≡ ph → FairT (passed ms ph s)
    unfolding FairT
    passed_fair ms phase.Present e = rw (ap is_away e) (same (interface_at i s).jammed)
    passed_fair ms (phase.Idle k t x y) e = cond_all FairT (leb x ms) _ _ (gone_fair (ms - x) k t y (ap is_away e)) (away_fair (with_phase (phase.Idle k t (x - ms) y) s) refl refl)
    passed_fair ms (phase.Gone k t y) e = gone_fair ms k t y (ap is_away e)

    worked_same : (interface_at i (worked lay s)).jammed ≡ (interface_at i s).jammed
    worked_same = cond_all (λ (t : Stick). (interface_at i t).jammed ≡ (interface_at i s).jammed) (ltb (first_recovering s.units) (length s.units)) _ _ refl refl

FairEvent : Layout → ℕ → Stick → Event → Type 0
FairEvent lay i s e = Fair (jams lay i s e) (clears lay i s e) (interface_at i s).jammed (interface_at i (step lay s e).next).jammed

step_fair : (lay : Layout) (i : ℕ) (s : Stick) (e : Event) → length s.interfaces ≡ length lay.counts → FairEvent lay i s e
unfolding FairEvent FairO FairC FairT
step_fair lay i s (control setup ds) n =
    subst₂ (λ (c : ℕ) (t : Stick). Fair false (asked_clearing i (requested setup) && eqb c 0) (interface_at i s).jammed (interface_at i t).jammed)
    (sym (control_code lay s setup ds)) (sym (control_next lay s setup ds)) (served_fair lay s i (requested setup) ds)
step_fair lay i s (bulk k cbw ds) n = when_fair lay s i n s.phase k cbw ds
step_fair lay i s work n = kept _ _ (worked_same lay s i)
step_fair lay i s (clock ms) n = passed_fair lay s i ms s.phase refl
step_fair lay i s reset n = freed _ _ (free_map unjammed (λ x. refl) s.interfaces i)
step_fair lay i s suspend n = same _
step_fair lay i s resume n = same _
step_fair lay i s power n = freed _ _ (free_map (interface_up lay s.units) (λ x. refl) (range_with_len 0 (length lay.counts)) i)

-- there are as many interfaces as the layout says

module _ (lay : Layout) (s : Stick) where
  AsMany : Stick → Type 0
  AsMany t = length t.interfaces ≡ length s.interfaces

  unless_clearing : (o : Outcome) → SameI lay s o → AsMany o.next
  unfolding AsMany SameI
  unless_clearing o e = ap length e

  many_request : (r : Request) (n : ℕ) (ds : List ℕ) → AsMany (request lay r n ds s).next
  unfolding AsMany SameI
  many_request DeviceDescriptor n ds = unless_clearing (request lay DeviceDescriptor n ds s) (answered_same lay s n (length ds) (device_descriptor lay s.interfaces))
  many_request Bundle n ds = unless_clearing (request lay Bundle n ds s) (answered_same lay s n (length ds) (bundle s.interfaces))
  many_request (LockData a) n ds = unless_clearing (request lay (LockData a) n ds s) (lock_data_same lay s (find_unit lay a.interface a.unit) a.interface a.unit n (length ds))
  many_request (HighestUnit j) n ds =
      unless_clearing (request lay (HighestUnit j) n ds s) (cond_all (SameI lay s) (ltb j (length lay.counts)) _ _ (cond_all (SameI lay s) (eqb n 1) _ _ (answered_same lay s n (length ds) ((get_or lay.counts j 0 - 1) ∷ [])) refl) refl)
  many_request (ClearJam j) n ds =
      cond_all (λ (o : Outcome). AsMany o.next) (ltb j (length lay.counts)) _ _
      (cond_all (λ (o : Outcome). AsMany o.next) (eqb n 0 && eqb n (length ds)) _ _ (length_alter s.interfaces j unjammed) refl) refl
  many_request (PutTo p a) n ds =
      unless_clearing (request lay (PutTo p a) n ds s) (put_cases (SameI lay s) lay p a.interface a.unit n ds s (λ e. unit_same lay s (find_unit lay a.interface a.unit) (is_negotiable (interface_at a.interface s).ids) (sized p n ds))
      (λ e. cond_all (SameI lay s) (ltb a.interface (length lay.counts)) _ _ (cond_all (SameI lay s) (eqb n 12 && eqb n (length ds)) _ _ (access_same lay s a.interface (access_in ds)) refl) refl))

  many_asked : (o : Option Asked) (ds : List ℕ) → AsMany (asked lay o ds s).next
  unfolding AsMany
  many_asked option.None ds = refl
  many_asked (option.Some a) ds = many_request a.request a.length ds

  many_addressed : (k : ℕ) (f : Option ℕ) (c : Cbw) (ds : List ℕ) → AsMany (addressed lay k f c ds s).next
  unfolding AsMany
  many_addressed k option.None c ds = length_alter s.interfaces k jammed
  many_addressed k (option.Some v) c ds = cond_all (λ (o : Completed). AsMany o.next) (ltb (length ds) c.total) _ _ refl refl

  many_wrapped : (k : ℕ) (c : Option Cbw) (ds : List ℕ) → AsMany (wrapped lay k c ds s).next
  unfolding AsMany
  many_wrapped k option.None ds = length_alter s.interfaces k jammed
  many_wrapped k (option.Some c) ds = many_addressed k (find_unit lay k c.unit) c ds

  many_when : (ph : Phase) (k : ℕ) (cbw ds : List ℕ) → AsMany (commanded_when ph lay k cbw ds s).next
  unfolding AsMany
  many_when phase.Present k cbw ds =
      cond_all (λ (o : Completed). AsMany o.next) (ltb k (length lay.counts)) _ _
      (cond_all (λ (o : Completed). AsMany o.next) (interface_at k s).jammed _ _ refl (many_wrapped k (cbw_in cbw) ds)) refl
  many_when (phase.Idle j t a b) k cbw ds = refl
  many_when (phase.Gone j t b) k cbw ds = refl

  many_gone : (ms k : ℕ) (t : Ids) (y : ℕ) → AsMany (gone_on ms k t y s)
  unfolding AsMany
  many_gone ms k t y = cond_all AsMany (leb y ms) _ _ (length_alter (map unjammed s.interfaces) k (λ x. interface t false) ∙ length-map s.interfaces unjammed) refl

  many_passed : (ms : ℕ) (ph : Phase) → AsMany (passed ms ph s)
  unfolding AsMany
  many_passed ms phase.Present = refl
  many_passed ms (phase.Idle k t x y) = cond_all AsMany (leb x ms) _ _ (many_gone (ms - x) k t y) refl
  many_passed ms (phase.Gone k t y) = many_gone ms k t y

  many : (e : Event) → length s.interfaces ≡ length lay.counts → length (step lay s e).next.interfaces ≡ length lay.counts
  unfolding AsMany
  many (control setup ds) n = ap (λ (t : Stick). length t.interfaces) (control_next lay s setup ds) ∙ when_present_all (λ o. AsMany o.next) s.phase s _ refl refl (many_asked (requested setup) ds) ∙ n
  many (bulk k cbw ds) n = many_when s.phase k cbw ds ∙ n
  many work n = cond_all AsMany (ltb (first_recovering s.units) (length s.units)) _ _ refl refl ∙ n
  many (clock ms) n = many_passed ms s.phase ∙ n
  many reset n = length-map s.interfaces unjammed ∙ n
  many suspend n = n
  many resume n = n
  many power n = length-map-range_with_len (interface_up lay s.units) 0 (length lay.counts)

pub all_there : (lay : Layout) (m : List Block) (h : List Event) → length (after lay m h).interfaces ≡ length lay.counts
all_there lay m [] = length-replicate (length lay.counts) plain
all_there lay m (e ∷ past) = many lay (after lay m past) e (all_there lay m past)

-- over a whole history
record Fits (lay : Layout) (m : List Block) (i : ℕ) (h : List Event) : Type 0 where
  caught_since : (interface_at i (after lay m h)).jammed ≡ true → Since (λ past e. jams lay i (after lay m past) e) (λ past e. clears lay i (after lay m past) e) h
  free_since : (interface_at i (after lay m h)).jammed ≡ false → Since (λ past e. jams lay i (after lay m past) e) (λ past e. clears lay i (after lay m past) e) h → ⊥

fits_more : (lay : Layout) (m : List Block) (i : ℕ) (e : Event) (past : List Event) → FairEvent lay i (after lay m past) e → Fits lay m i past → Fits lay m i (e ∷ past)
unfolding FairEvent
fits_more lay m i e past f b = record {
  caught_since = λ k. ⊎_elim (λ o. inl o) (λ c. inr (c.0, b.caught_since c.1)) (f.to_jam k);
  free_since = λ k o. ⊎_elim (λ did. both_ways _ (f.to_free k).0 did)
      (λ c. ⊎_elim (λ cl. both_ways _ c.0 cl) (λ lk. b.free_since lk c.1) (f.to_free k).1) o;
}

fits_all : (lay : Layout) (m : List Block) (i : ℕ) (h : List Event) → Fits lay m i h
fits_all lay m i [] = record {
  caught_since = λ k. absurd (both_ways _ (ap (λ (x : Interface). x.jammed) (replicate_getD (length lay.counts) i plain)) k);
  free_since = λ k o. o;
}
fits_all lay m i (e ∷ past) = fits_more lay m i e past (step_fair lay i (after lay m past) e (all_there lay m past)) (fits_all lay m i past)

pub jammed_when_jammed : JammedWhenJammed
jammed_when_jammed lay m h i =
    let f = fits_all lay m i h in
    (f.caught_since, λ o. ⊎_elim (λ k. k) (λ k. absurd (f.free_since k o)) (cases_Bool (interface_at i (after lay m h)).jammed))
