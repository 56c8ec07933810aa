-- Which blocks an event can change, and that number and marks stay.
use Rattle.std.proofs.Common.{◌≡◌, ℕ, zero, suc, ◌+◌, ◌-◌, ◌*◌, ◌<◌, ◌≤◌, min, Bool, true, false, cond, not, ◌&&◌, eqb, ltb, leb, ◌⊎◌, List, [], ◌∷◌, length, get_or, take, drop, set, Option, sym, refl, ap, ◌∙◌, subst, inl, inr, ⊎_elim, arith, length-set}
use Rattle.std.proofs.lemmas.Bool.{cases_eq, cases_Bool, and_parts, ltb-true, eq-eqb, and_from}
use Rattle.std.proofs.lemmas.List.{get_or-set_same, get_or-set_other}
use Rattle.std.specs.declared.option.Option.TheVariants as option
use Rattle.model.specs.Blocks.{Block, bad, good, replaced, reaches, written}
use Rattle.model.specs.Bulk.{Completed, place_at, ended, addressed, wrapped, commanded_when, commanded}
use Rattle.model.specs.Commands.{stored, barrier, Ending}
use Rattle.model.specs.Control.{Outcome, unit_at, interface_at, find_unit, answered, tell_lock_data, sized, put_to_unit, change_access, request, asked}
use Rattle.model.specs.Descriptors.{device_descriptor, bundle}
use Rattle.model.specs.Events.{Event, control, bulk, work, clock, reset, suspend, resume, power, step, after}
use Rattle.model.specs.Identities.{is_negotiable}
use Rattle.model.specs.Layouts.{Layout}
use Rattle.model.specs.Parts.{Access, access_in}
use Rattle.model.specs.Presence.{gone_on, passed}
use Rattle.model.specs.Recovery.{zeroed_block, zeroed, is_recovering, steps_done_of, first_recovering, worked}
use Rattle.model.specs.Requests.{requested}
use Rattle.model.specs.Sticks.{Stick, units_of_interface}
use Rattle.model.specs.Units.{UnitRecord, new_unit, is_locked, any_locked}
use Rattle.model.specs.Wrappers.{cbw_in}
use Rattle.model.specs.declared.command.Cbw.{Cbw}
use Rattle.model.specs.declared.ids.Ids.{Ids}
use Rattle.model.specs.declared.ids.Phase.{Phase}
use Rattle.model.specs.declared.ids.Phase.TheVariants as phase
use Rattle.model.specs.declared.request.Asked.{Asked}
use Rattle.model.specs.declared.request.Request.{Request}
use Rattle.model.specs.declared.request.Request.TheVariants.{DeviceDescriptor, Bundle, LockData, HighestUnit, ClearJam, PutTo}
use Rattle.privacy.specs.Claims.{is_bad_block}
use Rattle.privacy.specs.Causes.{MarksKept, MarksStay, write_for, Holds, Touches, by_write, by_recovery, BlocksStay, UnitBlocksStay, OnMedium}
use Rattle.privacy.proofs.Lists.{zeroed_getD, length_zeroed}
use Rattle.privacy.proofs.Places.{Disjoint, fit_disjoint, held_below}
use Rattle.privacy.proofs.Respects.{zeroed_in, where_is}
use Rattle.privacy.proofs.Calm.{when_present_all, cond_all, cond_facts, put_cases, control_next, barrier_closes, Effect, none, some, effect}

-- Blocks that are written

written_other : (m : List Block) (at : ℕ) (bs : List ℕ) (b : ℕ) → (b ≡ at → ⊥) → get_or (written m at bs) b bad ≡ get_or m b bad
written_other m at bs b ne = cond_all (λ (x : List Block). get_or x b bad ≡ get_or m b bad) (reaches m at (length bs)) _ _ (get_or-set_other m at b (replaced (get_or m at bad) bs) bad ne) refl

not_at : (b at n : ℕ) → (b < at) ⊎ (at + suc n ≤ b) → b ≡ at → ⊥
not_at b at n (inl h) e = omega arith
not_at b at n (inr h) e = omega arith

rest_at : (b at n : ℕ) → (b < at) ⊎ (at + suc n ≤ b) → (b < suc at) ⊎ (suc at + n ≤ b)
rest_at b at n (inl h) = inl (omega arith)
rest_at b at n (inr h) = inr (omega arith)

pub stored_other : (n at : ℕ) (ds : List ℕ) (m : List Block) (b : ℕ) → (b < at) ⊎ (at + n ≤ b) → get_or (stored n at ds m) b bad ≡ get_or m b bad
stored_other zero at ds m b out = refl
stored_other (suc n) at ds m b out =
    stored_other n (suc at) (drop 512 ds) (written m at (take 512 ds)) b (rest_at b at n out) ∙ written_other m at (take 512 ds) b (not_at b at n out)

-- Number and marks

kept : (m : List Block) → MarksKept m m
kept m = record { number = refl; marks = λ b. refl }

kept_more : (l m n : List Block) → MarksKept l m → MarksKept m n → MarksKept l n
kept_more l m n x y = record { number = y.number ∙ x.number; marks = λ b. y.marks b ∙ x.marks b }

replaced_mark : (x : Block) (bs : List ℕ) → is_bad_block (replaced x bs) ≡ is_bad_block x
replaced_mark bad bs = refl
replaced_mark (good old) bs = refl

zeroed_mark : (x : Block) → is_bad_block (zeroed_block x) ≡ is_bad_block x
zeroed_mark bad = refl
zeroed_mark (good bs) = refl

set_kept : (m : List Block) (at : ℕ) (bs : List ℕ) → at < length m → MarksKept m (set m at (replaced (get_or m at bad) bs))
set_kept m at bs h = record {
  number = length-set m at (replaced (get_or m at bad) bs);
  marks = λ b. ⊎_elim
      (λ e. subst (λ k. is_bad_block (get_or (set m at (replaced (get_or m at bad) bs)) k bad) ≡ is_bad_block (get_or m k bad)) (sym e)
      (ap is_bad_block (get_or-set_same m at (replaced (get_or m at bad) bs) bad h) ∙ replaced_mark (get_or m at bad) bs))
      (λ ne. ap is_bad_block (get_or-set_other m at b (replaced (get_or m at bad) bs) bad ne))
      (cases_eq b at);
}

written_kept : (m : List Block) (at : ℕ) (bs : List ℕ) → MarksKept m (written m at bs)
written_kept m at bs =
    cond_facts (MarksKept m) (reaches m at (length bs)) _ _ (λ e. set_kept m at bs (ltb-true at (length m) (and_parts (ltb at (length m)) (eqb (length bs) 512) e).0)) (λ e. kept m)

stored_kept : (n at : ℕ) (ds : List ℕ) (m : List Block) → MarksKept m (stored n at ds m)
stored_kept zero at ds m = kept m
stored_kept (suc n) at ds m = kept_more m (written m at (take 512 ds)) _ (written_kept m at (take 512 ds)) (stored_kept n (suc at) (drop 512 ds) (written m at (take 512 ds)))

zeroed_kept : (m : List Block) (s n : ℕ) → MarksKept m (zeroed s n m)
zeroed_kept m s n = record {
  number = length_zeroed m s n;
  marks = λ b. ⊎_elim
      (λ h. ap is_bad_block (zeroed_in m s n b h.0 h.1) ∙ zeroed_mark (get_or m b bad))
      (λ h. ap is_bad_block (zeroed_getD m s n b bad h))
      (where_is s n b);
}

-- A control transfer leaves the blocks

module _ (lay : Layout) (s : Stick) where
  Same : Outcome → Type 0
  Same o = o.next.blocks ≡ s.blocks

  answered_same : (n room : ℕ) (bs : List ℕ) → Same (answered n room bs s)
  unfolding Same
  answered_same n room bs = cond_all Same (ltb room (length (take n bs))) _ _ refl refl

  lock_data_same : (f : Option ℕ) (i k n room : ℕ) → Same (tell_lock_data lay f i k n room s)
  unfolding Same
  lock_data_same option.None i k n room = refl
  lock_data_same (option.Some v) i k n room = answered_same n room _

  access_same : (i : ℕ) (a : Option Access) → Same (change_access lay i a s)
  unfolding Same
  access_same i option.None = refl
  access_same i (option.Some a) = cond_all Same (not (is_negotiable a.target) && any_locked (units_of_interface lay i s.units)) _ _ refl refl

  unit_same : (f : Option ℕ) (n : Bool) (p : Rattle.model.specs.Puts.UnitPut) → Same (put_to_unit f n p s)
  unfolding Same
  unit_same option.None n p = refl
  unit_same (option.Some v) n p = refl

  request_same : (r : Request) (n : ℕ) (ds : List ℕ) → Same (request lay r n ds s)
  unfolding Same
  request_same DeviceDescriptor n ds = answered_same n (length ds) (device_descriptor lay s.interfaces)
  request_same Bundle n ds = answered_same n (length ds) (bundle s.interfaces)
  request_same (LockData a) n ds = lock_data_same (find_unit lay a.interface a.unit) a.interface a.unit n (length ds)
  request_same (HighestUnit i) n ds = cond_all Same (ltb i (length lay.counts)) _ _ (cond_all Same (eqb n 1) _ _ (answered_same n (length ds) ((get_or lay.counts i 0 - 1) ∷ [])) refl) refl
  request_same (ClearJam i) n ds = cond_all Same (ltb i (length lay.counts)) _ _ (cond_all Same (eqb n 0 && eqb n (length ds)) _ _ refl refl) refl
  request_same (PutTo p a) n ds =
      put_cases Same lay p a.interface a.unit n ds s (λ e. unit_same (find_unit lay a.interface a.unit) (is_negotiable (interface_at a.interface s).ids) (sized p n ds))
      (λ e. cond_all Same (ltb a.interface (length lay.counts)) _ _ (cond_all Same (eqb n 12 && eqb n (length ds)) _ _ (access_same a.interface (access_in ds)) refl) refl)

  asked_same : (o : Option Asked) (ds : List ℕ) → Same (asked lay o ds s)
  unfolding Same
  asked_same option.None ds = refl
  asked_same (option.Some a) ds = request_same a.request a.length ds

  pub control_same : (setup ds : List ℕ) → (step lay s (control setup ds)).next.blocks ≡ s.blocks
  unfolding Same
  control_same setup ds = ap (λ (t : Stick). t.blocks) (control_next lay s setup ds) ∙ when_present_all Same s.phase s _ refl refl (asked_same (requested setup) ds)

  gone_same : (ms i : ℕ) (t : Ids) (a : ℕ) → (gone_on ms i t a s).blocks ≡ s.blocks
  gone_same ms i t a = cond_all (λ (x : Stick). x.blocks ≡ s.blocks) (leb a ms) _ _ refl refl

  pub clock_same : (ms : ℕ) (ph : Phase) → (passed ms ph s).blocks ≡ s.blocks
  clock_same ms phase.Present = refl
  clock_same ms (phase.Idle i t a b) = cond_all (λ (x : Stick). x.blocks ≡ s.blocks) (leb a ms) _ _ (gone_same (ms - a) i t b) refl
  clock_same ms (phase.Gone i t a) = gone_same ms i t a

-- A bulk command leaves them, or writes some of an open unit's

data Bulky (lay : Layout) (s : Stick) (i : ℕ) (c : Option Cbw) (o : Completed) : Type 0 where
  leaves : o.next.blocks ≡ s.blocks → Bulky lay s i c o
  writes : (v a n : ℕ) (ds : List ℕ) → write_for lay v i c ≡ true → o.code ≡ 0 → is_locked (unit_at v s).standing ≡ false → a + n ≤ (place_at lay v).count →
      o.next.blocks ≡ stored n ((place_at lay v).start + a) ds s.blocks → Bulky lay s i c o

module _ (lay : Layout) (s : Stick) (i : ℕ) where
  ended_bulky : (v : ℕ) (c : Cbw) (f : find_unit lay i c.unit ≡ option.Some v) (e : Ending) → Effect (place_at lay v) (barrier (unit_at v s).standing) c.command s.blocks e →
      Bulky lay s i (option.Some c) (ended v c e s)
  ended_bulky v c f e (none q) = leaves q
  ended_bulky v c f e (some w o a n ds h q) =
      writes v a n ds (and_from _ _ (ap (λ x. Rattle.privacy.specs.Claims.is_unit x v) f ∙ eq-eqb v v refl) w) refl (sym (barrier_closes (unit_at v s).standing) ∙ o) h q

  addressed_bulky : (g : Option ℕ) (c : Cbw) (ds : List ℕ) → find_unit lay i c.unit ≡ g → Bulky lay s i (option.Some c) (addressed lay i g c ds s)
  addressed_bulky option.None c ds f = leaves refl
  addressed_bulky (option.Some v) c ds f =
      cond_all (Bulky lay s i (option.Some c)) (ltb (length ds) c.total) _ _ (leaves refl)
      (ended_bulky v c f _ (effect (place_at lay v) (unit_at v s).sense c.total c.direction ds s.blocks (barrier (unit_at v s).standing) c.command))

  wrapped_bulky : (c : Option Cbw) (ds : List ℕ) → Bulky lay s i c (wrapped lay i c ds s)
  wrapped_bulky option.None ds = leaves refl
  wrapped_bulky (option.Some c) ds = addressed_bulky (find_unit lay i c.unit) c ds refl

  when_bulky : (ph : Phase) (cbw ds : List ℕ) → Bulky lay s i (cbw_in cbw) (commanded_when ph lay i cbw ds s)
  when_bulky phase.Present cbw ds =
      cond_all (Bulky lay s i (cbw_in cbw)) (ltb i (length lay.counts)) _ _
      (cond_all (Bulky lay s i (cbw_in cbw)) (interface_at i s).jammed _ _ (leaves refl) (wrapped_bulky (cbw_in cbw) ds)) (leaves refl)
  when_bulky (phase.Idle j t a b) cbw ds = leaves refl
  when_bulky (phase.Gone j t b) cbw ds = leaves refl

-- Number and marks, over a run

bulky_kept : (lay : Layout) (s : Stick) (i : ℕ) (c : Option Cbw) (o : Completed) → Bulky lay s i c o → MarksKept s.blocks o.next.blocks
bulky_kept lay s i c o (leaves q) = subst (MarksKept s.blocks) (sym q) (kept s.blocks)
bulky_kept lay s i c o (writes v a n ds w z l h q) = subst (MarksKept s.blocks) (sym q) (stored_kept n ((place_at lay v).start + a) ds s.blocks)

step_kept : (lay : Layout) (s : Stick) (e : Event) → MarksKept s.blocks (step lay s e).next.blocks
step_kept lay s (control setup ds) = subst (MarksKept s.blocks) (sym (control_same lay s setup ds)) (kept s.blocks)
step_kept lay s (bulk i cbw ds) = bulky_kept lay s i (cbw_in cbw) _ (when_bulky lay s i s.phase cbw ds)
step_kept lay s work =
    cond_all (λ (t : Stick). MarksKept s.blocks t.blocks) (ltb (first_recovering s.units) (length s.units)) _ _ (zeroed_kept s.blocks _ _) (kept s.blocks)
step_kept lay s (clock ms) = subst (MarksKept s.blocks) (sym (clock_same lay s ms s.phase)) (kept s.blocks)
step_kept lay s reset = kept s.blocks
step_kept lay s suspend = kept s.blocks
step_kept lay s resume = kept s.blocks
step_kept lay s power = kept s.blocks

pub marks_stay : MarksStay
marks_stay lay m [] = kept m
marks_stay lay m (e ∷ past) = kept_more m (after lay m past).blocks _ (marks_stay lay m past) (step_kept lay (after lay m past) e)

-- Blocks that an event changes

bulky_stay : (lay : Layout) (s : Stick) (i : ℕ) (cbw ds : List ℕ) (b : ℕ) → Bulky lay s i (cbw_in cbw) (commanded lay i cbw ds s) →
    (get_or (step lay s (bulk i cbw ds)).next.blocks b bad ≡ get_or s.blocks b bad) ⊎ ((u : ℕ) × Holds lay u b × Touches lay u s (bulk i cbw ds))
bulky_stay lay s i cbw ds b (leaves q) = inl (ap (λ (m : List Block). get_or m b bad) q)
bulky_stay lay s i cbw ds b (writes v a n xs w z l h q) = ⊎_elim
    (λ k. inr (v, (omega arith, omega arith), by_write w z l))
    (λ k. inl (ap (λ (m : List Block). get_or m b bad) q ∙ stored_other n ((place_at lay v).start + a) xs s.blocks b k))
    (where_is ((place_at lay v).start + a) n b)

-- the first recovering unit is recovering
pub first_recovers : (us : List UnitRecord) → first_recovering us < length us → is_recovering (get_or us (first_recovering us) new_unit).standing ≡ true
first_recovers [] h = absurd (omega arith)
first_recovers (u ∷ us) h =
    ⊎_elim
    (λ e. subst (λ b. is_recovering (get_or (u ∷ us) (cond b 0 (suc (first_recovering us))) new_unit).standing ≡ true) (sym e) e)
    (λ e. subst (λ b. is_recovering (get_or (u ∷ us) (cond b 0 (suc (first_recovering us))) new_unit).standing ≡ true) (sym e)
    (first_recovers us (below (subst (λ b. cond b 0 (suc (first_recovering us)) < suc (length us)) e h))))
    (cases_Bool (is_recovering u.standing))
  where
    below : suc (first_recovering us) < suc (length us) → first_recovering us < length us
    below g = omega arith

work_stay : (lay : Layout) (s : Stick) (b : ℕ) → (get_or (worked lay s).blocks b bad ≡ get_or s.blocks b bad) ⊎ ((u : ℕ) × Holds lay u b × Touches lay u s work)
work_stay lay s b =
    cond_facts (λ (t : Stick). (get_or t.blocks b bad ≡ get_or s.blocks b bad) ⊎ ((u : ℕ) × Holds lay u b × Touches lay u s work)) (ltb v (length s.units)) _ s
    (λ e. ⊎_elim
    (λ k. inr (v, (omega arith, omega arith), by_recovery (and_from _ _ (first_recovers s.units (ltb-true v (length s.units) e)) (eq-eqb v v refl))))
    (λ k. inl (zeroed_getD s.blocks ((place_at lay v).start + 16 * d) (min 16 ((place_at lay v).count - 16 * d)) b bad k))
    (where_is ((place_at lay v).start + 16 * d) (min 16 ((place_at lay v).count - 16 * d)) b))
    (λ e. inl refl)
  where
    v : ℕ
    v = first_recovering s.units

    d : ℕ
    d = steps_done_of (unit_at v s).standing

pub blocks_stay : BlocksStay
blocks_stay lay s (control setup ds) b = inl (ap (λ (m : List Block). get_or m b bad) (control_same lay s setup ds))
blocks_stay lay s (bulk i cbw ds) b = bulky_stay lay s i cbw ds b (when_bulky lay s i s.phase cbw ds)
blocks_stay lay s work b = work_stay lay s b
blocks_stay lay s (clock ms) b = inl (ap (λ (m : List Block). get_or m b bad) (clock_same lay s ms s.phase))
blocks_stay lay s reset b = inl refl
blocks_stay lay s suspend b = inl refl
blocks_stay lay s resume b = inl refl
blocks_stay lay s power b = inl refl

-- no block lies in the places of two units
one_holds : (lay : Layout) → Disjoint lay → (u v b : ℕ) → Holds lay u b → Holds lay v b → v ≡ u
one_holds lay ok u v b x y = ⊎_elim (λ e. e) (λ ne. absurd (⊎_elim (λ h. clash_left h) (λ h. clash_right h) (ok.apart v u ne))) (cases_eq v u)
  where
    clash_left : (place_at lay v).start + (place_at lay v).count ≤ (place_at lay u).start → ⊥
    clash_left h = omega (arith, x.0, y.1)

    clash_right : (place_at lay u).start + (place_at lay u).count ≤ (place_at lay v).start → ⊥
    clash_right h = omega (arith, y.0, x.1)

pub unit_blocks_stay : UnitBlocksStay
unit_blocks_stay lay blocks fit s e u b x = ⊎_elim
    (λ same. inl same)
    (λ t. inr (subst (λ v. Touches lay v s e) (one_holds lay (fit_disjoint lay blocks fit) u t.0 b x t.1) t.2))
    (blocks_stay lay s e b)

pub on_medium : OnMedium
on_medium lay m h u b fit x = subst (λ n. b < n) (sym (marks_stay lay m h).number) (held_below 0 (length m) lay.places u b fit x.0 x.1)
