-- The blocks that a recovery has passed are zeros, in every stick that was run from its first power-up.
use Rattle.std.proofs.Common.{◌≡◌, ℕ, ◌+◌, ◌-◌, ◌*◌, ◌<◌, ◌≤◌, min, Bool, true, false, cond, ltb, leb, ◌⊎◌, List, [], ◌∷◌, length, Option, sym, refl, ap, ◌∙◌, subst, ap₂, subst₂, inl, inr, ⊎_elim, arith}
use Rattle.std.proofs.lemmas.Bool.{true≢false, false≢true, cases_eq, cases_Bool, both_ways, leb-true, leb-false}
use Rattle.std.specs.declared.option.Option.TheVariants as option
use Rattle.model.specs.Blocks.{Block}
use Rattle.model.specs.Bulk.{place_at}
use Rattle.model.specs.Commands.{stored}
use Rattle.model.specs.Control.{unit_at, interface_at, find_unit, sized, put_to_unit, asked, when_present}
use Rattle.model.specs.Events.{Event, control, bulk, work, clock, reset, suspend, resume, power, step, after}
use Rattle.model.specs.Identities.{is_negotiable}
use Rattle.model.specs.Layouts.{Layout, sum}
use Rattle.model.specs.Puts.{UnitPut, misfit, store, match, change, erase, forget, lock_again, correct, judged, turned}
use Rattle.model.specs.Recovery.{zeroed, is_recovering, steps_done_of, first_recovering, advanced, work_on, worked}
use Rattle.model.specs.Requests.{address, requested}
use Rattle.model.specs.Sticks.{Stick, stick, repowered}
use Rattle.model.specs.Units.{Standing, impersonal, locked, unlocked, recovering, UnitRecord, new_unit, is_locked, relocked}
use Rattle.model.specs.declared.request.Asked.{Asked}
use Rattle.model.specs.declared.request.Put.{Put}
use Rattle.model.specs.declared.request.Request.{Request}
use Rattle.model.specs.declared.request.Request.TheVariants.{DeviceDescriptor, Bundle, LockData, HighestUnit, ClearJam, PutTo}
use Rattle.model.proofs.Zeroed.{zeroed_none}
use Rattle.privacy.specs.Claims.{but, mute, Locked}
use Rattle.privacy.proofs.Places.{Disjoint}
use Rattle.privacy.proofs.Lists.{alter_other, alter_same, alter_at, alter_rel, alter_alter, alter_like, replicate_getD, zeroed_comm, zeroed_twice, zeroed_more, stored_outside}
use Rattle.privacy.proofs.Calm.{when_present_all, Calm, still, noted, wrote, shown, calm_keeps, request_calm, unlisted_calm, bulked_calm, passed_calm, power_relocks, control_next, is_unit_put}
use Rattle.privacy.proofs.Asking.{asking, unit_put_is}

-- of a unit's blocks those that its recovery has passed are zeros already: to zeroed them changes nothing
abbrev pub Passed : ℕ → ℕ → Standing → List Block → Type 0
Passed start count impersonal m = Unit {0}
Passed start count (locked p) m = Unit {0}
Passed start count (unlocked p) m = Unit {0}
Passed start count (recovering p d) m = (16 * d ≤ count) × (zeroed start (16 * d) m ≡ m)

unfoldable pub Clean : Layout → ℕ → Stick → Type 0
Clean lay u s = Passed (place_at lay u).start (place_at lay u).count (unit_at u s).standing s.blocks

module _ (a c : ℕ) where
  open_passed : (st : Standing) (m : List Block) → is_locked st ≡ false → Passed a c st m
  open_passed impersonal m l = tt
  open_passed (locked p) m l = tt
  open_passed (unlocked p) m l = tt
  open_passed (recovering p d) m l = absurd (true≢false l)

  relocked_passed : (st : Standing) (m : List Block) → Passed a c st m → Passed a c (relocked st) m
  relocked_passed impersonal m k = tt
  relocked_passed (locked p) m k = tt
  relocked_passed (unlocked p) m k = tt
  relocked_passed (recovering p d) m k = k

  -- a Put
  judged_passed : (ok : Bool) (st : Standing) (p : UnitPut) (x : UnitRecord) (m : List Block) → x.standing ≡ st → Passed a c st m → Passed a c (judged ok st p x).after.standing m
  judged_passed ok impersonal misfit x m e k = rw e tt
  judged_passed ok impersonal (store option.None) x m e k = rw e tt
  judged_passed ok impersonal (store (option.Some q)) x m e k = tt
  judged_passed ok impersonal (match q) x m e k = rw e tt
  judged_passed ok impersonal (change q) x m e k = rw e tt
  judged_passed ok impersonal (erase q) x m e k = rw e tt
  judged_passed ok impersonal forget x m e k = rw e tt
  judged_passed ok impersonal lock_again x m e k = rw e tt
  judged_passed ok (locked w) misfit x m e k = rw e tt
  judged_passed ok (locked w) (store q) x m e k = rw e tt
  judged_passed ok (locked w) (match option.None) x m e k = rw e tt
  judged_passed true (locked w) (match (option.Some q)) x m e k = tt
  judged_passed false (locked w) (match (option.Some q)) x m e k = rw e tt
  judged_passed ok (locked w) (change q) x m e k = rw e tt
  judged_passed ok (locked w) (erase q) x m e k = rw e tt
  judged_passed ok (locked w) forget x m e k = (omega arith, zeroed_none a m)
  judged_passed ok (locked w) lock_again x m e k = rw e tt
  judged_passed ok (unlocked w) misfit x m e k = rw e tt
  judged_passed ok (unlocked w) (store q) x m e k = rw e tt
  judged_passed ok (unlocked w) (match q) x m e k = rw e tt
  judged_passed ok (unlocked w) (change option.None) x m e k = rw e tt
  judged_passed true (unlocked w) (change (option.Some q)) x m e k = tt
  judged_passed false (unlocked w) (change (option.Some q)) x m e k = rw e tt
  judged_passed ok (unlocked w) (erase option.None) x m e k = rw e tt
  judged_passed true (unlocked w) (erase (option.Some q)) x m e k = tt
  judged_passed false (unlocked w) (erase (option.Some q)) x m e k = rw e tt
  judged_passed ok (unlocked w) forget x m e k = rw e tt
  judged_passed true (unlocked w) lock_again x m e k = tt
  judged_passed false (unlocked w) lock_again x m e k = rw e tt
  judged_passed ok (recovering w d) misfit x m e k = rw e k
  judged_passed ok (recovering w d) (store q) x m e k = rw e k
  judged_passed ok (recovering w d) (match q) x m e k = rw e k
  judged_passed ok (recovering w d) (change q) x m e k = rw e k
  judged_passed ok (recovering w d) (erase q) x m e k = rw e k
  judged_passed ok (recovering w d) forget x m e k = rw e k
  judged_passed ok (recovering w d) lock_again x m e k = rw e k

  -- a change of other blocks: any that leaves zeroed what is zeroed
  other_passed : (st : Standing) (m n : List Block) → ((d : ℕ) → 16 * d ≤ c → zeroed a (16 * d) m ≡ m → zeroed a (16 * d) n ≡ n) → Passed a c st m → Passed a c st n
  other_passed impersonal m n f k = tt
  other_passed (locked p) m n f k = tt
  other_passed (unlocked p) m n f k = tt
  other_passed (recovering p d) m n f k = (k.0, f d k.0 k.1)

  -- a work step, where d steps are done: the blocks up to the next step's end are zeros
  next_zeroed : (m : List Block) (d b : ℕ) → zeroed a (16 * d) m ≡ m → zeroed a (16 * d + b) (zeroed (a + 16 * d) b m) ≡ zeroed (a + 16 * d) b m
  next_zeroed m d b k =
      zeroed_more (zeroed (a + 16 * d) b m) a (16 * d) b
      ∙ ap (zeroed (a + 16 * d) b) (zeroed_comm m a (16 * d) (a + 16 * d) b ∙ ap (zeroed (a + 16 * d) b) k)
      ∙ zeroed_twice m (a + 16 * d) b

  worked_passed : (final : Bool) (st : Standing) (x : UnitRecord) (m : List Block) → x.standing ≡ st → leb c (16 * (steps_done_of st + 1)) ≡ final → Passed a c st m →
      Passed a c (advanced final st x).standing (zeroed (a + 16 * steps_done_of st) (min 16 (c - 16 * steps_done_of st)) m)
  worked_passed final impersonal x m e f k = rw e tt
  worked_passed final (locked p) x m e f k = rw e tt
  worked_passed final (unlocked p) x m e f k = rw e tt
  worked_passed true (recovering p d) x m e f k = tt
  worked_passed false (recovering p d) x m e f k =
      let more : 16 * (d + 1) < c = leb-false c (16 * (d + 1)) f in
      let b : min 16 (c - 16 * d) ≡ 16 = omega arith in
      let n : 16 * (d + 1) ≡ 16 * d + 16 = omega arith in
      rw (b, n) (omega arith, next_zeroed m d 16 k.1)

  last_zeroed : (st : Standing) (m : List Block) → is_recovering st ≡ true → leb c (16 * (steps_done_of st + 1)) ≡ true → Passed a c st m →
      zeroed a c (zeroed (a + 16 * steps_done_of st) (min 16 (c - 16 * steps_done_of st)) m) ≡ zeroed (a + 16 * steps_done_of st) (min 16 (c - 16 * steps_done_of st)) m
  last_zeroed impersonal m r f k = absurd (false≢true r)
  last_zeroed (locked p) m r f k = absurd (false≢true r)
  last_zeroed (unlocked p) m r f k = absurd (false≢true r)
  last_zeroed (recovering p d) m r f k =
      let most : c ≤ 16 * (d + 1) = leb-true c (16 * (d + 1)) f in
      let all : c ≡ 16 * d + min 16 (c - 16 * d) = omega (arith, k.0) in
      ap (λ n. zeroed a n (zeroed (a + 16 * d) (min 16 (c - 16 * d)) m)) all ∙ next_zeroed m d (min 16 (c - 16 * d)) k.1

-- the last work step
final_facts : (fin : Bool) (st : Standing) (x : UnitRecord) → x.standing ≡ st → is_locked st ≡ true → is_locked (advanced fin st x).standing ≡ false →
    (fin ≡ true) × (is_recovering st ≡ true) × (mute (advanced fin st x) ≡ advanced fin st x)
final_facts fin impersonal x e l n = absurd (false≢true l)
final_facts fin (locked p) x e l n = absurd (both_ways _ n (ap is_locked e))
final_facts fin (unlocked p) x e l n = absurd (false≢true l)
final_facts true (recovering p d) x e l n = (refl, refl, refl)
final_facts false (recovering p d) x e l n = absurd (true≢false n)

-- Over one event

abbrev with_blocks : List Block → Stick → Stick
with_blocks m s = stick s.units s.interfaces s.phase m

module _ (lay : Layout) (u : ℕ) where
  -- nothing touched the medium, and the unit stands as it stood
  same_clean : (s t : Stick) → (unit_at u t).standing ≡ (unit_at u s).standing → t.blocks ≡ s.blocks → Clean lay u s → Clean lay u t
  unfolding Clean
  same_clean s t e f k = subst₂ (λ x y. Passed (place_at lay u).start (place_at lay u).count x y) (sym e) (sym f) k

  put_clean : (f : Option ℕ) (n : Bool) (p : UnitPut) (s : Stick) → Clean lay u s → Clean lay u (put_to_unit f n p s).next
  unfolding Clean
  put_clean option.None n p s k = k
  put_clean (option.Some v) n p s k =
      alter_rel (λ x y. Passed (place_at lay u).start (place_at lay u).count x.standing s.blocks → Passed (place_at lay u).start (place_at lay u).count y.standing s.blocks)
      s.units v u (λ x. (turned n p x).after) new_unit (λ x h. h) (λ x h. judged_passed (place_at lay u).start (place_at lay u).count (correct n x p) x.standing p x s.blocks refl h) k

  work_clean : (s : Stick) → Clean lay u s → Clean lay u (worked lay s)
  unfolding Clean
  work_clean s k =
      elim (ltb v (length s.units)) as (λ b. Clean lay u (cond b (work_on lay v (steps_done_of (unit_at v s).standing) s) s)) [
        | true ↦ ⊎_elim here there (cases_eq v u)
        | false ↦ k
      ]
    where
      v : ℕ
      v = first_recovering s.units

      on : ℕ → Stick
      on w = work_on lay w (steps_done_of (unit_at w s).standing) s

      fin : Bool
      fin = leb (place_at lay u).count (16 * (steps_done_of (unit_at u s).standing + 1))

      here : v ≡ u → Clean lay u (on v)
      here e = subst (λ w. Clean lay u (on w)) (sym e)
          (⊎_elim
          (λ a. rw a (worked_passed (place_at lay u).start (place_at lay u).count fin (unit_at u s).standing (unit_at u s) s.blocks refl refl k))
          (λ a. rw a tt)
          (alter_same s.units u (λ x. advanced fin x.standing x) new_unit))

      there : (v ≡ u → ⊥) → Clean lay u (on v)
      there ne =
          rw (alter_other s.units v u (λ x. advanced (leb (place_at lay v).count (16 * (steps_done_of (unit_at v s).standing + 1))) x.standing x) new_unit ne)
          (other_passed (place_at lay u).start (place_at lay u).count (unit_at u s).standing s.blocks _
          (λ d h e. zeroed_comm s.blocks (place_at lay u).start (16 * d) _ _ ∙ ap (zeroed _ _) e) k)

  power_clean : (s : Stick) → Clean lay u s → Clean lay u (repowered lay s)
  unfolding Clean
  power_clean s k =
      subst (λ x. Passed (place_at lay u).start (place_at lay u).count x s.blocks) (sym (power_relocks lay u s))
      (relocked_passed (place_at lay u).start (place_at lay u).count (unit_at u s).standing s.blocks k)

  -- a write to another unit, or to one that is not Locked
  stored_clean : Disjoint lay → (v a n : ℕ) (ds : List ℕ) (s : Stick) → is_locked (unit_at v s).standing ≡ false → a + n ≤ (place_at lay v).count → Clean lay u s →
      Clean lay u (with_blocks (stored n ((place_at lay v).start + a) ds s.blocks) s)
  unfolding Clean
  stored_clean ok v a n ds s nl within k = ⊎_elim
      (λ e. open_passed (place_at lay u).start (place_at lay u).count (unit_at u s).standing _ (subst (λ w. is_locked (unit_at w s).standing ≡ false) e nl))
      (λ ne. other_passed (place_at lay u).start (place_at lay u).count (unit_at u s).standing s.blocks _
      (λ d h e.
      let out : ((place_at lay v).start + a + n ≤ (place_at lay u).start) ⊎ ((place_at lay u).start + 16 * d ≤ (place_at lay v).start + a) =
      ⊎_elim (λ q. inl (omega arith)) (λ q. inr (omega arith)) (ok.apart v u ne) in
      sym (stored_outside n ((place_at lay v).start + a) ds s.blocks (place_at lay u).start (16 * d) out)
      ∙ ap (λ m. stored n ((place_at lay v).start + a) ds m) e)
      k)
      (cases_eq v u)

  calm_clean : Disjoint lay → (s t : Stick) → Calm lay s t → Clean lay u s → Clean lay u t
  calm_clean ok s t (still r m) k = same_clean s t (calm_keeps lay u s t (still r m)) m k
  calm_clean ok s t (noted v n r m) k = same_clean s t (calm_keeps lay u s t (noted v n r m)) m k
  calm_clean ok s t (wrote v a n ds x l f r m) k =
      same_clean (with_blocks (stored n ((place_at lay v).start + a) ds s.blocks) s) t (calm_keeps lay u s t (wrote v a n ds x l f r m)) m (stored_clean ok v a n ds s l f k)
  calm_clean ok s t (shown r m) k = same_clean s t (calm_keeps lay u s t (shown r m)) m k

  -- a Put goes to a unit, or to an interface and then is calm
  put_request_clean : Disjoint lay → (s : Stick) (p : Put) (i j n : ℕ) (ds : List ℕ) → Clean lay u s → Clean lay u (asking lay (PutTo p (address i j)) n ds s).next
  unfolding asking
  put_request_clean ok s p i j n ds k =
      ⊎_elim
      (λ e. when_present_all (λ o. Clean lay u o.next) s.phase s _ k k
      (subst (λ o. Clean lay u o.next) (sym (unit_put_is lay p i j n ds s e)) (put_clean (find_unit lay i j) (is_negotiable (interface_at i s).ids) (sized p n ds) s k)))
      (λ e. calm_clean ok s _ (request_calm lay s (PutTo p (address i j)) n ds e) k)
      (cases_Bool (is_unit_put p))

  request_clean : Disjoint lay → (s : Stick) (r : Request) (n : ℕ) (ds : List ℕ) → Clean lay u s → Clean lay u (asking lay r n ds s).next
  unfolding asking
  request_clean ok s DeviceDescriptor n ds k = calm_clean ok s _ (request_calm lay s DeviceDescriptor n ds refl) k
  request_clean ok s Bundle n ds k = calm_clean ok s _ (request_calm lay s Bundle n ds refl) k
  request_clean ok s (LockData a) n ds k = calm_clean ok s _ (request_calm lay s (LockData a) n ds refl) k
  request_clean ok s (HighestUnit i) n ds k = calm_clean ok s _ (request_calm lay s (HighestUnit i) n ds refl) k
  request_clean ok s (ClearJam i) n ds k = calm_clean ok s _ (request_calm lay s (ClearJam i) n ds refl) k
  request_clean ok s (PutTo p a) n ds k = put_request_clean ok s p a.interface a.unit n ds k

  served_clean : Disjoint lay → (s : Stick) (o : Option Asked) (ds : List ℕ) → Clean lay u s → Clean lay u (when_present s.phase s (asked lay o ds s)).next
  unfolding asking
  served_clean ok s option.None ds k = calm_clean ok s _ (unlisted_calm lay s) k
  served_clean ok s (option.Some a) ds k = request_clean ok s a.request a.length ds k

  pub step_clean : Disjoint lay → (s : Stick) (e : Event) → Clean lay u s → Clean lay u (step lay s e).next
  unfolding Clean
  step_clean ok s (control setup ds) k = subst (Clean lay u) (sym (control_next lay s setup ds)) (served_clean ok s (requested setup) ds k)
  step_clean ok s (bulk i cbw ds) k = calm_clean ok s _ (bulked_calm lay s i cbw ds) k
  step_clean ok s work k = work_clean s k
  step_clean ok s (clock ms) k = calm_clean ok s _ (passed_calm lay s ms s.phase) k
  step_clean ok s reset k = k
  step_clean ok s suspend k = k
  step_clean ok s resume k = k
  step_clean ok s power k = power_clean s k

  pub after_clean : Disjoint lay → (m : List Block) (h : List Event) → Clean lay u (after lay m h)
  unfolding Clean
  after_clean ok m [] = rw (replicate_getD (sum lay.counts) u new_unit) tt
  after_clean ok m (e ∷ past) = step_clean ok (after lay m past) e (after_clean ok m past)

  -- A Locked unit that a work step leaves not Locked has nothing left to hide
  pub work_lets_go : (s : Stick) → Locked u s → Clean lay u s → is_locked (unit_at u (worked lay s)).standing ≡ false → but lay u (worked lay s) ≡ worked lay s
  unfolding Clean but
  work_lets_go s l k =
      elim (ltb v (length s.units)) as (λ b. is_locked (unit_at u (cond b (on v) s)).standing ≡ false → but lay u (cond b (on v) s) ≡ cond b (on v) s) [
        | true ↦ ⊎_elim here there (cases_eq v u)
        | false ↦ λ n. absurd (both_ways _ n l)
      ]
    where
      v : ℕ
      v = first_recovering s.units

      fin : ℕ → Bool
      fin w = leb (place_at lay w).count (16 * (steps_done_of (unit_at w s).standing + 1))

      on : ℕ → Stick
      on w = work_on lay w (steps_done_of (unit_at w s).standing) s

      f : ℕ → UnitRecord → UnitRecord
      f w x = advanced (fin w) x.standing x

      Gone : ℕ → Type 0
      Gone w = is_locked (unit_at u (on w)).standing ≡ false → but lay u (on w) ≡ on w

      there : (v ≡ u → ⊥) → Gone v
      there ne n = absurd (both_ways _ n (rw (alter_other s.units v u (f v) new_unit ne) l))

      here : v ≡ u → Gone v
      here e = subst Gone (sym e) (λ n. ⊎_elim
          (λ a.
          let g = final_facts (fin u) (unit_at u s).standing (unit_at u s) refl l (rw a at n) in
          ap₂ (λ rs m. stick rs s.interfaces s.phase m)
          (alter_alter s.units u (f u) mute ∙ alter_like s.units u (λ x. mute (f u x)) (f u) new_unit g.2)
          (last_zeroed (place_at lay u).start (place_at lay u).count (unit_at u s).standing s.blocks g.1 g.0 k))
          (λ a. absurd (false≢true (rw a at l)))
          (alter_at s.units u (f u) new_unit))
