-- A unit is recovering exactly when that was asked for, and some of the steps that it needs are left.
use Rattle.std.proofs.Common.{◌≡◌, ℕ, suc, ◌+◌, ◌-◌, ◌*◌, ◌<◌, Bool, true, false, cond, ◌&&◌, eqb, List, [], ◌∷◌, get_or, Option, sym, refl, ap, ◌∙◌, subst, ⊎_elim, arith}
use Rattle.std.proofs.lemmas.Bool.{true≢false, false≢true, cases_eq, cases_Bool, both_ways, eq-eqb, ne_eqb, and_parts}
use Rattle.std.specs.declared.option.Option.TheVariants as option
use Rattle.model.specs.Blocks.{Block}
use Rattle.model.specs.Control.{Outcome, alter, find_unit, blocks_of, unit_at, interface_at, sized, put_to_unit, asked, when_present}
use Rattle.model.specs.Events.{Event, control, bulk, work, clock, reset, suspend, resume, power, step, after}
use Rattle.model.specs.Identities.{is_negotiable}
use Rattle.model.specs.Layouts.{Layout}
use Rattle.model.specs.LockData.{steps_for}
use Rattle.model.specs.Puts.{UnitPut, misfit, store, match, change, erase, forget, lock_again, correct, judged, turned}
use Rattle.model.specs.Recovery.{is_recovering, steps_done_of}
use Rattle.model.specs.Requests.{address, requested}
use Rattle.model.specs.Sticks.{Stick}
use Rattle.model.specs.Units.{Standing, impersonal, locked, unlocked, recovering, UnitRecord, new_unit}
use Rattle.model.specs.declared.request.Asked.{Asked}
use Rattle.model.specs.declared.request.Put.{Put}
use Rattle.model.specs.declared.request.Request.{Request}
use Rattle.model.specs.declared.request.Request.TheVariants.{DeviceDescriptor, Bundle, LockData, HighestUnit, ClearJam, PutTo}
use Rattle.privacy.specs.Claims.{is_unit, asks_put, asked_put, accepts}
use Rattle.privacy.specs.Causes.{falls_to, forgetting, one_more, steps_since, RecoveringWhenAsked}
use Rattle.privacy.proofs.Asking.{asking, unit_put_is}
use Rattle.privacy.proofs.Calm.{when_present_all, control_next, control_code, is_unit_put}
use Rattle.privacy.proofs.Lists.{alter_at}
use Rattle.privacy.proofs.PutKinds.{same_kind}
use Rattle.privacy.proofs.Recovering.{counted_all, forgets, forgets_carried, Stays, goes_on, goes_further, advanced_more, reports, c, d}

-- An accepted Erase Forgotten Passphrase begins a recovery

record Begins (nw : Standing) : Type 0 where
  recovers : is_recovering nw ≡ true
  none_done : steps_done_of nw ≡ 0

forget_begins : (ok : Bool) (st : Standing) (x : UnitRecord) → eqb (judged ok st forget x).code 0 ≡ true → Begins (judged ok st forget x).after.standing
forget_begins ok impersonal x h = absurd (false≢true h)
forget_begins ok (locked w) x h = record { recovers = refl; none_done = refl }
forget_begins ok (unlocked w) x h = absurd (false≢true h)
forget_begins ok (recovering w n) x h = absurd (false≢true h)

put_begins : (ok : Bool) (p : UnitPut) (st : Standing) (x : UnitRecord) → (forgets p && eqb (judged ok st p x).code 0) ≡ true → Begins (judged ok st p x).after.standing
put_begins ok misfit st x h = absurd (false≢true h)
put_begins ok (store q) st x h = absurd (false≢true h)
put_begins ok (match q) st x h = absurd (false≢true h)
put_begins ok (change q) st x h = absurd (false≢true h)
put_begins ok (erase q) st x h = absurd (false≢true h)
put_begins ok forget st x h = forget_begins ok st x h
put_begins ok lock_again st x h = absurd (false≢true h)

-- which a new unit refuses
new_refuses : (n : Bool) (p : UnitPut) → (forgets p && eqb (turned n p new_unit).code 0) ≡ true → ⊥
new_refuses n misfit h = false≢true h
new_refuses n (store q) h = false≢true h
new_refuses n (match q) h = false≢true h
new_refuses n (change q) h = false≢true h
new_refuses n (erase q) h = false≢true h
new_refuses n forget h = false≢true h
new_refuses n lock_again h = false≢true h

here_begins : (u : ℕ) (n : Bool) (p : UnitPut) (s : Stick) → (forgets p && eqb (turned n p (unit_at u s)).code 0) ≡ true → Begins (get_or (alter u (λ x. (turned n p x).after) s.units) u new_unit).standing
here_begins u n p s h = ⊎_elim
    (λ a. subst (λ (x : UnitRecord). Begins x.standing) (sym a) (put_begins (correct n (unit_at u s) p) p (unit_at u s).standing (unit_at u s) h))
    (λ a. absurd (new_refuses n p (subst (λ (x : UnitRecord). (forgets p && eqb (turned n p x).code 0) ≡ true) a h)))
    (alter_at s.units u (λ x. (turned n p x).after) new_unit)

unit_begins : (u : ℕ) (f : Option ℕ) (n : Bool) (p : Put) (k : ℕ) (ds : List ℕ) (s : Stick) → (is_unit f u && forgetting p && eqb (put_to_unit f n (sized p k ds) s).code 0) ≡ true →
    Begins (unit_at u (put_to_unit f n (sized p k ds) s).next).standing
unit_begins u option.None n p k ds s h = absurd (false≢true h)
unit_begins u (option.Some v) n p k ds s h = ⊎_elim
    (λ e. subst (λ w. At w) (sym e) (here_begins u n (sized p k ds) s (sym (same_kind forgetting forgets forgets_carried p k ds n (unit_at u s)) ∙ own (subst (λ w. Told w) e h))))
    (λ ne. absurd (both_ways _ (left_out (eqb v u) (forgetting p) (eqb (turned n (sized p k ds) (unit_at v s)).code 0) (ne_eqb v u ne)) h))
    (cases_eq v u)
  where
    At : ℕ → Type 0
    At w = Begins (get_or (alter w (λ x. (turned n (sized p k ds) x).after) s.units) u new_unit).standing

    Told : ℕ → Type 0
    Told w = (eqb w u && forgetting p && eqb (turned n (sized p k ds) (unit_at w s)).code 0) ≡ true

    own : Told u → (forgetting p && eqb (turned n (sized p k ds) (unit_at u s)).code 0) ≡ true
    own t = subst (λ b. (b && forgetting p && eqb (turned n (sized p k ds) (unit_at u s)).code 0) ≡ true) (eq-eqb u u refl) t

    left_out : (a b c : Bool) → a ≡ false → (a && b && c) ≡ false
    left_out a b c e = rw e refl

module _ (lay : Layout) (u : ℕ) (s : Stick) where
  BeginsO : Bool → Outcome → Type 0
  BeginsO kind o = (kind && eqb o.code 0) ≡ true → Begins (unit_at u o.next).standing

  refused_begins : (a : Bool) (t : Stick) → (a && false) ≡ true → Begins (unit_at u t).standing
  refused_begins true t h = absurd (false≢true h)
  refused_begins false t h = absurd (false≢true h)

  put_request_begins : (p : Put) (i k n : ℕ) (ds : List ℕ) → BeginsO (is_unit (find_unit lay i k) u && forgetting p) (asking lay (PutTo p (address i k)) n ds s)
  unfolding BeginsO asking
  put_request_begins p i k n ds = ⊎_elim
      (λ e. when_present_all (BeginsO (is_unit (find_unit lay i k) u && forgetting p)) s.phase s _ (refused_begins _ s) (refused_begins _ s)
      (subst (BeginsO (is_unit (find_unit lay i k) u && forgetting p)) (sym (unit_put_is lay p i k n ds s e)) (unit_begins u (find_unit lay i k) (is_negotiable (interface_at i s).ids) p n ds s)))
      (λ e h. absurd (both_ways _ (no_unit p e) (and_parts _ _ (and_parts _ _ h).0).1))
      (cases_Bool (is_unit_put p))
    where
      no_unit : (q : Put) → is_unit_put q ≡ false → forgetting q ≡ false
      no_unit Put.StorePassphrase e = refl
      no_unit Put.MatchPassphrase e = refl
      no_unit Put.ChangePassphrase e = refl
      no_unit Put.ErasePassphrase e = refl
      no_unit Put.EraseForgottenPassphrase e = absurd (true≢false e)
      no_unit Put.LockAgain e = refl
      no_unit Put.ChangeInterfaceAccess e = refl

  request_begins : (r : Request) (n : ℕ) (ds : List ℕ) → BeginsO (asks_put forgetting lay u r) (asking lay r n ds s)
  unfolding BeginsO
  request_begins DeviceDescriptor n ds h = absurd (false≢true h)
  request_begins Bundle n ds h = absurd (false≢true h)
  request_begins (LockData a) n ds h = absurd (false≢true h)
  request_begins (HighestUnit i) n ds h = absurd (false≢true h)
  request_begins (ClearJam i) n ds h = absurd (false≢true h)
  request_begins (PutTo p a) n ds h = put_request_begins p a.interface a.unit n ds h

  served_begins : (a : Option Asked) (ds : List ℕ) → BeginsO (asked_put forgetting lay u a) (when_present s.phase s (asked lay a ds s))
  unfolding BeginsO asking
  served_begins option.None ds h = absurd (false≢true h)
  served_begins (option.Some a) ds h = request_begins a.request a.length ds h

step_begins : (lay : Layout) (u : ℕ) (s : Stick) (e : Event) → accepts forgetting lay u s e ≡ true → Begins (unit_at u (step lay s e).next).standing
unfolding BeginsO
step_begins lay u s (control setup ds) h =
    subst (λ (t : Stick). Begins (unit_at u t).standing) (sym (control_next lay s setup ds))
    (served_begins lay u s (requested setup) ds (ap (λ n. asked_put forgetting lay u (requested setup) && eqb n 0) (sym (control_code lay s setup ds)) ∙ h))
step_begins lay u s (bulk i cbw ds) h = absurd (false≢true h)
step_begins lay u s work h = absurd (false≢true h)
step_begins lay u s (clock ms) h = absurd (false≢true h)
step_begins lay u s reset h = absurd (false≢true h)
step_begins lay u s suspend h = absurd (false≢true h)
step_begins lay u s resume h = absurd (false≢true h)
step_begins lay u s power h = absurd (false≢true h)

-- A work step that falls to the unit, with more left, counts

record Done (n : ℕ) (st : Standing) : Type 0 where
  recovers : is_recovering st ≡ true
  steps : steps_done_of st ≡ n

step_counts : (lay : Layout) (u : ℕ) (s : Stick) (e : Event) → is_recovering (unit_at u s).standing ≡ true → falls_to u s e ≡ true → suc (steps_done_of (unit_at u s).standing) < steps_for (blocks_of lay u) →
    Done (suc (steps_done_of (unit_at u s).standing)) (unit_at u (step lay s e).next).standing
unfolding c d
step_counts lay u s (control setup ds) r f h = absurd (false≢true f)
step_counts lay u s (bulk i cbw ds) r f h = absurd (false≢true f)
step_counts lay u s work r f h =
    let g = goes_further lay u s r f (subst (λ n. 1 < n) (sym (reports lay u s r)) (more (steps_for (blocks_of lay u)) (steps_done_of (unit_at u s).standing) h)) in
    let m = advanced_more lay u s r (unit_at u s).standing (unit_at u s) r in
    record {
      recovers = ap (λ (y : UnitRecord). is_recovering y.standing) g ∙ m.0;
      steps = ap (λ (y : UnitRecord). steps_done_of y.standing) g ∙ m.1 ∙ next (steps_done_of (unit_at u s).standing);
    }
  where
    more : (n k : ℕ) → suc k < n → 1 < n - k
    more n k q = omega arith

    next : (k : ℕ) → k + 1 ≡ suc k
    next k = omega arith
step_counts lay u s (clock ms) r f h = absurd (false≢true f)
step_counts lay u s reset r f h = absurd (false≢true f)
step_counts lay u s suspend r f h = absurd (false≢true f)
step_counts lay u s resume r f h = absurd (false≢true f)
step_counts lay u s power r f h = absurd (false≢true f)

-- Over a history

or_none : Option ℕ → ℕ
or_none option.None = 0
or_none (option.Some n) = n

some_same : (a b : ℕ) → option.Some a ≡ option.Some b → a ≡ b
unfolding or_none
some_same a b e = ap or_none e

falls_recovers : (u : ℕ) (s : Stick) (e : Event) → falls_to u s e ≡ true → is_recovering (unit_at u s).standing ≡ true
falls_recovers u s e f = (and_parts (is_recovering (unit_at u s).standing) _ (and_parts (Rattle.privacy.specs.Causes.is_work e) _ f).1).0

begun_all : (lay : Layout) (m : List Block) (u : ℕ) (h : List Event) (n : ℕ) → steps_since lay m u h ≡ option.Some n → n < steps_for (blocks_of lay u) → Done n (unit_at u (after lay m h)).standing
unfolding Stays
begun_all lay m u [] n e k = absurd (nothing n e)
  where
    nothing : (n : ℕ) → option.None ≡ option.Some n → ⊥
    nothing n q = false≢true (ap Rattle.privacy.specs.Causes.is_some q)
begun_all lay m u (e ∷ past) n q k = ⊎_elim
    (λ a.
    let b = step_begins lay u s e a in
    let z : 0 ≡ n = some_same 0 n (sym (ap (λ x. cond x (option.Some 0) rest) a) ∙ q) in
    record { recovers = b.recovers; steps = b.none_done ∙ z })
    (λ a. later (λ j w. begun_all lay m u past n j w) (sym (ap (λ x. cond x (option.Some 0) rest) a) ∙ q))
    (cases_Bool (accepts forgetting lay u s e))
  where
    s : Stick
    s = after lay m past

    rest : Option ℕ
    rest = cond (falls_to u s e) (one_more (steps_since lay m u past)) (steps_since lay m u past)

    counted_here : falls_to u s e ≡ true → one_more (steps_since lay m u past) ≡ option.Some n → Done n (unit_at u (step lay s e).next).standing
    counted_here f j =
        let r = falls_recovers u s e f in
        let z : suc (steps_done_of (unit_at u s).standing) ≡ n = some_same _ n (sym (ap one_more ((counted_all lay m u past).steps r)) ∙ j) in
        subst (λ i. Done i (unit_at u (step lay s e).next).standing) z (step_counts lay u s e r f (subst (λ i. i < steps_for (blocks_of lay u)) (sym z) k))

    stays_here : falls_to u s e ≡ false → Done n (unit_at u s).standing → Done n (unit_at u (step lay s e).next).standing
    stays_here f g = subst (Done n) (sym (goes_on lay u s g.recovers e f)) g

    later : (steps_since lay m u past ≡ option.Some n → n < steps_for (blocks_of lay u) → Done n (unit_at u s).standing) → rest ≡ option.Some n → Done n (unit_at u (step lay s e).next).standing
    later back j = ⊎_elim
        (λ f. counted_here f (sym (ap (λ x. cond x (one_more (steps_since lay m u past)) (steps_since lay m u past)) f) ∙ j))
        (λ f. stays_here f (back (sym (ap (λ x. cond x (one_more (steps_since lay m u past)) (steps_since lay m u past)) f) ∙ j) k))
        (cases_Bool (falls_to u s e))

pub recovering_when_asked : RecoveringWhenAsked
recovering_when_asked lay m h u n some = (there, back)
  where
    st : Standing
    st = (unit_at u (after lay m h)).standing

    few : (a b : ℕ) → 16 * b < a → b < steps_for a
    few a b q = omega arith

    there : (is_recovering st ≡ true) × (steps_done_of st ≡ n) → (steps_since lay m u h ≡ option.Some n) × (n < steps_for (blocks_of lay u))
    there q =
        let k = counted_all lay m u h in
        (k.steps q.0 ∙ ap (λ i. option.Some i) q.1, few (blocks_of lay u) n (subst (λ i. 16 * i < blocks_of lay u) q.1 (k.fewer q.0 some)))

    back : (steps_since lay m u h ≡ option.Some n) × (n < steps_for (blocks_of lay u)) → (is_recovering st ≡ true) × (steps_done_of st ≡ n)
    back q = let g = begun_all lay m u h n q.0 q.1 in (g.recovers, g.steps)
