-- A unit's record keeps within its bounds.
use Rattle.std.proofs.Common.{◌≡◌, ℕ, ◌+◌, ◌-◌, ◌≤◌, min, Bool, true, false, ◌&&◌, eqb, ltb, leb, List, [], ◌∷◌, length, get_or, take, drop, Option, sym, refl, subst, ⊎_elim, arith, length-take}
use lib.ListN.{get_or-map}
use Rattle.std.proofs.lemmas.Bool.{cases_Bool, leb-true, and_parts}
use Rattle.std.specs.declared.option.Option.TheVariants as option
use Rattle.model.specs.Blocks.{Block}
use Rattle.model.specs.Bulk.{with_sense}
use Rattle.model.specs.Bytes.{byte, between}
use Rattle.model.specs.Control.{alter, unit_at, interface_at, find_unit, sized, put_to_unit, asked, when_present}
use Rattle.model.specs.Events.{Event, control, bulk, work, clock, reset, suspend, resume, power, step, after}
use Rattle.model.specs.Identities.{is_negotiable}
use Rattle.model.specs.Layouts.{Layout, sum}
use Rattle.model.specs.Puts.{UnitPut, carried, misfit, store, match, change, erase, forget, lock_again, correct, judged, turned}
use Rattle.model.specs.Recovery.{steps_done_of, first_recovering, advanced, work_on, worked}
use Rattle.model.specs.Requests.{requested, shortest, longest}
use Rattle.model.specs.Sticks.{Stick}
use Rattle.model.specs.Units.{Standing, impersonal, locked, unlocked, recovering, UnitRecord, unit_record, new_unit, relocked, powered}
use Rattle.model.specs.declared.request.Asked.{Asked}
use Rattle.model.specs.declared.request.Put.{Put}
use Rattle.model.specs.declared.request.Put.TheVariants.{StorePassphrase, MatchPassphrase, ChangePassphrase, ErasePassphrase, EraseForgottenPassphrase, LockAgain, ChangeInterfaceAccess}
use Rattle.model.specs.declared.request.Request.{Request}
use Rattle.model.specs.declared.request.Request.TheVariants.{DeviceDescriptor, Bundle, LockData, HighestUnit, ClearJam, PutTo}
use Rattle.model.specs.Parts.{Secret, phrase_in, hint_in, parts_fill, nth_part, secret_of, change_of, secret_in, change_in}
use Rattle.model.specs.Presence.{presented}
use Rattle.model.specs.declared.sense.Sense.{Sense}
use Rattle.privacy.specs.Claims.{phrase_of, Within, StaysWithin}
use Rattle.privacy.proofs.Calm.{when_present_all, cond_all, cond_facts, Calm, still, noted, wrote, shown, request_calm, unlisted_calm, bulked_calm, passed_calm, control_next, is_unit_put}
use Rattle.privacy.proofs.Asking.{asking, unit_put_is}
use Rattle.privacy.proofs.Lists.{alter_rel, replicate_getD}

-- Parts that were read are short enough

Brief : ℕ → Option (List ℕ) → Type 0
Brief n option.None = Unit {0}
Brief n (option.Some bs) = length bs ≤ n

Small : Option Secret → Type 0
Small option.None = Unit {0}
Small (option.Some q) = (length q.phrase ≤ 50) × (length q.hint ≤ 100)

Slight : Option (List ℕ × Secret) → Type 0
Slight option.None = Unit {0}
Slight (option.Some c) = (length c.1.phrase ≤ 50) × (length c.1.hint ≤ 100)

cut_short : (n most : ℕ) (ds : List ℕ) → n ≤ most → length (take (n - 3) ds) ≤ most - 3
cut_short n most ds h = rw (length-take (n - 3) ds) (omega arith)

phrase_short : (bs : List ℕ) → Brief 50 (phrase_in bs)
unfolding Brief
phrase_short bs =
    cond_facts (Brief 50) (between 3 53 (length bs) && (eqb (byte bs 1) 0x25 && eqb (byte bs (length bs - 1)) 0)) _ _
    (λ e. cut_short (length bs) 53 (drop 2 bs) (leb-true (length bs) 53 (and_parts (leb 3 (length bs)) (leb (length bs) 53) (and_parts (between 3 53 (length bs)) _ e).0).1)) (λ e. tt)

hint_short : (bs : List ℕ) → Brief 100 (hint_in bs)
unfolding Brief
hint_short bs =
    cond_facts (Brief 100) (between 3 103 (length bs) && eqb (byte bs 1) 0x25) _ _
    (λ e. cut_short (length bs) 103 (drop 2 bs) (leb-true (length bs) 103 (and_parts (leb 3 (length bs)) (leb (length bs) 103) (and_parts (between 3 103 (length bs)) _ e).0).1)) (λ e. tt)

secret_small : (p h : Option (List ℕ)) → Brief 50 p → Brief 100 h → Small (secret_of p h)
unfolding Brief Small
secret_small option.None h a b = tt
secret_small (option.Some p) option.None a b = tt
secret_small (option.Some p) (option.Some h) a b = (a, b)

change_slight : (c : Option (List ℕ)) (q : Option Secret) → Small q → Slight (change_of c q)
unfolding Small Slight
change_slight option.None q a = tt
change_slight (option.Some c) option.None a = tt
change_slight (option.Some c) (option.Some q) a = a

no_secret : Small option.None
unfolding Small
no_secret = tt

no_change : Slight option.None
unfolding Slight
no_change = tt

secret_in_small : (ds : List ℕ) → Small (secret_in ds)
secret_in_small ds = cond_all Small (parts_fill 2 ds) _ _ (secret_small (phrase_in (nth_part 2 0 ds)) (hint_in (nth_part 2 1 ds)) (phrase_short (nth_part 2 0 ds)) (hint_short (nth_part 2 1 ds))) no_secret

change_in_slight : (ds : List ℕ) → Slight (change_in ds)
change_in_slight ds =
    cond_all Slight (parts_fill 3 ds) _ _
    (change_slight (phrase_in (nth_part 3 0 ds)) (secret_of (phrase_in (nth_part 3 1 ds)) (hint_in (nth_part 3 2 ds))) (secret_small (phrase_in (nth_part 3 1 ds)) (hint_in (nth_part 3 2 ds)) (phrase_short (nth_part 3 1 ds)) (hint_short (nth_part 3 2 ds)))) no_change

-- a Put that brings no more than a record may hold
Modest : UnitPut → Type 0
Modest misfit = Unit {0}
Modest (store q) = Small q
Modest (match c) = Unit {0}
Modest (change c) = Slight c
Modest (erase c) = Unit {0}
Modest forget = Unit {0}
Modest lock_again = Unit {0}

carried_modest : (p : Put) (ds : List ℕ) → Modest (carried p ds)
unfolding Modest
carried_modest StorePassphrase ds = secret_in_small ds
carried_modest MatchPassphrase ds = tt
carried_modest ChangePassphrase ds = change_in_slight ds
carried_modest ErasePassphrase ds = tt
carried_modest EraseForgottenPassphrase ds = tt
carried_modest LockAgain ds = tt
carried_modest ChangeInterfaceAccess ds = tt

no_modest : Modest misfit
unfolding Modest
no_modest = tt

sized_modest : (p : Put) (n : ℕ) (ds : List ℕ) → Modest (sized p n ds)
sized_modest p n ds = cond_all Modest (between (shortest p) (longest p) n && eqb n (length ds)) _ _ (carried_modest p ds) no_modest

-- One record

noted_within : (a : Bool) (n : Sense) (x : UnitRecord) → Within x → Within (unit_record x.standing x.hint x.misses a n)
noted_within a n x w = record { phrase = w.phrase; hint = w.hint; misses = w.misses }

missed_within : (a : Bool) (n : Sense) (x : UnitRecord) → Within x → Within (unit_record x.standing x.hint (min 10 (x.misses + 1)) a n)
missed_within a n x w = record { phrase = w.phrase; hint = w.hint; misses = omega arith }

module _ (x : UnitRecord) (w : Within x) (st : Standing) (e : x.standing ≡ st) where
  holds_short : length (phrase_of st) ≤ 50
  holds_short = subst (λ s. length (phrase_of s) ≤ 50) e w.phrase

put_within : (ok : Bool) (st : Standing) (p : UnitPut) (x : UnitRecord) → x.standing ≡ st → Modest p → Within x → Within (judged ok st p x).after
unfolding Modest Small Slight
put_within ok impersonal misfit x e h w = noted_within _ _ x w
put_within ok impersonal (store option.None) x e h w = noted_within _ _ x w
put_within ok impersonal (store (option.Some q)) x e h w = record { phrase = h.0; hint = h.1; misses = omega arith }
put_within ok impersonal (match c) x e h w = noted_within _ _ x w
put_within ok impersonal (change c) x e h w = noted_within _ _ x w
put_within ok impersonal (erase c) x e h w = noted_within _ _ x w
put_within ok impersonal forget x e h w = noted_within _ _ x w
put_within ok impersonal lock_again x e h w = noted_within _ _ x w
put_within ok (locked q) misfit x e h w = noted_within _ _ x w
put_within ok (locked q) (store c) x e h w = noted_within _ _ x w
put_within ok (locked q) (match option.None) x e h w = noted_within _ _ x w
put_within true (locked q) (match (option.Some c)) x e h w = record { phrase = holds_short x w (locked q) e; hint = w.hint; misses = omega arith }
put_within false (locked q) (match (option.Some c)) x e h w = missed_within _ _ x w
put_within ok (locked q) (change c) x e h w = noted_within _ _ x w
put_within ok (locked q) (erase c) x e h w = noted_within _ _ x w
put_within ok (locked q) forget x e h w = record { phrase = holds_short x w (locked q) e; hint = w.hint; misses = w.misses }
put_within ok (locked q) lock_again x e h w = noted_within _ _ x w
put_within ok (unlocked q) misfit x e h w = noted_within _ _ x w
put_within ok (unlocked q) (store c) x e h w = noted_within _ _ x w
put_within ok (unlocked q) (match c) x e h w = noted_within _ _ x w
put_within ok (unlocked q) (change option.None) x e h w = noted_within _ _ x w
put_within true (unlocked q) (change (option.Some c)) x e h w = record { phrase = h.0; hint = h.1; misses = omega arith }
put_within false (unlocked q) (change (option.Some c)) x e h w = missed_within _ _ x w
put_within ok (unlocked q) (erase option.None) x e h w = noted_within _ _ x w
put_within true (unlocked q) (erase (option.Some c)) x e h w = record { phrase = omega arith; hint = omega arith; misses = omega arith }
put_within false (unlocked q) (erase (option.Some c)) x e h w = missed_within _ _ x w
put_within ok (unlocked q) forget x e h w = noted_within _ _ x w
put_within true (unlocked q) lock_again x e h w = record { phrase = holds_short x w (unlocked q) e; hint = w.hint; misses = w.misses }
put_within false (unlocked q) lock_again x e h w = noted_within _ _ x w
put_within ok (recovering q d) misfit x e h w = noted_within _ _ x w
put_within ok (recovering q d) (store c) x e h w = w
put_within ok (recovering q d) (match c) x e h w = w
put_within ok (recovering q d) (change c) x e h w = w
put_within ok (recovering q d) (erase c) x e h w = w
put_within ok (recovering q d) forget x e h w = w
put_within ok (recovering q d) lock_again x e h w = w

worked_within : (final : Bool) (st : Standing) (x : UnitRecord) → x.standing ≡ st → Within x → Within (advanced final st x)
worked_within final impersonal x e w = w
worked_within final (locked q) x e w = w
worked_within final (unlocked q) x e w = w
worked_within true (recovering q d) x e w = record { phrase = omega arith; hint = omega arith; misses = omega arith }
worked_within false (recovering q d) x e w = record { phrase = holds_short x w (recovering q d) e; hint = w.hint; misses = w.misses }

relocked_phrase : (st : Standing) → phrase_of (relocked st) ≡ phrase_of st
relocked_phrase impersonal = refl
relocked_phrase (locked p) = refl
relocked_phrase (unlocked p) = refl
relocked_phrase (recovering p d) = refl

powered_within : (x : UnitRecord) → Within x → Within (powered x)
powered_within x w = record { phrase = subst (λ (p : List ℕ). length p ≤ 50) (sym (relocked_phrase x.standing)) w.phrase; hint = w.hint; misses = w.misses }

new_unit_within : Within new_unit
new_unit_within = record { phrase = omega arith; hint = omega arith; misses = omega arith }

-- All records of a stick

AllIn : Stick → Type 0
AllIn s = (v : ℕ) → Within (unit_at v s)

by_units : (s t : Stick) (rs : List UnitRecord) → t.units ≡ rs → ((v : ℕ) → Within (get_or rs v new_unit)) → AllIn t
unfolding AllIn
by_units s t rs e a v = subst (λ (r : List UnitRecord). Within (get_or r v new_unit)) (sym e) (a v)

alter_within : (s : Stick) (v : ℕ) (f : UnitRecord → UnitRecord) → ((x : UnitRecord) → Within x → Within (f x)) → AllIn s → (u : ℕ) → Within (get_or (alter v f s.units) u new_unit)
unfolding AllIn
alter_within s v f h a u = alter_rel (λ (x y : UnitRecord). Within x → Within y) s.units v u f new_unit (λ x w. w) h (a u)

calm_within : (lay : Layout) (s t : Stick) → Calm lay s t → AllIn s → AllIn t
unfolding AllIn
calm_within lay s t (still r m) a = by_units s t s.units r a
calm_within lay s t (noted v n r m) a = by_units s t _ r (alter_within s v (with_sense n) (λ x w. noted_within _ n x w) a)
calm_within lay s t (wrote v b k ds n l f r m) a = by_units s t _ r (alter_within s v (with_sense n) (λ x w. noted_within _ n x w) a)
calm_within lay s t (shown r m) a = by_units s t _ r (λ v. subst Within (sym (get_or-map presented s.units v new_unit)) (noted_within _ _ (unit_at v s) (a v)))

put_to_within : (f : Option ℕ) (n : Bool) (p : UnitPut) (s : Stick) → Modest p → AllIn s → AllIn (put_to_unit f n p s).next
unfolding AllIn
put_to_within option.None n p s h a = a
put_to_within (option.Some v) n p s h a = alter_within s v (λ x. (turned n p x).after) (λ x w. put_within (correct n x p) x.standing p x refl h w) a

request_within : (lay : Layout) (s : Stick) (r : Request) (n : ℕ) (ds : List ℕ) → AllIn s → AllIn (asking lay r n ds s).next
unfolding asking
request_within lay s DeviceDescriptor n ds a = calm_within lay s _ (request_calm lay s DeviceDescriptor n ds refl) a
request_within lay s Bundle n ds a = calm_within lay s _ (request_calm lay s Bundle n ds refl) a
request_within lay s (LockData target) n ds a = calm_within lay s _ (request_calm lay s (LockData target) n ds refl) a
request_within lay s (HighestUnit i) n ds a = calm_within lay s _ (request_calm lay s (HighestUnit i) n ds refl) a
request_within lay s (ClearJam i) n ds a = calm_within lay s _ (request_calm lay s (ClearJam i) n ds refl) a
request_within lay s (PutTo p target) n ds a =
    ⊎_elim
    (λ e. when_present_all (λ o. AllIn o.next) s.phase s _ a a
    (subst (λ o. AllIn o.next) (sym (unit_put_is lay p target.interface target.unit n ds s e)) (put_to_within (find_unit lay target.interface target.unit) (is_negotiable (interface_at target.interface s).ids) (sized p n ds) s (sized_modest p n ds) a)))
    (λ e. calm_within lay s _ (request_calm lay s (PutTo p target) n ds e) a)
    (cases_Bool (is_unit_put p))

served_within : (lay : Layout) (s : Stick) (o : Option Asked) (ds : List ℕ) → AllIn s → AllIn (when_present s.phase s (asked lay o ds s)).next
unfolding asking
served_within lay s option.None ds a = calm_within lay s _ (unlisted_calm lay s) a
served_within lay s (option.Some o) ds a = request_within lay s o.request o.length ds a

work_within : (lay : Layout) (s : Stick) → AllIn s → AllIn (worked lay s)
unfolding AllIn
work_within lay s a =
    let v = first_recovering s.units in
    cond_all AllIn (ltb v (length s.units)) (work_on lay v (steps_done_of (unit_at v s).standing) s) s
    (alter_within s v _ (λ x w. worked_within _ x.standing x refl w) a) a

step_within : (lay : Layout) (s : Stick) (e : Event) → AllIn s → AllIn (step lay s e).next
unfolding AllIn
step_within lay s (control setup ds) a = subst AllIn (sym (control_next lay s setup ds)) (served_within lay s (requested setup) ds a)
step_within lay s (bulk i cbw ds) a = calm_within lay s _ (bulked_calm lay s i cbw ds) a
step_within lay s work a = work_within lay s a
step_within lay s (clock ms) a = calm_within lay s _ (passed_calm lay s ms s.phase) a
step_within lay s reset a = a
step_within lay s suspend a = a
step_within lay s resume a = a
step_within lay s power a = λ v. subst Within (sym (get_or-map powered s.units v new_unit)) (powered_within (unit_at v s) (a v))

all_within : (lay : Layout) (m : List Block) (h : List Event) → AllIn (after lay m h)
unfolding AllIn
all_within lay m [] = λ v. subst Within (sym (replicate_getD (sum lay.counts) v new_unit)) new_unit_within
all_within lay m (e ∷ past) = step_within lay (after lay m past) e (all_within lay m past)

pub stays_within : StaysWithin
unfolding AllIn
stays_within lay m h u = all_within lay m h u
