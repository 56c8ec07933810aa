-- What a stick does with any event but a Put does not depend on a Locked unit's secret.
use Rattle.std.proofs.Common.{◌≡◌, ℕ, zero, suc, ◌+◌, ◌-◌, ◌*◌, ◌≤◌, min, Bool, true, false, cond, not, ◌&&◌, ◌||◌, eqb, ltb, leb, ◌⊎◌, List, [], ◌∷◌, map, length, get_or, take, drop, Option, sym, refl, ap, ◌∙◌, subst, ap₂, inl, inr, ⊎_elim, arith}
use Rattle.std.specs.List.{range_with_len}
use Rattle.std.proofs.lemmas.Bool.{true≢false, false≢true, both_ways, leb-true}
use Rattle.std.specs.declared.option.Option.TheVariants as option
use Rattle.model.specs.Blocks.{Block}
use Rattle.model.specs.Bulk.{Completed, turned_down, place_at, with_sense, ended, command, jammed, addressed, wrapped, commanded_when, commanded}
use Rattle.model.specs.Commands.{good_run, bytes_from, stored, barrier, out_of_range, mismatched, Ending, ending, moved_blocks, read_blocks, write_blocks, unless_failed, moving, performed}
use Rattle.model.specs.Control.{Outcome, outcome, refuse, alter, unit_at, interface_at, find_unit, blocks_of, answered, tell_lock_data, with_interface, unjammed, change_access, put, request, when_present, with_phase}
use Rattle.model.specs.Descriptors.{device_descriptor, bundle}
use Rattle.model.specs.Events.{Step, stepped, done}
use Rattle.model.specs.Identities.{is_negotiable}
use Rattle.model.specs.Layouts.{Layout, sum}
use Rattle.model.specs.LockData.{lock_data, lock_data_of}
use Rattle.model.specs.Parts.{Access, access_in}
use Rattle.model.specs.Presence.{presented, presenting, gone_on, passed}
use Rattle.model.specs.Recovery.{zeroed, is_recovering, steps_done_of, first_recovering, advanced, work_on, worked}
use Rattle.model.specs.Refusals.{refusal_number}
use Rattle.model.specs.Sticks.{Stick, stick, interface, units_of_interface, interface_up, repowered}
use Rattle.model.specs.Units.{Standing, impersonal, locked, unlocked, recovering, UnitRecord, unit_record, new_unit, holds_phrase, is_locked, any_standing, any_locked, relocked, powered}
use Rattle.model.specs.Wrappers.{cbw_in}
use Rattle.model.specs.declared.command.Cbw.{Cbw}
use Rattle.model.specs.declared.command.Command.{Command}
use Rattle.model.specs.declared.command.Command.TheVariants.{TestUnitReady, RequestSense, Inquiry, ReadCapacity, Read, Write, Rejected}
use Rattle.model.specs.declared.command.Direction.{Direction}
use Rattle.model.specs.declared.command.Status.TheVariants.{PhaseError}
use Rattle.model.specs.declared.ids.Ids.{Ids}
use Rattle.model.specs.declared.ids.Ids.TheVariants.{Negotiable, ScsiBbb}
use Rattle.model.specs.declared.ids.Interface.{Interface}
use Rattle.model.specs.declared.ids.Phase.{Phase}
use Rattle.model.specs.declared.ids.Phase.TheVariants as phase
use Rattle.model.specs.declared.layout.Place.{Place}
use Rattle.model.specs.declared.refusal.Refusal.{Refusal}
use Rattle.model.specs.declared.refusal.Refusal.TheVariants as refusal
use Rattle.model.specs.declared.request.Put.{Put}
use Rattle.model.specs.declared.request.Put.TheVariants.{ChangeInterfaceAccess}
use Rattle.model.specs.declared.request.Request.{Request}
use Rattle.model.specs.declared.request.Request.TheVariants.{DeviceDescriptor, Bundle, LockData, HighestUnit, ClearJam, PutTo}
use Rattle.model.specs.declared.sense.Sense.{Sense}
use Rattle.model.specs.declared.sense.Sense.TheVariants.{None, OutOfRange, ReadFault, WriteFault}
use Rattle.privacy.specs.Claims.{but, mute, mute_standing, Locked}
use Rattle.privacy.proofs.Places.{Disjoint}
use Rattle.privacy.proofs.Calm.{cond_facts, closes, barrier_closes, is_unit_put, puts}
use Rattle.privacy.proofs.Lists.{alter_rel, alter_alter, alter_map, length_alter, zeroed_twice, zeroed_absorb, run_most, run_outside, bytes_outside, stored_outside}

pub mute_mute_standing : (st : Standing) → mute_standing (mute_standing st) ≡ mute_standing st
mute_mute_standing impersonal = refl
mute_mute_standing (locked p) = refl
mute_mute_standing (unlocked p) = refl
mute_mute_standing (recovering p d) = refl

pub mute_mute : (x : UnitRecord) → mute (mute x) ≡ mute x
mute_mute x = ap (λ st. unit_record st x.hint x.misses x.accepted x.sense) (mute_mute_standing x.standing)

-- what of a standing its passphrase does not enter
pub locked_mute : (st : Standing) → is_locked (mute_standing st) ≡ is_locked st
locked_mute impersonal = refl
locked_mute (locked p) = refl
locked_mute (unlocked p) = refl
locked_mute (recovering p d) = refl

recovering_mute : (st : Standing) → is_recovering (mute_standing st) ≡ is_recovering st
recovering_mute impersonal = refl
recovering_mute (locked p) = refl
recovering_mute (unlocked p) = refl
recovering_mute (recovering p d) = refl

holds_mute : (st : Standing) → holds_phrase (mute_standing st) ≡ holds_phrase st
holds_mute impersonal = refl
holds_mute (locked p) = refl
holds_mute (unlocked p) = refl
holds_mute (recovering p d) = refl

steps_mute : (st : Standing) → steps_done_of (mute_standing st) ≡ steps_done_of st
steps_mute impersonal = refl
steps_mute (locked p) = refl
steps_mute (unlocked p) = refl
steps_mute (recovering p d) = refl

barrier_mute : (st : Standing) → barrier (mute_standing st) ≡ barrier st
barrier_mute impersonal = refl
barrier_mute (locked p) = refl
barrier_mute (unlocked p) = refl
barrier_mute (recovering p d) = refl

lock_data_mute : (n i k : ℕ) (st : Standing) (x : UnitRecord) → lock_data_of n i k (mute_standing st) (mute x) ≡ lock_data_of n i k st x
lock_data_mute n i k impersonal x = refl
lock_data_mute n i k (locked p) x = refl
lock_data_mute n i k (unlocked p) x = refl
lock_data_mute n i k (recovering p d) x = refl

powered_mute : (st : Standing) → mute_standing (relocked (mute_standing st)) ≡ mute_standing (relocked st)
powered_mute impersonal = refl
powered_mute (locked p) = refl
powered_mute (unlocked p) = refl
powered_mute (recovering p d) = refl

advanced_mute : (last : Bool) (st : Standing) (x : UnitRecord) → x.standing ≡ st → mute (advanced last (mute_standing st) (mute x)) ≡ mute (advanced last st x)
advanced_mute last impersonal x e = mute_mute x
advanced_mute last (locked p) x e = mute_mute x
advanced_mute last (unlocked p) x e = mute_mute x
advanced_mute true (recovering p d) x e = refl
advanced_mute false (recovering p d) x e = refl

-- lists of records, one of them muted
alter_mute : (xs : List UnitRecord) (u v : ℕ) (f : UnitRecord → UnitRecord) → ((x : UnitRecord) → mute (f (mute x)) ≡ mute (f x)) → alter u mute (alter v f (alter u mute xs)) ≡ alter u mute (alter v f xs)
alter_mute [] u v f e = refl
alter_mute (x ∷ xs) zero zero f e = ap (λ y. y ∷ xs) (e x)
alter_mute (x ∷ xs) zero (suc v) f e = ap (λ y. y ∷ alter v f xs) (mute_mute x)
alter_mute (x ∷ xs) (suc u) zero f e = ap (λ ys. f x ∷ ys) (alter_alter xs u mute mute ∙ ap (λ g. alter u g xs) (λ i y. mute_mute y i))
alter_mute (x ∷ xs) (suc u) (suc v) f e = ap (λ ys. x ∷ ys) (alter_mute xs u v f e)

pub alter_twice : (xs : List UnitRecord) (u : ℕ) → alter u mute (alter u mute xs) ≡ alter u mute xs
alter_twice xs u = alter_alter xs u mute mute ∙ ap (λ g. alter u g xs) (λ i y. mute_mute y i)

first_mute : (xs : List UnitRecord) (u : ℕ) → first_recovering (alter u mute xs) ≡ first_recovering xs
first_mute [] u = refl
first_mute (x ∷ xs) zero = ap (λ b. cond b 0 (suc (first_recovering xs))) (recovering_mute x.standing)
first_mute (x ∷ xs) (suc u) = ap (λ n. cond (is_recovering x.standing) 0 (suc n)) (first_mute xs u)

any_take : (f : Standing → Bool) → ((st : Standing) → f (mute_standing st) ≡ f st) → (n u : ℕ) (xs : List UnitRecord) → any_standing f (take n (alter u mute xs)) ≡ any_standing f (take n xs)
any_take f e n u [] = refl
any_take f e zero u (x ∷ xs) = refl
any_take f e (suc n) zero (x ∷ xs) = ap (λ b. b || any_standing f (take n xs)) (e x.standing)
any_take f e (suc n) (suc u) (x ∷ xs) = ap (λ b. f x.standing || b) (any_take f e n u xs)

any_part : (f : Standing → Bool) → ((st : Standing) → f (mute_standing st) ≡ f st) → (n k u : ℕ) (xs : List UnitRecord) → any_standing f (take n (drop k (alter u mute xs))) ≡ any_standing f (take n (drop k xs))
any_part f e n zero u xs = any_take f e n u xs
any_part f e n (suc k) u [] = refl
any_part f e n (suc k) zero (x ∷ xs) = refl
any_part f e n (suc k) (suc u) (x ∷ xs) = any_part f e n k u xs

up_mute : (lay : Layout) (u : ℕ) (xs : List UnitRecord) (i : ℕ) → interface_up lay (alter u mute xs) i ≡ interface_up lay xs i
up_mute lay u xs i = ap (λ b. interface (cond b Negotiable ScsiBbb) false) (any_part holds_phrase holds_mute (get_or lay.counts i 0) (sum (take i lay.counts)) u xs)

all_up_mute : (lay : Layout) (u : ℕ) (xs : List UnitRecord) → map (interface_up lay (alter u mute xs)) (range_with_len 0 (length lay.counts)) ≡ map (interface_up lay xs) (range_with_len 0 (length lay.counts))
all_up_mute lay u xs = ap (λ f. map f (range_with_len 0 (length lay.counts))) (λ j i. up_mute lay u xs i j)

-- the record at v, seen with the record at u muted
module _ {B : Type 0} (f : UnitRecord → B) (e : (x : UnitRecord) → f (mute x) ≡ f x) where
  seen : (xs : List UnitRecord) (u v : ℕ) → f (get_or (alter u mute xs) v new_unit) ≡ f (get_or xs v new_unit)
  seen xs u v = alter_rel (λ x y. f y ≡ f x) xs u v mute new_unit (λ x. refl) e

-- Outcomes that differ in nothing but the secret: of an event, a control transfer, a bulk command
pub record Blind (lay : Layout) (u : ℕ) (o p : Step) : Type 0 where
  pub reply : o.reply ≡ p.reply
  pub next : but lay u o.next ≡ but lay u p.next

pub record BlindO (lay : Layout) (u : ℕ) (o p : Outcome) : Type 0 where
  pub code : o.code ≡ p.code
  pub answer : o.answer ≡ p.answer
  pub next : but lay u o.next ≡ but lay u p.next

pub record BlindC (lay : Layout) (u : ℕ) (o p : Completed) : Type 0 where
  pub code : o.code ≡ p.code
  pub csw : o.csw ≡ p.csw
  pub answer : o.answer ≡ p.answer
  pub next : but lay u o.next ≡ but lay u p.next

pub but_eq : (lay : Layout) (u : ℕ) (rs ss : List UnitRecord) (is : List Interface) (ph : Phase) (m n : List Block) → alter u mute rs ≡ alter u mute ss →
    zeroed (place_at lay u).start (place_at lay u).count m ≡ zeroed (place_at lay u).start (place_at lay u).count n → but lay u (stick rs is ph m) ≡ but lay u (stick ss is ph n)
unfolding but
but_eq lay u rs ss is ph m n p q = ap₂ (λ a b. stick a is ph b) p q

pub when_present_two : (R : Outcome → Outcome → Type 0) (ph : Phase) (s t : Stick) (o p : Outcome) → R (refuse refusal.Idle s) (refuse refusal.Idle t) → R (refuse refusal.Gone s) (refuse refusal.Gone t) → R o p → R (when_present ph s o) (when_present ph t p)
when_present_two R phase.Present s t o p a b c = c
when_present_two R (phase.Idle i n x y) s t o p a b c = a
when_present_two R (phase.Gone i n x) s t o p a b c = b

cond_two : {A : Type 0} (R : A → A → Type 0) (b c : Bool) (o p q r : A) → b ≡ c → (b ≡ true → R o q) → (b ≡ false → R p r) → R (cond b o p) (cond c q r)
cond_two R true true o p q r e x y = x refl
cond_two R true false o p q r e x y = absurd (true≢false e)
cond_two R false true o p q r e x y = absurd (false≢true e)
cond_two R false false o p q r e x y = y refl

-- A command's ending, on blocks of which a range outside the command's reach is zeroed

module _ (a k : ℕ) where
  blotted : Ending → Ending
  blotted e = ending e.status e.answer e.moved e.sense (zeroed a k e.blocks)

  Like : Ending → Ending → Type 0
  Like e f = f ≡ blotted e

  moved_like : (count n : ℕ) (x : Sense) (bs : List ℕ) (m : List Block) → Like (moved_blocks count n x bs m) (moved_blocks count n x bs (zeroed a k m))
  unfolding Like blotted
  moved_like count n x bs m = cond_two Like (eqb n count) (eqb n count) _ _ _ _ refl (λ e. refl) (λ e. refl)

  abbrev Out : Place → ℕ → ℕ → Type 0
  Out p x n = (p.start + x + n ≤ a) ⊎ (a + k ≤ p.start + x)

  fewer : (p : Place) (x n g : ℕ) → g ≤ n → Out p x n → Out p x g
  fewer p x n g h (inl o) = inl (omega arith)
  fewer p x n g h (inr o) = inr o

  module _ (p : Place) (s : Sense) (total : ℕ) (d : Direction) (ds : List ℕ) (m : List Block) where
    mismatch_like : (c : Command) (e f : Ending) → Like e f → Like (cond (mismatched total d c) (ending PhaseError [] 0 s m) e) (cond (mismatched total d c) (ending PhaseError [] 0 s (zeroed a k m)) f)
    unfolding Like blotted
    mismatch_like c e f h = cond_two Like (mismatched total d c) (mismatched total d c) _ _ _ _ refl (λ q. refl) (λ q. h)

    range_like : (x n : ℕ) (e f : Ending) → (x + n ≤ p.count → Like e f) → Like (unless_failed (out_of_range p.count x n) m e) (unless_failed (out_of_range p.count x n) (zeroed a k m) f)
    unfolding Like blotted
    range_like x n e f h =
        cond_facts (λ o. Like (unless_failed o m e) (unless_failed o (zeroed a k m) f)) (leb (x + n) p.count) option.None (option.Some OutOfRange)
        (λ q. h (leb-true (x + n) p.count q)) (λ q. refl)

    read_like : (x n : ℕ) → Out p x n → Like (moving p s (Read x n) ds m) (moving p s (Read x n) ds (zeroed a k m))
    unfolding Like
    read_like x n out =
        let b = p.start + x in
        let g = good_run n b m in
        ap (λ j. read_blocks x n b j (zeroed a k m)) (run_outside n b m a k out)
        ∙ ap (λ bs. moved_blocks n g (ReadFault (x + g)) bs (zeroed a k m)) (bytes_outside g b m a k (fewer p x n g (run_most n b m) out))
        ∙ moved_like n g (ReadFault (x + g)) (bytes_from g b m) m

    write_like : (x n : ℕ) → Out p x n → Like (moving p s (Write x n) ds m) (moving p s (Write x n) ds (zeroed a k m))
    unfolding Like
    write_like x n out =
        let b = p.start + x in
        let g = good_run n b m in
        ap (λ j. write_blocks x n b j ds (zeroed a k m)) (run_outside n b m a k out)
        ∙ ap (λ bs. moved_blocks n g (WriteFault (x + g)) [] bs) (stored_outside g b ds m a k (fewer p x n g (run_most n b m) out))
        ∙ moved_like n g (WriteFault (x + g)) [] (stored g b ds m)

    performed_like : (closed : Option Sense) (c : Command) → (closes closed ≡ false → (x n : ℕ) → x + n ≤ p.count → Out p x n) →
        Like (performed p closed s total d c ds m) (performed p closed s total d c ds (zeroed a k m))
    unfolding Like blotted
    performed_like option.None TestUnitReady o = mismatch_like TestUnitReady _ _ refl
    performed_like (option.Some x) TestUnitReady o = refl
    performed_like closed (RequestSense n) o = mismatch_like (RequestSense n) _ _ refl
    performed_like closed (Inquiry n) o = mismatch_like (Inquiry n) _ _ refl
    performed_like closed ReadCapacity o = mismatch_like ReadCapacity _ _ refl
    performed_like option.None (Read x n) o = range_like x n _ _ (λ h. mismatch_like (Read x n) _ _ (read_like x n (o refl x n h)))
    performed_like (option.Some y) (Read x n) o = refl
    performed_like option.None (Write x n) o = range_like x n _ _ (λ h. mismatch_like (Write x n) _ _ (write_like x n (o refl x n h)))
    performed_like (option.Some y) (Write x n) o = refl
    performed_like closed (Rejected x) o = refl

module _ (lay : Layout) (u : ℕ) where
  -- what leaves records and blocks alone
  same_but : (s : Stick) (is : List Interface) (ph : Phase) → but lay u (stick s.units is ph s.blocks) ≡ but lay u (stick (but lay u s).units is ph (but lay u s).blocks)
  unfolding but
  same_but s is ph = but_eq lay u s.units (alter u mute s.units) is ph s.blocks _ (sym (alter_twice s.units u)) (sym (zeroed_twice s.blocks _ _))

  pub idle : (s : Stick) (is : List Interface) (ph : Phase) → Blind lay u (stepped done (stick s.units is ph s.blocks)) (stepped done (stick (but lay u s).units is ph (but lay u s).blocks))
  idle s is ph = record { reply = refl; next = same_but s is ph }

  pub idle_o : (s : Stick) (n : ℕ) (bs : List ℕ) (is : List Interface) (ph : Phase) → BlindO lay u (outcome n bs (stick s.units is ph s.blocks)) (outcome n bs (stick (but lay u s).units is ph (but lay u s).blocks))
  idle_o s n bs is ph = record { code = refl; answer = refl; next = same_but s is ph }

  pub refuse_blind : (s : Stick) (r : Refusal) → BlindO lay u (refuse r s) (refuse r (but lay u s))
  unfolding but
  refuse_blind s r = idle_o s (refusal_number r) [] s.interfaces s.phase

  down : (s : Stick) (r : Refusal) → BlindC lay u (turned_down r s) (turned_down r (but lay u s))
  unfolding but
  down s r = record { code = refl; csw = refl; answer = refl; next = same_but s s.interfaces s.phase }

  jam_blind : (s : Stick) (i : ℕ) → BlindC lay u (Rattle.model.specs.Bulk.jam i s) (Rattle.model.specs.Bulk.jam i (but lay u s))
  unfolding but
  jam_blind s i = record { code = refl; csw = refl; answer = refl; next = same_but s (alter i jammed s.interfaces) s.phase }

  pub seen_locked : (s : Stick) (v : ℕ) → is_locked (unit_at v (but lay u s)).standing ≡ is_locked (unit_at v s).standing
  unfolding but
  seen_locked s v = seen (λ x. is_locked x.standing) (λ x. locked_mute x.standing) s.units u v

  -- Bulk commands

  ended_blind : (s : Stick) (v : ℕ) (c : Cbw) (e : Ending) → BlindC lay u (ended v c e s) (ended v c (blotted (place_at lay u).start (place_at lay u).count e) (but lay u s))
  unfolding but blotted
  ended_blind s v c e = record {
    code = refl;
    csw = refl;
    answer = refl;
    next = but_eq lay u _ _ s.interfaces s.phase e.blocks _
        (sym (alter_mute s.units u v (with_sense e.sense) (λ x. ap (λ st. unit_record st x.hint x.misses x.accepted e.sense) (mute_mute_standing x.standing))))
        (sym (zeroed_twice e.blocks _ _));
  }

  -- a unit that is not Locked is another one, and its blocks lie outside
  outside : Disjoint lay → (s : Stick) (v x n : ℕ) → Locked u s → is_locked (unit_at v s).standing ≡ false → x + n ≤ (place_at lay v).count → Out (place_at lay u).start (place_at lay u).count (place_at lay v) x n
  outside ok s v x n l nl within =
      ⊎_elim (λ h. inr (omega arith)) (λ h. inl (omega arith)) (ok.apart u v (λ e. both_ways _ nl (subst (λ w. Locked w s) e l)))

  command_blind : Disjoint lay → (s : Stick) → Locked u s → (v : ℕ) (c : Cbw) (ds : List ℕ) → BlindC lay u (command lay v c ds s) (command lay v c ds (but lay u s))
  unfolding but Like
  command_blind ok s l v c ds =
      let p = place_at lay v in
      let a = (place_at lay u).start in
      let k = (place_at lay u).count in
      let closed = barrier (unit_at v s).standing in
      let x = (unit_at v s).sense in
      let e = performed p closed x c.total c.direction c.command ds s.blocks in
      let q = ap₂ (λ (b : Option Sense) (y : Sense). performed p b y c.total c.direction c.command ds (zeroed a k s.blocks))
      (seen (λ r. barrier r.standing) (λ r. barrier_mute r.standing) s.units u v) (seen (λ r. r.sense) (λ r. refl) s.units u v)
      ∙ performed_like a k p x c.total c.direction ds s.blocks closed c.command (λ o y n h. outside ok s v y n l (sym (barrier_closes (unit_at v s).standing) ∙ o) h) in
      subst (λ f. BlindC lay u (ended v c e s) (ended v c f (but lay u s))) (sym q) (ended_blind s v c e)

  addressed_blind : Disjoint lay → (s : Stick) → Locked u s → (i : ℕ) (f : Option ℕ) (c : Cbw) (ds : List ℕ) → BlindC lay u (addressed lay i f c ds s) (addressed lay i f c ds (but lay u s))
  addressed_blind ok s l i option.None c ds = jam_blind s i
  addressed_blind ok s l i (option.Some v) c ds =
      cond_two (BlindC lay u) (ltb (length ds) c.total) (ltb (length ds) c.total) _ _ _ _ refl (λ e. down s refusal.ShortBuffer) (λ e. command_blind ok s l v c ds)

  wrapped_blind : Disjoint lay → (s : Stick) → Locked u s → (i : ℕ) (c : Option Cbw) (ds : List ℕ) → BlindC lay u (wrapped lay i c ds s) (wrapped lay i c ds (but lay u s))
  wrapped_blind ok s l i option.None ds = jam_blind s i
  wrapped_blind ok s l i (option.Some c) ds = addressed_blind ok s l i (find_unit lay i c.unit) c ds

  when_blind : Disjoint lay → (s : Stick) → Locked u s → (ph : Phase) (i : ℕ) (cbw ds : List ℕ) → BlindC lay u (commanded_when ph lay i cbw ds s) (commanded_when ph lay i cbw ds (but lay u s))
  unfolding but
  when_blind ok s l phase.Present i cbw ds =
      cond_two (BlindC lay u) (ltb i (length lay.counts)) (ltb i (length lay.counts)) _ _ _ _ refl
      (λ x. cond_two (BlindC lay u) (interface_at i s).jammed (interface_at i s).jammed _ _ _ _ refl (λ y. down s refusal.Jammed) (λ y. wrapped_blind ok s l i (cbw_in cbw) ds))
      (λ x. down s refusal.Absent)
  when_blind ok s l (phase.Idle j t a b) i cbw ds = down s refusal.Idle
  when_blind ok s l (phase.Gone j t b) i cbw ds = down s refusal.Gone

  pub commanded_blind : Disjoint lay → (s : Stick) → Locked u s → (i : ℕ) (cbw ds : List ℕ) → BlindC lay u (commanded lay i cbw ds s) (commanded lay i cbw ds (but lay u s))
  unfolding but
  commanded_blind ok s l i cbw ds = when_blind ok s l s.phase i cbw ds

  -- Control transfers

  answered_blind : (s : Stick) (n room : ℕ) (bs : List ℕ) → BlindO lay u (answered n room bs s) (answered n room bs (but lay u s))
  unfolding but
  answered_blind s n room bs =
      cond_two (BlindO lay u) (ltb room (length (take n bs))) (ltb room (length (take n bs))) _ _ _ _ refl (λ e. refuse_blind s refusal.ShortBuffer) (λ e. idle_o s 0 (take n bs) s.interfaces s.phase)

  lock_data_blind : (s : Stick) (f : Option ℕ) (i k n room : ℕ) → BlindO lay u (tell_lock_data lay f i k n room s) (tell_lock_data lay f i k n room (but lay u s))
  unfolding but
  lock_data_blind s option.None i k n room = refuse_blind s refusal.Absent
  lock_data_blind s (option.Some v) i k n room =
      let c = blocks_of lay v in
      subst (λ bs. BlindO lay u (tell_lock_data lay (option.Some v) i k n room s) (answered n room bs (but lay u s)))
      (sym (seen (λ x. lock_data_of c i k x.standing x) (λ x. lock_data_mute c i k x.standing x) s.units u v))
      (answered_blind s n room (lock_data c i k (unit_at v s)))

  access_blind : (s : Stick) (i : ℕ) (a : Option Access) → BlindO lay u (change_access lay i a s) (change_access lay i a (but lay u s))
  unfolding but
  access_blind s i option.None = refuse_blind s refusal.Malformed
  access_blind s i (option.Some a) =
      cond_two (BlindO lay u) (not (is_negotiable a.target) && any_locked (units_of_interface lay i s.units)) (not (is_negotiable a.target) && any_locked (units_of_interface lay i (but lay u s).units)) _ _ _ _
      (ap (λ b. not (is_negotiable a.target) && b) (sym (any_part is_locked locked_mute (get_or lay.counts i 0) (sum (take i lay.counts)) u s.units)))
      (λ e. refuse_blind s refusal.WrongState) (λ e. idle_o s 0 [] s.interfaces (phase.Idle i a.target a.idle a.gone))

  with_blind : (s : Stick) (i : ℕ) (o p : Outcome) → BlindO lay u o p → BlindO lay u (with_interface lay i s o) (with_interface lay i (but lay u s) p)
  with_blind s i o p b = cond_two (BlindO lay u) (ltb i (length lay.counts)) (ltb i (length lay.counts)) _ _ _ _ refl (λ x. b) (λ x. refuse_blind s refusal.Absent)

  sized_blind : (s : Stick) (b : Bool) (o p : Outcome) → BlindO lay u o p → BlindO lay u (cond b o (refuse refusal.WrongLength s)) (cond b p (refuse refusal.WrongLength (but lay u s)))
  sized_blind s b o p h = cond_two (BlindO lay u) b b _ _ _ _ refl (λ x. h) (λ x. refuse_blind s refusal.WrongLength)

  put_blind : (s : Stick) (p : Put) (i k n : ℕ) (ds : List ℕ) → is_unit_put p ≡ false → BlindO lay u (put lay p i k n ds s) (put lay p i k n ds (but lay u s))
  put_blind s Put.StorePassphrase i k n ds e = absurd (true≢false e)
  put_blind s Put.MatchPassphrase i k n ds e = absurd (true≢false e)
  put_blind s Put.ChangePassphrase i k n ds e = absurd (true≢false e)
  put_blind s Put.ErasePassphrase i k n ds e = absurd (true≢false e)
  put_blind s Put.EraseForgottenPassphrase i k n ds e = absurd (true≢false e)
  put_blind s Put.LockAgain i k n ds e = absurd (true≢false e)
  put_blind s ChangeInterfaceAccess i k n ds e = with_blind s i _ _ (sized_blind s (eqb n 12 && eqb n (length ds)) _ _ (access_blind s i (access_in ds)))

  -- every request but a Put to a unit
  pub request_blind : (s : Stick) (r : Request) (n : ℕ) (ds : List ℕ) → puts r ≡ false → BlindO lay u (request lay r n ds s) (request lay r n ds (but lay u s))
  unfolding but
  request_blind s DeviceDescriptor n ds e = answered_blind s n (length ds) (device_descriptor lay s.interfaces)
  request_blind s Bundle n ds e = answered_blind s n (length ds) (bundle s.interfaces)
  request_blind s (LockData a) n ds e = lock_data_blind s (find_unit lay a.interface a.unit) a.interface a.unit n (length ds)
  request_blind s (HighestUnit i) n ds e = with_blind s i _ _ (sized_blind s (eqb n 1) _ _ (answered_blind s n (length ds) ((get_or lay.counts i 0 - 1) ∷ [])))
  request_blind s (ClearJam i) n ds e = with_blind s i _ _ (sized_blind s (eqb n 0 && eqb n (length ds)) _ _ (idle_o s 0 [] (alter i unjammed s.interfaces) s.phase))
  request_blind s (PutTo p a) n ds e = put_blind s p a.interface a.unit n ds e

  -- Clock, power, work

  present_blind : (s : Stick) (i : ℕ) (t : Ids) → Blind lay u (stepped done (presenting i t s)) (stepped done (presenting i t (but lay u s)))
  unfolding but
  present_blind s i t = record {
    reply = refl;
    next = but_eq lay u _ _ _ _ s.blocks (but lay u s).blocks
        (sym (alter_map s.units u presented mute (λ x. ap (λ st. unit_record st x.hint x.misses false None) (mute_mute_standing x.standing))))
        (sym (zeroed_twice s.blocks _ _));
  }

  gone_blind : (s : Stick) (ms i : ℕ) (t : Ids) (a : ℕ) → Blind lay u (stepped done (gone_on ms i t a s)) (stepped done (gone_on ms i t a (but lay u s)))
  unfolding but
  gone_blind s ms i t a =
      elim (leb a ms) as (λ b. Blind lay u (stepped done (cond b (presenting i t s) (with_phase (phase.Gone i t (a - ms)) s))) (stepped done (cond b (presenting i t (but lay u s)) (with_phase (phase.Gone i t (a - ms)) (but lay u s))))) [
        | true ↦ present_blind s i t
        | false ↦ idle s s.interfaces (phase.Gone i t (a - ms))
      ]

  pub passed_blind : (s : Stick) (ms : ℕ) (ph : Phase) → Blind lay u (stepped done (passed ms ph s)) (stepped done (passed ms ph (but lay u s)))
  unfolding but
  passed_blind s ms phase.Present = idle s s.interfaces s.phase
  passed_blind s ms (phase.Idle i t a b) =
      elim (leb a ms) as (λ c. Blind lay u (stepped done (cond c (gone_on (ms - a) i t b s) (with_phase (phase.Idle i t (a - ms) b) s))) (stepped done (cond c (gone_on (ms - a) i t b (but lay u s)) (with_phase (phase.Idle i t (a - ms) b) (but lay u s))))) [
        | true ↦ gone_blind s (ms - a) i t b
        | false ↦ idle s s.interfaces (phase.Idle i t (a - ms) b)
      ]
  passed_blind s ms (phase.Gone i t a) = gone_blind s ms i t a

  pub power_blind : (s : Stick) → Blind lay u (stepped done (repowered lay s)) (stepped done (repowered lay (but lay u s)))
  unfolding but
  power_blind s = record {
    reply = refl;
    next =
        but_eq lay u (map powered s.units) (map powered (alter u mute s.units)) (map (interface_up lay s.units) (range_with_len 0 (length lay.counts))) phase.Present s.blocks (but lay u s).blocks
        (sym (alter_map s.units u powered mute (λ x. ap (λ st. unit_record st x.hint x.misses false None) (powered_mute x.standing))))
        (sym (zeroed_twice s.blocks _ _))
        ∙ ap (λ is. but lay u (stick (map powered (alter u mute s.units)) is phase.Present (but lay u s).blocks)) (sym (all_up_mute lay u s.units));
  }

  work_by : ℕ → ℕ → ℕ → Stick → Stick
  work_by v d n s = cond (ltb v n) (work_on lay v d s) s

  work_by_blind : (s : Stick) (v d n : ℕ) → Blind lay u (stepped done (work_by v d n s)) (stepped done (work_by v d n (but lay u s)))
  unfolding but work_by
  work_by_blind s v d n =
      elim (ltb v n) as (λ b. Blind lay u (stepped done (cond b (work_on lay v d s) s)) (stepped done (cond b (work_on lay v d (but lay u s)) (but lay u s)))) [
        | true ↦ record {
          reply = refl;
          next = but_eq lay u _ _ s.interfaces s.phase _ _
              (sym (alter_mute s.units u v _ (λ x. advanced_mute _ x.standing x refl)))
              (zeroed_absorb s.blocks (place_at lay u).start (place_at lay u).count ((place_at lay v).start + 16 * d) (min 16 ((place_at lay v).count - 16 * d)));
        }
        | false ↦ idle s s.interfaces s.phase
      ]

  pub work_blind : (s : Stick) → Blind lay u (stepped done (worked lay s)) (stepped done (worked lay (but lay u s)))
  unfolding but work_by
  work_blind s =
      let v = first_recovering s.units in
      let d = steps_done_of (unit_at v s).standing in
      let n = length s.units in
      let e : worked lay (but lay u s) ≡ work_by v d n (but lay u s) =
      ap (λ w. work_by w (steps_done_of (unit_at w (but lay u s)).standing) (length (but lay u s).units) (but lay u s)) (first_mute s.units u)
      ∙ ap₂ (λ x y. work_by v x y (but lay u s)) (seen (λ x. steps_done_of x.standing) (λ x. steps_mute x.standing) s.units u v) (length_alter s.units u mute) in
      subst (λ t. Blind lay u (stepped done (worked lay s)) (stepped done t)) (sym e) (work_by_blind s v d n)
