-- What a bulk command leaves as it was.
use Rattle.std.proofs.Common.{◌≡◌, ℕ, zero, suc, ◌+◌, ◌-◌, ◌*◌, ◌≤◌, false, eqb, ◌⊎◌, List, [], ◌∷◌, ◌++◌, length, get_or, drop, sym, refl, ap, ◌∙◌, inl, inr, arith}
use native.Mathlib.Nat.{div-div-eq-div-mul}
use Rattle.std.specs.declared.option.Option.TheVariants as option
use Rattle.std.proofs.lemmas.Bool.{cond_both, true≢false}
use Rattle.model.specs.Blocks.{Block}
use Rattle.model.specs.Bulk.{Bulked, bulk_with, Completed, ended, place_at, with_sense}
use Rattle.model.specs.Bytes.{le32}
use Rattle.model.specs.Commands.{ending, barred, barrier, bytes_from, good_run, is_other, mismatched, moving, needs_open, stored, wrong}
use Rattle.model.specs.Control.{alter, find_unit, unit_at}
use Rattle.model.specs.Layouts.{Layout}
use Rattle.model.specs.Sticks.{Stick, stick}
use Rattle.model.specs.Units.{Standing, impersonal, locked, unlocked, recovering, is_locked, UnitRecord, new_unit}
use Rattle.model.specs.Wrappers.{cbw_in, csw, status_number}
use Rattle.model.specs.declared.command.Cbw.{Cbw}
use Rattle.model.specs.declared.command.Command.{Command}
use Rattle.model.specs.declared.command.Command.TheVariants.{TestUnitReady, RequestSense, Inquiry, ReadCapacity, Read, Write, Rejected}
use Rattle.model.specs.declared.command.Direction.{Direction}
use Rattle.model.specs.declared.command.Direction.TheVariants.{Out, In}
use Rattle.model.specs.declared.command.Status.{Status}
use Rattle.model.specs.declared.command.Status.TheVariants.{Passed, Failed, PhaseError}
use Rattle.model.specs.declared.layout.Place.{Place}
use Rattle.model.specs.declared.sense.Sense.{Sense}
use Rattle.model.specs.declared.sense.Sense.TheVariants.{None, ReadFault, WriteFault}
use Rattle.laws.specs.BulkLaws.{Admitted, FailedBeforeData, Kept, PhaseErrorKeeps, residue_of, status_of, wrapper}
use Rattle.laws.proofs.Bulks.{any_way, fields}
use Rattle.laws.proofs.Endings.{agrees, any_end, fits, in_range, read_leaves, write_leaves, write_moves}
use Rattle.laws.proofs.Moves.{run_le}

-- the residue that a CSW reports is the one put into it
residue_is : (tag r : ℕ) (st : Status) → residue_of (csw tag r st) ≡ r
residue_is tag r st =
    let p = div-div-eq-div-mul r 256 256 in
    let q = div-div-eq-div-mul r 65536 256 in
    omega arith

-- Blocks

open_unit : (st : Standing) → barrier st ≡ option.None → is_locked st ≡ false
open_unit impersonal e = refl
open_unit (locked p) e = let z : ◌≡◌ {A = ℕ} 0 1 = cc in absurd (omega arith)
open_unit (unlocked p) e = refl
open_unit (recovering p d) e = let z : ◌≡◌ {A = ℕ} 0 1 = cc in absurd (omega arith)

out_said : (d : Direction) → is_other d Out ≡ false → Out ≡ d
out_said Out e = refl
out_said In e = absurd (true≢false e)

-- a WRITE of no blocks leaves them
none_written : (p : Place) (a n : ℕ) (ds : List ℕ) (m : List Block) → good_run n (p.start + a) m ≡ 0 → (x : Sense) → (moving p x (Write a n) ds m).blocks ≡ m
none_written p a n ds m z x =
    let b = p.start + a in
    write_leaves a n b (good_run n b m) ds m ∙ ap (λ g. stored g b ds m) z

module _ (lay : Layout) (s : Stick) (i : ℕ) (cbw ds : List ℕ) where
  admitted_write : (t h k v a n : ℕ) (d : Direction) → cbw_in cbw ≡ option.Some (wrapper t h d k (Write a n)) → find_unit lay i k ≡ option.Some v
      → barrier (unit_at v s).standing ≡ option.None → wrong (place_at lay v).count (Write a n) ≡ option.None → mismatched h d (Write a n) ≡ false → Out ≡ d → Admitted lay i cbw s
  admitted_write t h k v a n d is at o w f e = record {
    tag = t;
    total = h;
    unit = k;
    number = v;
    address = a;
    count = n;
    says = is ∙ ap (λ x. option.Some (wrapper t h x k (Write a n))) (sym e);
    found = at;
    unlocked = open_unit (unit_at v s).standing o;
    within = in_range (place_at lay v).count a n w;
    enough = fits (is_other d Out) h (512 * n) f;
  }

  admitted : (t h k v : ℕ) (d : Direction) (c : Command) → cbw_in cbw ≡ option.Some (wrapper t h d k c) → find_unit lay i k ≡ option.Some v
      → barred (needs_open c) (barrier (unit_at v s).standing) ≡ option.None → wrong (place_at lay v).count c ≡ option.None → mismatched h d c ≡ false
      → ((moving (place_at lay v) (unit_at v s).sense c ds s.blocks).blocks ≡ s.blocks) ⊎ Admitted lay i cbw s
  admitted t h k v d TestUnitReady is at o w f = inl refl
  admitted t h k v d (RequestSense n) is at o w f = inl refl
  admitted t h k v d (Inquiry n) is at o w f = inl refl
  admitted t h k v d ReadCapacity is at o w f = inl refl
  admitted t h k v d (Read a n) is at o w f = inl (read_leaves a n ((place_at lay v).start + a) (good_run n ((place_at lay v).start + a) s.blocks) s.blocks)
  admitted t h k v d (Write a zero) is at o w f = inl (none_written (place_at lay v) a 0 ds s.blocks refl (unit_at v s).sense)
  admitted t h k v d (Write a (suc n)) is at o w f =
      inr (admitted_write t h k v a (suc n) d is at o w f (out_said d (agrees (is_other d Out) h (512 * suc n) f (omega arith))))
  admitted t h k v d (Rejected x) is at o w f = inl refl

-- what moved no byte changed no block
unmoved : (p : Place) (x : Sense) (h : ℕ) (d : Direction) (c : Command) (ds : List ℕ) (m : List Block) → mismatched h d c ≡ false
    → h - (moving p x c ds m).moved ≡ h → (moving p x c ds m).blocks ≡ m
unmoved p x h d TestUnitReady ds m f e = refl
unmoved p x h d (RequestSense n) ds m f e = refl
unmoved p x h d (Inquiry n) ds m f e = refl
unmoved p x h d ReadCapacity ds m f e = refl
unmoved p x h d (Read a n) ds m f e = read_leaves a n (p.start + a) (good_run n (p.start + a) m) m
unmoved p x h d (Write a n) ds m f e =
    let b = p.start + a in
    let g = good_run n b m in
    let le : g ≤ n = run_le n b m in
    let enough : 512 * n ≤ h = fits (is_other d Out) h (512 * n) f in
    let same : h - 512 * g ≡ h = ap (λ (y : ℕ). h - y) (sym (write_moves a n b g ds m)) ∙ e in
    none_written p a n ds m (omega arith) x
unmoved p x h d (Rejected y) ds m f e = refl

pub failed_before_data : FailedBeforeData
failed_before_data = record {
  refused = λ lay s i cbw ds.
      any_way (λ o. (o.code ≡ 0 → ⊥) → (o.next.units ≡ s.units) × (o.next.blocks ≡ s.blocks) × (o.answer ++ drop (length o.answer) ds ≡ ds)) lay i cbw ds s
      (λ _ _ _. (refl, refl, refl)) (λ _. (refl, refl, refl)) (λ c v w no. absurd (no refl));
  turned_down = λ lay s i cbw ds.
      any_way (λ o. (o.code ≡ 0 → ⊥) → (o.code ≡ 16 → ⊥) → o.next ≡ s) lay i cbw ds s (λ _ _ _ _. refl) (λ _ no. absurd (no refl)) (λ c v w no _. absurd (no refl));
  admitted = λ lay s i cbw ds.
      any_way (λ o. (o.next.blocks ≡ s.blocks) ⊎ Admitted lay i cbw s) lay i cbw ds s (λ _ _. inl refl) (inl refl)
      (λ c v w.
      any_end (λ e. (e.blocks ≡ s.blocks) ⊎ Admitted lay i cbw s) (place_at lay v) (barrier (unit_at v s).standing) (unit_at v s).sense c.total c.direction c.command ds s.blocks
      (λ _. inl refl) (inl refl) (admitted lay s i cbw ds c.tag c.total c.unit v c.direction c.command w.is w.unit));
  unmoved = λ lay s i cbw ds.
      any_way (λ o. o.code ≡ 0 → residue_of o.csw ≡ le32 cbw 8 → o.next.blocks ≡ s.blocks) lay i cbw ds s (λ _ _ _ _. refl) (λ _ _. refl)
      (λ c v w _.
      any_end (λ e. residue_of (csw c.tag (c.total - e.moved) e.status) ≡ le32 cbw 8 → e.blocks ≡ s.blocks)
      (place_at lay v) (barrier (unit_at v s).standing) (unit_at v s).sense c.total c.direction c.command ds s.blocks
      (λ _ _. refl) (λ _. refl)
      (λ _ _ f e.
      let r = moving (place_at lay v) (unit_at v s).sense c.command ds s.blocks in
      unmoved (place_at lay v) (unit_at v s).sense c.total c.direction c.command ds s.blocks f
      (sym (residue_is c.tag (c.total - r.moved) r.status) ∙ e ∙ sym (fields cbw c w.is).total)));
}

-- Phase errors

-- a unit with the sense that it had
alter_same : (v : ℕ) (us : List UnitRecord) → alter v (with_sense (get_or us v new_unit).sense) us ≡ us
alter_same v [] = refl
alter_same zero (u ∷ us) = refl
alter_same (suc v) (u ∷ us) = ap (λ (xs : List UnitRecord). u ∷ xs) (alter_same v us)

-- data that move end with 0 or 1
no_phase : (p : Place) (x : Sense) (c : Command) (ds : List ℕ) (m : List Block) → status_number (moving p x c ds m).status ≡ 2 → ⊥
no_phase p x TestUnitReady ds m e = omega arith
no_phase p x (RequestSense n) ds m e = omega arith
no_phase p x (Inquiry n) ds m e = omega arith
no_phase p x ReadCapacity ds m e = omega arith
no_phase p x (Read a n) ds m e =
    let b = p.start + a in
    let g = good_run n b m in
    cond_both (eqb g n) (ending Passed (bytes_from g b m) (512 * g) None m) (ending Failed (bytes_from g b m) (512 * g) (ReadFault (a + g)) m)
    (λ r. status_number r.status ≡ 2 → ⊥) (λ _ q. omega arith) (λ _ q. omega arith) e
no_phase p x (Write a n) ds m e =
    let b = p.start + a in
    let g = good_run n b m in
    cond_both (eqb g n) (ending Passed [] (512 * g) None (stored g b ds m)) (ending Failed [] (512 * g) (WriteFault (a + g)) (stored g b ds m))
    (λ r. status_number r.status ≡ 2 → ⊥) (λ _ q. omega arith) (λ _ q. omega arith) e
no_phase p x (Rejected y) ds m e = omega arith

-- a call with the buffer afterwards
abbrev with_buffer : List ℕ → Completed → Bulked
with_buffer ds o = bulk_with o.code o.csw o.answer (o.answer ++ drop (length o.answer) ds) o.next

kept_unit : (cbw ds : List ℕ) (s : Stick) (c : Cbw) (v : ℕ) → c.total ≡ le32 cbw 8 → Kept cbw ds s (with_buffer ds (ended v c (ending PhaseError [] 0 (unit_at v s).sense s.blocks) s))
kept_unit cbw ds s c v e = record {
  stick = ap (λ (us : List UnitRecord). stick us s.interfaces s.phase s.blocks) (alter_same v s.units);
  answer = refl;
  buffer = refl;
  residue = residue_is c.tag (c.total - 0) PhaseError ∙ omega arith;
}

pub phase_error_keeps : PhaseErrorKeeps
phase_error_keeps lay s i cbw ds e =
    any_way (λ o. o.code ≡ 0 → status_of o.csw ≡ 2 → Kept cbw ds s (with_buffer ds o)) lay i cbw ds s (λ n h q _. absurd (omega arith)) (λ q _. absurd (omega arith))
    (λ c v w _.
    any_end (λ r. status_number r.status ≡ 2 → Kept cbw ds s (with_buffer ds (ended v c r s)))
    (place_at lay v) (barrier (unit_at v s).standing) (unit_at v s).sense c.total c.direction c.command ds s.blocks
    (λ _ q. absurd (omega arith)) (λ _. kept_unit cbw ds s c v (fields cbw c w.is).total)
    (λ _ _ _ q. absurd (no_phase (place_at lay v) (unit_at v s).sense c.command ds s.blocks q)))
    e.0 e.1
