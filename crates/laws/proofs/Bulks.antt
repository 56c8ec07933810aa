-- The ways through a bulk command: turned down with a number, jammed, or carried out on a unit.
use Rattle.std.proofs.Common.{◌≡◌, ℕ, ◌<◌, ◌≤◌, true, false, cond, ◌&&◌, eqb, ltb, List, [], length, Some, None, Option, refl, ap, ◌∙◌, arith}
use Rattle.std.proofs.lemmas.Bool.{and_parts, cond_both, cond-false, cond-true, eqb-true, le-ltb, ltb-false}
use Rattle.model.specs.Bulk.{Completed, completed, turned_down, command, jam, addressed, wrapped, on_interface, commanded_when, commanded}
use Rattle.model.specs.Bytes.{byte, le32}
use Rattle.model.specs.Control.{find_unit, interface_at}
use Rattle.model.specs.Layouts.{Layout}
use Rattle.model.specs.Sticks.{Stick}
use Rattle.model.specs.Wrappers.{cbw_in, cbw_with, direction_told, is_covered, is_signed}
use Rattle.model.specs.declared.command.Cbw.{Cbw}
use Rattle.model.specs.declared.command.Direction.{Direction}
use Rattle.model.specs.declared.ids.Phase.{Phase}
use Rattle.model.specs.declared.ids.Phase.TheVariants.{Present}
use Rattle.model.specs.declared.ids.Phase.TheVariants as phase
use Rattle.model.specs.declared.refusal.Refusal.TheVariants.{Absent, ShortBuffer, Jammed}

-- a call that comes to its command: the stick is there, with the interface, which is not jammed; the CBW is in order, its unit is there, and
-- the buffer has its transfer length
pub record Taken (lay : Layout) (i : ℕ) (cbw ds : List ℕ) (s : Stick) (c : Cbw) (v : ℕ) : Type 0 where
  pub present : s.phase ≡ Present
  pub there : ltb i (length lay.counts) ≡ true
  pub free : (interface_at i s).jammed ≡ false
  pub is : cbw_in cbw ≡ Some c
  pub unit : find_unit lay i c.unit ≡ Some v
  pub room : c.total ≤ length ds

-- what holds of a call however it ends
module _ (P : Completed → Type 0) (lay : Layout) (i : ℕ) (cbw ds : List ℕ) (s : Stick)
    (down : (n : ℕ) → 0 < n → P (completed n [] [] s)) (jams : P (jam i s))
    (done : (c : Cbw) (v : ℕ) → Taken lay i cbw ds s c v → P (command lay v c ds s)) where
  module _ (present : s.phase ≡ Present) (there : ltb i (length lay.counts) ≡ true) (free : (interface_at i s).jammed ≡ false) where
    at_unit : (c : Cbw) → cbw_in cbw ≡ Some c → (o : Option ℕ) → find_unit lay i c.unit ≡ o → P (addressed lay i o c ds s)
    at_unit c e None f = jams
    at_unit c e (Some v) f =
        cond_both (ltb (length ds) c.total) (turned_down ShortBuffer s) (command lay v c ds s) P (λ _. down 14 (omega arith))
        (λ t. done c v (record { present = present; there = there; free = free; is = e; unit = f; room = ltb-false (length ds) c.total t }))

    at_wrapper : (o : Option Cbw) → cbw_in cbw ≡ o → P (wrapped lay i o ds s)
    at_wrapper None e = jams
    at_wrapper (Some c) e = at_unit c e (find_unit lay i c.unit) refl

  at_interface : s.phase ≡ Present → P (on_interface lay i cbw ds s)
  at_interface present =
      let o = wrapped lay i (cbw_in cbw) ds s in
      cond_both (ltb i (length lay.counts)) (cond (interface_at i s).jammed (turned_down Jammed s) o) (turned_down Absent s) P
      (λ there. cond_both (interface_at i s).jammed (turned_down Jammed s) o P (λ _. down 15 (omega arith)) (λ free. at_wrapper present there free (cbw_in cbw) refl))
      (λ _. down 8 (omega arith))

  at_phase : (ph : Phase) → s.phase ≡ ph → P (commanded_when ph lay i cbw ds s)
  at_phase Present e = at_interface e
  at_phase (phase.Idle j t a b) e = down 5 (omega arith)
  at_phase (phase.Gone j t b) e = down 6 (omega arith)

  pub any_way : P (commanded lay i cbw ds s)
  any_way = at_phase s.phase refl

-- on an interface that is there and not jammed, a call comes to its CBW
pub to_wrapper : (lay : Layout) (i : ℕ) (cbw ds : List ℕ) (s : Stick) → s.phase ≡ Present → ltb i (length lay.counts) ≡ true → (interface_at i s).jammed ≡ false
    → commanded lay i cbw ds s ≡ wrapped lay i (cbw_in cbw) ds s
to_wrapper lay i cbw ds s present there free =
    let o = wrapped lay i (cbw_in cbw) ds s in
    ap (λ ph. commanded_when ph lay i cbw ds s) present
    ∙ cond-true (ltb i (length lay.counts)) (cond (interface_at i s).jammed (turned_down Jammed s) o) (turned_down Absent s) there
    ∙ cond-false (interface_at i s).jammed (turned_down Jammed s) o free

-- and then to its command
pub to_command : (lay : Layout) (i : ℕ) (cbw ds : List ℕ) (s : Stick) (c : Cbw) (v : ℕ) → Taken lay i cbw ds s c v → commanded lay i cbw ds s ≡ command lay v c ds s
to_command lay i cbw ds s c v t =
    to_wrapper lay i cbw ds s t.present t.there t.free
    ∙ ap (λ o. wrapped lay i o ds s) t.is
    ∙ ap (λ o. addressed lay i o c ds s) t.unit
    ∙ cond-false (ltb (length ds) c.total) (turned_down ShortBuffer s) (command lay v c ds s) (le-ltb (length ds) c.total t.room)

-- a CBW that is in order has 31 bytes, and its fields where they stand
pub record Fields (cbw : List ℕ) (c : Cbw) : Type 0 where
  pub size : length cbw ≡ 31
  pub tag : c.tag ≡ le32 cbw 4
  pub total : c.total ≡ le32 cbw 8

no_some : {A : Type 0} (x : A) → None ≡ Some x → ⊥
no_some x e = let z : ◌≡◌ {A = ℕ} 0 1 = cc in omega arith

fields_with : (cbw : List ℕ) (c : Cbw) → length cbw ≡ 31 → (o : Option Direction) → cbw_with o cbw ≡ Some c → Fields cbw c
fields_with cbw c l None e = absurd (no_some c e)
fields_with cbw c l (Some d) e = record { size = l; tag = cc; total = cc }

pub fields : (cbw : List ℕ) (c : Cbw) → cbw_in cbw ≡ Some c → Fields cbw c
fields cbw c =
    cond_both (eqb (length cbw) 31 && (is_signed cbw && is_covered cbw)) (cbw_with (direction_told (byte cbw 12)) cbw) None (λ o. o ≡ Some c → Fields cbw c)
    (λ t. fields_with cbw c (eqb-true (length cbw) 31 (and_parts (eqb (length cbw) 31) (is_signed cbw && is_covered cbw) t).0) (direction_told (byte cbw 12)))
    (λ _ e. absurd (no_some c e))
