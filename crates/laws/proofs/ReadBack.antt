-- What a WRITE leaves, and a READ of it.
use Rattle.std.proofs.Common.{◌≡◌, ℕ, zero, suc, ◌+◌, ◌*◌, ◌<◌, ◌≤◌, ◌⊎◌, List, [], ◌∷◌, length, get_or, take, Some, Option, sym, refl, ap, ◌∙◌, subst, inl, inr, ⊎_elim, arith}
use Rattle.model.specs.Blocks.{Block, bad}
use Rattle.model.specs.Bulk.{Completed, bulked, command, commanded, ended, place_at, with_sense}
use Rattle.model.specs.Commands.{Ending, ending, barrier, good_run, bytes_from, moving, performed}
use Rattle.model.specs.Control.{alter, find_unit, unit_at}
use Rattle.model.specs.Layouts.{Layout}
use Rattle.model.specs.Sticks.{Stick}
use Rattle.model.specs.Units.{UnitRecord, new_unit}
use Rattle.model.specs.Wrappers.{cbw_in}
use Rattle.model.specs.declared.command.Cbw.{Cbw}
use Rattle.model.specs.declared.command.Command.{Command}
use Rattle.model.specs.declared.command.Command.TheVariants.{TestUnitReady, RequestSense, Inquiry, ReadCapacity, Read, Write, Rejected}
use Rattle.model.specs.declared.command.Direction.{Direction}
use Rattle.model.specs.declared.command.Direction.TheVariants.{In}
use Rattle.model.specs.declared.command.Status.TheVariants.{Passed}
use Rattle.model.specs.declared.layout.Place.{Place}
use Rattle.model.specs.declared.sense.Sense.{Sense}
use Rattle.model.specs.declared.sense.Sense.TheVariants.{None}
use Rattle.laws.specs.BulkLaws.{Ends, block_of, status_of, wrapper, WrittenIsRead}
use Rattle.laws.proofs.Bulks.{Taken, any_way, to_command}
use Rattle.laws.proofs.Endings.{Wrote, any_end, read_leaves, reads, write_leaves, wrote}
use Rattle.laws.proofs.Moves.{length_stored, run_le, stored_bytes, stored_other, stored_run}

same_some : {A : Type 0} (o : Option A) (x y : A) → o ≡ Some x → o ≡ Some y → x ≡ y
same_some o x y p q = cc

-- a command leaves its unit's standing
standing_kept : (v : ℕ) (x : Sense) (us : List UnitRecord) → (get_or (alter v (with_sense x) us) v new_unit).standing ≡ (get_or us v new_unit).standing
standing_kept v x [] = refl
standing_kept zero x (u ∷ us) = refl
standing_kept (suc v) x (u ∷ us) = standing_kept v x us

-- the second call, on the stick that the first left
module _ (lay : Layout) (s : Stick) (i k v a n t t' h h' : ℕ) (d : Direction) (out back ds buf : List ℕ)
    (says : cbw_in back ≡ Some (wrapper t' h' In k (Read a n))) (meant : 512 * n ≤ h') (room : h' ≤ length buf) where
  abbrev first : Ending
  first = performed (place_at lay v) (barrier (unit_at v s).standing) (unit_at v s).sense h d (Write a n) ds s.blocks

  abbrev left : Stick
  left = (ended v (wrapper t h d k (Write a n)) first s).next

  second : Taken lay i out ds s (wrapper t h d k (Write a n)) v → Wrote (place_at lay v) (barrier (unit_at v s).standing) h a n ds s.blocks first
      → performed (place_at lay v) (barrier (unit_at v left).standing) (unit_at v left).sense h' In (Read a n) buf left.blocks
      ≡ ending Passed (take (512 * n) ds) (512 * n) None left.blocks
  second w e =
      let p = place_at lay v in
      let b = p.start + a in
      let enough : 512 * n ≤ length ds = omega (arith, e.enough, w.room) in
      let open_still : barrier (unit_at v left).standing ≡ barrier (unit_at v s).standing = ap barrier (standing_kept v first.sense s.units) in
      let run : good_run n b left.blocks ≡ n = ap (good_run n b) e.after ∙ stored_run n b ds s.blocks n b ∙ e.whole in
      let bytes : bytes_from n b left.blocks ≡ take (512 * n) ds = ap (bytes_from n b) e.after ∙ stored_bytes n b ds s.blocks e.whole enough in
      reads p (barrier (unit_at v left).standing) (unit_at v left).sense h' In a n buf left.blocks (open_still ∙ e.unbarred) e.within meant run
      ∙ ap (λ (bs : List ℕ). ending Passed bs (512 * n) None left.blocks) bytes

  -- it comes to its command too
  again : Taken lay i out ds s (wrapper t h d k (Write a n)) v → Taken lay i back buf left (wrapper t' h' In k (Read a n)) v
  again w = record { present = w.present; there = w.there; free = w.free; is = says; unit = w.unit; room = room }

  second_call : Taken lay i out ds s (wrapper t h d k (Write a n)) v → Wrote (place_at lay v) (barrier (unit_at v s).standing) h a n ds s.blocks first
      → commanded lay i back buf left ≡ ended v (wrapper t' h' In k (Read a n)) (ending Passed (take (512 * n) ds) (512 * n) None left.blocks) left
  second_call w e = to_command lay i back buf left (wrapper t' h' In k (Read a n)) v (again w) ∙ ap (λ x. ended v (wrapper t' h' In k (Read a n)) x left) (second w e)

  abbrev Answered : Stick → Type 0
  Answered u = Ends 0 (bulked lay i back buf u) × ((bulked lay i back buf u).answer ≡ take (512 * n) ds)

  answered : Taken lay i out ds s (wrapper t h d k (Write a n)) v → status_of (ended v (wrapper t h d k (Write a n)) first s).csw ≡ 0 → Answered left
  answered w e =
      subst (λ (o : Completed). ((o.code ≡ 0) × (status_of o.csw ≡ 0)) × (o.answer ≡ take (512 * n) ds))
      (sym (second_call w (wrote (place_at lay v) (barrier (unit_at v s).standing) (unit_at v s).sense h d a n ds s.blocks e))) ((refl, refl), refl)

-- blocks after a WRITE on its unit
write_others : (lay : Layout) (s : Stick) (v a n : ℕ) (h : ℕ) (d : Direction) (ds : List ℕ) (b : ℕ) → (b < block_of lay v a) ⊎ (block_of lay v a + n ≤ b)
    → get_or (performed (place_at lay v) (barrier (unit_at v s).standing) (unit_at v s).sense h d (Write a n) ds s.blocks).blocks b bad ≡ get_or s.blocks b bad
write_others lay s v a n h d ds b out =
    let from = block_of lay v a in
    let g = good_run n from s.blocks in
    let le : g ≤ n = run_le n from s.blocks in
    let past : (b < from) ⊎ (from + g ≤ b) = ⊎_elim (λ (l : b < from). inl l) (λ (l : from + n ≤ b). inr (omega arith)) out in
    any_end (λ e. get_or e.blocks b bad ≡ get_or s.blocks b bad) (place_at lay v) (barrier (unit_at v s).standing) (unit_at v s).sense h d (Write a n) ds s.blocks
    (λ _. refl)
    refl
    (λ _ _ _. ap (λ m. get_or m b bad) (write_leaves a n from g ds s.blocks) ∙ stored_other g from ds s.blocks b past)

-- the number of blocks after any command
moving_count : (p : Place) (x : Sense) (c : Command) (ds : List ℕ) (m : List Block) → length (moving p x c ds m).blocks ≡ length m
moving_count p x TestUnitReady ds m = refl
moving_count p x (RequestSense n) ds m = refl
moving_count p x (Inquiry n) ds m = refl
moving_count p x ReadCapacity ds m = refl
moving_count p x (Read a n) ds m = ap length (read_leaves a n (p.start + a) (good_run n (p.start + a) m) m)
moving_count p x (Write a n) ds m =
    let g = good_run n (p.start + a) m in
    ap length (write_leaves a n (p.start + a) g ds m) ∙ length_stored g (p.start + a) ds m
moving_count p x (Rejected y) ds m = refl

pub written_is_read : WrittenIsRead
written_is_read = record {
  read_back = λ lay s i k a n t t' h h' d out back ds buf is e says meant room.
      any_way (λ o. o.code ≡ 0 → status_of o.csw ≡ 0 → Ends 0 (bulked lay i back buf o.next) × ((bulked lay i back buf o.next).answer ≡ take (512 * n) ds)) lay i out ds s
      (λ j p q. absurd (omega arith))
      (λ q. absurd (omega arith))
      (λ c v w _.
      subst (λ (x : Cbw). Taken lay i out ds s x v → status_of (command lay v x ds s).csw ≡ 0
      → Ends 0 (bulked lay i back buf (command lay v x ds s).next) × ((bulked lay i back buf (command lay v x ds s).next).answer ≡ take (512 * n) ds))
      (same_some (cbw_in out) (wrapper t h d k (Write a n)) c is w.is)
      (answered lay s i k v a n t t' h h' d out back ds buf says meant room) w)
      e.0 e.1;
  others = λ lay s i k a n t h v d out ds is at b far.
      any_way (λ o. get_or o.next.blocks b bad ≡ get_or s.blocks b bad) lay i out ds s
      (λ _ _. refl)
      refl
      (λ c u w.
      subst (λ (x : Cbw). find_unit lay i x.unit ≡ Some u → get_or (command lay u x ds s).next.blocks b bad ≡ get_or s.blocks b bad)
      (same_some (cbw_in out) (wrapper t h d k (Write a n)) c is w.is)
      (λ f. subst (λ (j : ℕ). get_or (command lay j (wrapper t h d k (Write a n)) ds s).next.blocks b bad ≡ get_or s.blocks b bad)
      (same_some (find_unit lay i k) v u at f) (write_others lay s v a n h d ds b far)) w.unit);
  count = λ lay s i cbw ds.
      any_way (λ o. length o.next.blocks ≡ length s.blocks) lay i cbw ds s
      (λ _ _. refl)
      refl
      (λ c v _.
      any_end (λ e. length e.blocks ≡ length s.blocks) (place_at lay v) (barrier (unit_at v s).standing) (unit_at v s).sense c.total c.direction c.command ds s.blocks
      (λ _. refl) refl (λ _ _ _. moving_count (place_at lay v) (unit_at v s).sense c.command ds s.blocks));
  sevens = record { says_write = refl; says_read = refl; passed = (refl, refl); blocks = refl; read = refl };
}
