-- The ways through a command on its unit: failed by a check, a phase error, or data that move.
use Rattle.std.proofs.Common.{◌≡◌, ℕ, ◌+◌, ◌*◌, ◌<◌, ◌≤◌, Bool, false, cond, ◌&&◌, ◌||◌, eqb, ltb, leb, List, [], Option, refl, ap, ◌∙◌, ⊎_elim, arith}
use Rattle.std.specs.declared.option.Option.TheVariants as option
use Rattle.std.proofs.lemmas.Bool.{and_cases, cond_both, cond-false, cond-true, eqb-true, eq-eqb, le-leb, le-ltb, leb-true, ltb-false, or_parts, and_right}
use Rattle.model.specs.Blocks.{Block}
use Rattle.model.specs.Commands.{Ending, ending, failed, good_run, bytes_from, stored, barred, either, needs_open, wrong, is_other, mismatched, moving, out_of_range, read_blocks, write_blocks, unless_failed, performed}
use Rattle.model.specs.Wrappers.{status_number}
use Rattle.model.specs.declared.command.Command.{Command}
use Rattle.model.specs.declared.command.Command.TheVariants.{Read, Write}
use Rattle.model.specs.declared.command.Direction.{Direction}
use Rattle.model.specs.declared.command.Direction.TheVariants.{Out, In}
use Rattle.model.specs.declared.command.Status.TheVariants.{Passed, Failed, PhaseError}
use Rattle.model.specs.declared.layout.Place.{Place}
use Rattle.model.specs.declared.sense.Sense.{Sense}
use Rattle.model.specs.declared.sense.Sense.TheVariants.{None, OutOfRange, ReadFault, WriteFault}

-- what holds of a command however it ends
module _ (P : Ending → Type 0) (p : Place) (closed : Option Sense) (x : Sense) (h : ℕ) (d : Direction) (c : Command) (ds : List ℕ) (m : List Block)
    (before : (y : Sense) → P (failed y m)) (phased : P (ending PhaseError [] 0 x m))
    (moves : barred (needs_open c) closed ≡ option.None → wrong p.count c ≡ option.None → mismatched h d c ≡ false → P (moving p x c ds m)) where
  checked : barred (needs_open c) closed ≡ option.None → wrong p.count c ≡ option.None → P (cond (mismatched h d c) (ending PhaseError [] 0 x m) (moving p x c ds m))
  checked o w = cond_both (mismatched h d c) (ending PhaseError [] 0 x m) (moving p x c ds m) P (λ _. phased) (moves o w)

  by_checks : (o w : Option Sense) → barred (needs_open c) closed ≡ o → wrong p.count c ≡ w
      → P (unless_failed (either o w) m (cond (mismatched h d c) (ending PhaseError [] 0 x m) (moving p x c ds m)))
  by_checks (option.Some y) w e f = before y
  by_checks option.None (option.Some y) e f = before y
  by_checks option.None option.None e f = checked e f

  pub any_end : P (performed p closed x h d c ds m)
  any_end = by_checks (barred (needs_open c) closed) (wrong p.count c) refl refl

pub in_range : (blocks a n : ℕ) → out_of_range blocks a n ≡ option.None → a + n ≤ blocks
in_range blocks a n =
    cond_both (leb (a + n) blocks) option.None (option.Some OutOfRange) (λ o. o ≡ option.None → a + n ≤ blocks)
    (λ t _. leb-true (a + n) blocks t) (λ _ e. let z : ◌≡◌ {A = ℕ} 0 1 = cc in absurd (omega arith))

-- where host and command agree, the host said enough bytes, and the direction if there are any
pub fits : (w : Bool) (h k : ℕ) → (ltb 0 k && (w || ltb h k)) ≡ false → k ≤ h
fits w h k e =
    ⊎_elim
    (λ (f : ltb 0 k ≡ false). omega (arith, ltb-false 0 k f))
    (λ (f : (w || ltb h k) ≡ false). ltb-false h k (or_parts w (ltb h k) f).1)
    (and_cases (ltb 0 k) (w || ltb h k) e)

pub agrees : (w : Bool) (h k : ℕ) → (ltb 0 k && (w || ltb h k)) ≡ false → 0 < k → w ≡ false
agrees w h k e some =
    ⊎_elim
    (λ (f : ltb 0 k ≡ false). absurd (omega (arith, ltb-false 0 k f)))
    (λ (f : (w || ltb h k) ≡ false). (or_parts w (ltb h k) f).0)
    (and_cases (ltb 0 k) (w || ltb h k) e)

-- what a WRITE that passed was, and what it left
pub record Wrote (p : Place) (closed : Option Sense) (h a n : ℕ) (ds : List ℕ) (m : List Block) (e : Ending) : Type 0 where
  pub unbarred : closed ≡ option.None
  pub within : a + n ≤ p.count
  pub enough : 512 * n ≤ h
  pub whole : good_run n (p.start + a) m ≡ n
  pub after : e.blocks ≡ stored n (p.start + a) ds m

module _ (p : Place) (closed : Option Sense) (x : Sense) (h : ℕ) (d : Direction) (a n : ℕ) (ds : List ℕ) (m : List Block) where
  pub wrote : status_number (performed p closed x h d (Write a n) ds m).status ≡ 0 → Wrote p closed h a n ds m (performed p closed x h d (Write a n) ds m)
  wrote =
      let b = p.start + a in
      let g = good_run n b m in
      any_end (λ e. status_number e.status ≡ 0 → Wrote p closed h a n ds m e) p closed x h d (Write a n) ds m
      (λ y e. absurd (omega arith))
      (λ e. absurd (omega arith))
      (λ o w f. cond_both (eqb g n) (ending Passed [] (512 * g) None (stored g b ds m)) (ending Failed [] (512 * g) (WriteFault (a + g)) (stored g b ds m))
      (λ e. status_number e.status ≡ 0 → Wrote p closed h a n ds m e)
      (λ t _. let same : g ≡ n = eqb-true g n t in
      record { unbarred = o; within = in_range p.count a n w; enough = fits (is_other d Out) h (512 * n) f; whole = same; after = ap (λ k. stored k b ds m) same })
      (λ _ e. absurd (omega arith)))

  -- a READ of good blocks within an open unit passes
  pub reads : closed ≡ option.None → a + n ≤ p.count → 512 * n ≤ h → good_run n (p.start + a) m ≡ n
      → performed p closed x h In (Read a n) ds m ≡ ending Passed (bytes_from n (p.start + a) m) (512 * n) None m
  reads o w l g =
      let b = p.start + a in
      let r = read_blocks a n b (good_run n b m) m in
      ap (λ y. unless_failed (either y (out_of_range p.count a n)) m (cond (mismatched h In (Read a n)) (ending PhaseError [] 0 x m) r)) o
      ∙ ap (λ y. unless_failed y m (cond (mismatched h In (Read a n)) (ending PhaseError [] 0 x m) r))
      (cond-true (leb (a + n) p.count) option.None (option.Some OutOfRange) (le-leb (a + n) p.count w))
      ∙ cond-false (mismatched h In (Read a n)) (ending PhaseError [] 0 x m) r (and_right (ltb 0 (512 * n)) (ltb h (512 * n)) (le-ltb h (512 * n) l))
      ∙ ap (λ k. read_blocks a n b k m) g
      ∙ cond-true (eqb n n) (ending Passed (bytes_from n b m) (512 * n) None m) (ending Failed (bytes_from n b m) (512 * n) (ReadFault (a + n)) m) (eq-eqb n n refl)

-- the blocks after a READ and after a WRITE that passed its checks
pub read_leaves : (a n b g : ℕ) (m : List Block) → (read_blocks a n b g m).blocks ≡ m
read_leaves a n b g m =
    cond_both (eqb g n) (ending Passed (bytes_from g b m) (512 * g) None m) (ending Failed (bytes_from g b m) (512 * g) (ReadFault (a + g)) m)
    (λ e. e.blocks ≡ m) (λ _. refl) (λ _. refl)

pub write_leaves : (a n b g : ℕ) (ds : List ℕ) (m : List Block) → (write_blocks a n b g ds m).blocks ≡ stored g b ds m
write_leaves a n b g ds m =
    cond_both (eqb g n) (ending Passed [] (512 * g) None (stored g b ds m)) (ending Failed [] (512 * g) (WriteFault (a + g)) (stored g b ds m))
    (λ e. e.blocks ≡ stored g b ds m) (λ _. refl) (λ _. refl)

pub write_moves : (a n b g : ℕ) (ds : List ℕ) (m : List Block) → (write_blocks a n b g ds m).moved ≡ 512 * g
write_moves a n b g ds m =
    cond_both (eqb g n) (ending Passed [] (512 * g) None (stored g b ds m)) (ending Failed [] (512 * g) (WriteFault (a + g)) (stored g b ds m))
    (λ e. e.moved ≡ 512 * g) (λ _. refl) (λ _. refl)
