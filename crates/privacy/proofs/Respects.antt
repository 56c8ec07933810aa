-- To stand alike but for a unit's secret, as one equation and respect by respect.
use Rattle.std.proofs.Common.{◌≡◌, ℕ, zero, suc, ◌+◌, ◌<◌, ◌≤◌, cond, ◌⊎◌, ◌↔◌, List, [], ◌∷◌, length, get_or, sym, refl, ap, ◌∙◌, inl, inr, ⊎_elim, arith, ext_get_or}
use Rattle.std.proofs.lemmas.Bool.{cases_eq, cases_lt}
use Rattle.model.specs.Blocks.{Block, bad, good}
use Rattle.model.specs.Bulk.{place_at}
use Rattle.model.specs.Control.{alter}
use Rattle.model.specs.Layouts.{Layout}
use Rattle.model.specs.Recovery.{zeros, zeroed_block, zeroed}
use Rattle.model.specs.Sticks.{Stick, stick}
use Rattle.model.specs.Units.{Standing, impersonal, locked, unlocked, recovering, UnitRecord, unit_record, new_unit}
use Rattle.model.specs.declared.lock.LockState.{LockState}
use Rattle.model.specs.declared.lock.LockState.TheVariants.{Impersonal, Locked, Unlocked, Recovering}
use Rattle.privacy.specs.Claims.{but, mute_standing, mute, state_of, is_bad_block, AlikeBut, Alike}
use Rattle.privacy.proofs.Lists.{alter_other, length_alter, length_zeroed, zeroed_getD}

abbrev standing_of : LockState → Standing
standing_of Impersonal = impersonal
standing_of Locked = locked []
standing_of Unlocked = unlocked []
standing_of (Recovering d) = recovering [] d

pub unit_mute : (xs : List UnitRecord) (u : ℕ) → get_or (alter u mute xs) u new_unit ≡ mute (get_or xs u new_unit)
unit_mute [] u = refl
unit_mute (x ∷ xs) zero = refl
unit_mute (x ∷ xs) (suc u) = unit_mute xs u

pub zeroed_in : (m : List Block) (s n i : ℕ) → s ≤ i → i < s + n → get_or (zeroed s n m) i bad ≡ zeroed_block (get_or m i bad)
zeroed_in [] s n i a b = refl
zeroed_in (x ∷ m) zero zero i a b = absurd (omega arith)
zeroed_in (x ∷ m) zero (suc n) zero a b = refl
zeroed_in (x ∷ m) zero (suc n) (suc i) a b = zeroed_in m zero n i (omega arith) (omega arith)
zeroed_in (x ∷ m) (suc s) n zero a b = absurd (omega arith)
zeroed_in (x ∷ m) (suc s) n (suc i) a b = zeroed_in m s n i (omega arith) (omega arith)

-- what is blotted out of a standing and a block, and what is left
shown_state : (st : Standing) → state_of (mute_standing st) ≡ state_of st
shown_state impersonal = refl
shown_state (locked p) = refl
shown_state (unlocked p) = refl
shown_state (recovering p d) = refl

muted_by : (st : Standing) → mute_standing st ≡ standing_of (state_of st)
muted_by impersonal = refl
muted_by (locked p) = refl
muted_by (unlocked p) = refl
muted_by (recovering p d) = refl

shown_mark : (x : Block) → is_bad_block (zeroed_block x) ≡ is_bad_block x
shown_mark bad = refl
shown_mark (good bs) = refl

zeroed_by : (x : Block) → zeroed_block x ≡ cond (is_bad_block x) bad (good zeros)
zeroed_by bad = refl
zeroed_by (good bs) = refl

-- two records alike but for the passphrase
same_mute : (x y : UnitRecord) → state_of x.standing ≡ state_of y.standing → x.hint ≡ y.hint → x.misses ≡ y.misses → x.accepted ≡ y.accepted → x.sense ≡ y.sense → mute x ≡ mute y
same_mute x y st h n a e i = unit_record ((muted_by x.standing ∙ ap standing_of st ∙ sym (muted_by y.standing)) i) (h i) (n i) (a i) (e i)

-- a place lies in a range or outside it
pub where_is : (s n i : ℕ) → ((s ≤ i) × (i < s + n)) ⊎ ((i < s) ⊎ (s + n ≤ i))
where_is s n i = ⊎_elim (λ h. inr (inl h)) (λ h. ⊎_elim (λ k. inl (h, k)) (λ k. inr (inr k)) (cases_lt i (s + n))) (cases_lt i s)

module _ (lay : Layout) (u : ℕ) (s t : Stick) where
  a : ℕ
  a = (place_at lay u).start

  c : ℕ
  c = (place_at lay u).count

  to_alike : AlikeBut lay u s t → Alike lay u s t
  unfolding but a c
  to_alike e = record {
    units = sym (length_alter s.units u mute) ∙ ap (λ (x : Stick). length x.units) e ∙ length_alter t.units u mute;
    others = λ v ne. sym (alter_other s.units u v mute new_unit (λ q. ne (sym q))) ∙ ap (λ (x : Stick). get_or x.units v new_unit) e ∙ alter_other t.units u v mute new_unit (λ q. ne (sym q));
    state = sym (shown_state _) ∙ ap (λ (x : UnitRecord). state_of x.standing) own ∙ shown_state _;
    hint = ap (λ (x : UnitRecord). x.hint) own;
    misses = ap (λ (x : UnitRecord). x.misses) own;
    accepted = ap (λ (x : UnitRecord). x.accepted) own;
    sense = ap (λ (x : UnitRecord). x.sense) own;
    interfaces = ap (λ (x : Stick). x.interfaces) e;
    phase = ap (λ (x : Stick). x.phase) e;
    blocks = sym (length_zeroed s.blocks a c) ∙ ap (λ (x : Stick). length x.blocks) e ∙ length_zeroed t.blocks a c;
    outside = out;
    marks = λ i. ⊎_elim
        (λ h. sym (shown_mark _) ∙ ap is_bad_block (sym (zeroed_in s.blocks a c i h.0 h.1) ∙ ap (λ (x : Stick). get_or x.blocks i bad) e ∙ zeroed_in t.blocks a c i h.0 h.1) ∙ shown_mark _)
        (λ h. ap is_bad_block (out i h)) (where_is a c i);
  }
    where
      own : mute (get_or s.units u new_unit) ≡ mute (get_or t.units u new_unit)
      own = sym (unit_mute s.units u) ∙ ap (λ (x : Stick). get_or x.units u new_unit) e ∙ unit_mute t.units u

      out : (i : ℕ) → (i < a) ⊎ (a + c ≤ i) → get_or s.blocks i bad ≡ get_or t.blocks i bad
      out i h = sym (zeroed_getD s.blocks a c i bad h) ∙ ap (λ (x : Stick). get_or x.blocks i bad) e ∙ zeroed_getD t.blocks a c i bad h

  same_units : Alike lay u s t → alter u mute s.units ≡ alter u mute t.units
  same_units k = ext_get_or new_unit (alter u mute s.units) (alter u mute t.units) (length_alter s.units u mute ∙ k.units ∙ sym (length_alter t.units u mute))
      (λ v h. ⊎_elim
      (λ e. ap (λ w. get_or (alter u mute s.units) w new_unit) e ∙ unit_mute s.units u ∙ same_mute _ _ k.state k.hint k.misses k.accepted k.sense ∙ sym (unit_mute t.units u) ∙ sym (ap (λ w. get_or (alter u mute t.units) w new_unit) e))
      (λ ne. alter_other s.units u v mute new_unit (λ q. ne (sym q)) ∙ k.others v ne ∙ sym (alter_other t.units u v mute new_unit (λ q. ne (sym q))))
      (cases_eq v u))

  same_blocks : Alike lay u s t → zeroed (place_at lay u).start (place_at lay u).count s.blocks ≡ zeroed (place_at lay u).start (place_at lay u).count t.blocks
  unfolding a c
  same_blocks k = ext_get_or bad (zeroed a c s.blocks) (zeroed a c t.blocks) (length_zeroed s.blocks a c ∙ k.blocks ∙ sym (length_zeroed t.blocks a c))
      (λ i h. ⊎_elim
      (λ w. zeroed_in s.blocks a c i w.0 w.1 ∙ zeroed_by _ ∙ ap (λ b. cond b bad (good zeros)) (k.marks i) ∙ sym (zeroed_by _) ∙ sym (zeroed_in t.blocks a c i w.0 w.1))
      (λ o. zeroed_getD s.blocks a c i bad o ∙ k.outside i o ∙ sym (zeroed_getD t.blocks a c i bad o))
      (where_is a c i))

  from_alike : Alike lay u s t → AlikeBut lay u s t
  unfolding but
  from_alike k = λ i. stick (same_units k i) (k.interfaces i) (k.phase i) (same_blocks k i)

  pub respects : AlikeBut lay u s t ↔ Alike lay u s t
  respects = (to_alike, from_alike)
