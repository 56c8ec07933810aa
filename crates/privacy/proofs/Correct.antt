-- The stored passphrase opens a Locked unit.
use Rattle.std.proofs.Common.{◌≡◌, ℕ, suc, ◌+◌, ◌-◌, ◌*◌, ◌<◌, ◌≤◌, Bool, true, cond, ◌&&◌, ltb, List, [], ◌∷◌, ◌++◌, length, take, Some, None, sym, refl, ap, ◌∙◌, subst, ap₂, ⊎_elim, arith}
use Rattle.std.proofs.lemmas.List.{get_or_at, take_at, take_all, length_push}
use Rattle.std.proofs.lemmas.Bool.{true≢false, and_from, eq-eqb, lt-ltb, le-leb}
use Rattle.std.specs.Str.{bytes_eq}
use Rattle.model.specs.Bytes.{byte, between}
use Rattle.model.specs.Control.{Outcome, unit_at, interface_at, sized, put_to_unit, asked, when_present, served}
use Rattle.model.specs.Events.{after}
use Rattle.model.specs.Identities.{is_negotiable}
use Rattle.model.specs.Parts.{phrase_in, candidate_in, parts_fill, nth_part}
use Rattle.model.specs.Puts.{match, misfit, turned}
use Rattle.model.specs.Requests.{requested}
use Rattle.model.specs.Sticks.{Stick}
use Rattle.model.specs.Units.{Standing, impersonal, locked, unlocked, UnitRecord, new_unit}
use Rattle.model.specs.declared.request.Put.TheVariants.{MatchPassphrase}
use Rattle.privacy.specs.Causes.{CorrectOpens}
use Rattle.privacy.proofs.Bounds.{stays_within}
use Rattle.privacy.proofs.Calm.{control_next, control_code}
use Rattle.privacy.proofs.Lists.{alter_at}

same_same : (p : List ℕ) → bytes_eq p p ≡ true
same_same [] = refl
same_same (b ∷ p) = and_from _ _ (eq-eqb b b refl) (same_same p)

-- the data of the Put, and what is read of them
abbrev data_of : List ℕ → List ℕ
data_of p = (length p + 3) ∷ 0x25 ∷ (p ++ 0x00 ∷ [])

module _ (p : List ℕ) (short : length p ≤ 50) where
  long : length (data_of p) ≡ length p + 3
  long = ap (λ n. suc (suc n)) (length_push p 0) ∙ omega arith

  fits_length : (n : ℕ) → n ≡ length p + 3 → between 3 53 n ≡ true
  fits_length n e = and_from _ _ (le-leb 3 n (omega arith)) (le-leb n 53 (omega arith))

  last_byte : (n : ℕ) → n ≡ length p + 3 → byte (data_of p) (n - 1) ≡ 0
  last_byte n e =
      let k : n - 1 ≡ suc (suc (length p)) = omega arith in
      ap (byte (data_of p)) k ∙ get_or_at p 0 [] 0 (length p) refl

  front : (n : ℕ) → n ≡ length p + 3 → take (n - 3) (p ++ 0x00 ∷ []) ≡ p
  front n e = take_at p (0x00 ∷ []) (n - 3) (omega arith)

  phrase_read : phrase_in (data_of p) ≡ Some p
  phrase_read =
      ap (λ b. cond b (Some (take (length (data_of p) - 3) (p ++ 0x00 ∷ []))) None) (and_from _ _ (fits_length _ long) (and_from true _ refl (eq-eqb _ 0 (last_byte _ long))))
      ∙ ap (λ bs. Some bs) (front _ long)

  fills : parts_fill 1 (data_of p) ≡ true
  fills =
      and_from _ _
      (and_from _ _ (and_from _ _ (lt-ltb 0 (length p + 3) (omega arith)) (and_from true _ refl (le-leb (0 + (length p + 3)) (length (data_of p)) (at_most (length (data_of p)) long)))) refl)
      (eq-eqb (0 + (length p + 3)) (length (data_of p)) (added ∙ sym long))
    where
      at_most : (n : ℕ) → n ≡ length p + 3 → 0 + (length p + 3) ≤ n
      at_most n e = omega arith

      added : 0 + (length p + 3) ≡ length p + 3
      added = omega arith

  whole : nth_part 1 0 (data_of p) ≡ data_of p
  whole = take_all (length p + 3) (data_of p) (most (length (data_of p)) long)
    where
      most : (n : ℕ) → n ≡ length p + 3 → n ≤ length p + 3
      most n e = omega arith

  candidate_read : candidate_in (data_of p) ≡ Some p
  candidate_read = ap (λ b. cond b (phrase_in (nth_part 1 0 (data_of p))) None) fills ∙ ap phrase_in whole ∙ phrase_read

  sized_read : (n : ℕ) → n ≡ length p + 3 → sized MatchPassphrase n (data_of p) ≡ match (Some p)
  sized_read n e =
      ap (λ b. cond b (match (candidate_in (data_of p))) misfit) (and_from _ _ (fits_length n e) (eq-eqb n (length (data_of p)) (e ∙ sym long)))
      ∙ ap match candidate_read

-- the Put at the unit's record
judged_open : (n : Bool) (p : List ℕ) (x : UnitRecord) → x.standing ≡ locked p → x.misses < 10 →
    ((turned n (match (Some p)) x).code ≡ 0) × ((turned n (match (Some p)) x).after.standing ≡ unlocked p)
judged_open n p x e m =
    let ok : (bytes_eq p p && ltb x.misses 10) ≡ true = and_from _ _ (same_same p) (lt-ltb x.misses 10 m) in
    rw e (rw ok (refl, refl))

pub correct_opens : CorrectOpens
correct_opens lay m h i k x u p ready found l few =
    let s = after lay m h in
    let short : length p ≤ 50 = subst (λ (st : Standing). length (Rattle.privacy.specs.Claims.phrase_of st) ≤ 50) l (stays_within lay m h u).phrase in
    let n = is_negotiable (interface_at i s).ids in
    let setup = 0x21 ∷ 0xFC ∷ 0x02 ∷ k ∷ i ∷ x ∷ (length p + 3) ∷ 0x00 ∷ [] in
    let e : served lay setup (data_of p) s ≡ put_to_unit (Some u) n (match (Some p)) s =
    ap (λ ph. when_present ph s (asked lay (requested setup) (data_of p) s)) ready
    ∙ ap₂ (λ f q. put_to_unit f n q s) found (sized_read p short (length p + 3 + 256 * 0) (omega arith)) in
    let j = judged_open n p (unit_at u s) l few in (
      control_code lay s setup (data_of p) ∙ ap (λ (o : Outcome). o.code) e ∙ j.0,
      ap (λ (t : Stick). (unit_at u t).standing) (control_next lay s setup (data_of p) ∙ ap (λ (o : Outcome). o.next) e)
          ∙ ⊎_elim (λ a. ap (λ (x : UnitRecord). x.standing) a ∙ j.1) (λ a. absurd (held (sym l ∙ ap (λ (x : UnitRecord). x.standing) a)))
          (alter_at s.units u (λ x. (turned n (match (Some p)) x).after) new_unit),
    )
  where
    held : locked p ≡ impersonal → ⊥
    held q = true≢false (ap Rattle.model.specs.Units.is_locked q)
