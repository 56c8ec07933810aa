-- Kinds of Put, told by the request and by what it carries.
use Rattle.std.proofs.Common.{◌≡◌, ℕ, Bool, true, false, ◌&&◌, eqb, List, length, sym, refl, ap, ◌∙◌}
use Rattle.std.proofs.lemmas.Bool.{false≢true, and_right}
use Rattle.model.specs.Bytes.{between}
use Rattle.model.specs.Control.{sized}
use Rattle.model.specs.Puts.{UnitPut, misfit, store, match, change, erase, forget, lock_again, carried, turned}
use Rattle.model.specs.Requests.{shortest, longest}
use Rattle.model.specs.Units.{Standing, impersonal, locked, unlocked, recovering, UnitRecord}
use Rattle.model.specs.declared.request.Put.{Put}
use Rattle.model.specs.declared.request.Put.TheVariants.{StorePassphrase, MatchPassphrase, ChangePassphrase, ErasePassphrase, EraseForgottenPassphrase, LockAgain, ChangeInterfaceAccess}
use Rattle.privacy.specs.Claims.{carries_candidate, opening, locking}
use Rattle.privacy.proofs.Calm.{cond_all}

abbrev pub candidate : UnitPut → Bool
candidate misfit = false
candidate (store q) = false
candidate (match c) = true
candidate (change c) = true
candidate (erase c) = true
candidate forget = false
candidate lock_again = false

abbrev pub opens : UnitPut → Bool
opens misfit = false
opens (store q) = true
opens (match c) = true
opens (change c) = false
opens (erase c) = false
opens forget = false
opens lock_again = false

abbrev pub closes_unit : UnitPut → Bool
closes_unit misfit = false
closes_unit (store q) = false
closes_unit (match c) = false
closes_unit (change c) = false
closes_unit (erase c) = false
closes_unit forget = false
closes_unit lock_again = true

pub candidate_carried : (p : Put) (ds : List ℕ) → candidate (carried p ds) ≡ carries_candidate p
candidate_carried StorePassphrase ds = refl
candidate_carried MatchPassphrase ds = refl
candidate_carried ChangePassphrase ds = refl
candidate_carried ErasePassphrase ds = refl
candidate_carried EraseForgottenPassphrase ds = refl
candidate_carried LockAgain ds = refl
candidate_carried ChangeInterfaceAccess ds = refl

pub opens_carried : (p : Put) (ds : List ℕ) → opens (carried p ds) ≡ opening p
opens_carried StorePassphrase ds = refl
opens_carried MatchPassphrase ds = refl
opens_carried ChangePassphrase ds = refl
opens_carried ErasePassphrase ds = refl
opens_carried EraseForgottenPassphrase ds = refl
opens_carried LockAgain ds = refl
opens_carried ChangeInterfaceAccess ds = refl

pub closes_carried : (p : Put) (ds : List ℕ) → closes_unit (carried p ds) ≡ locking p
closes_carried StorePassphrase ds = refl
closes_carried MatchPassphrase ds = refl
closes_carried ChangePassphrase ds = refl
closes_carried ErasePassphrase ds = refl
closes_carried EraseForgottenPassphrase ds = refl
closes_carried LockAgain ds = refl
closes_carried ChangeInterfaceAccess ds = refl

-- a wrong length is refused
misfit_code : (n : Bool) (st : Standing) (x : UnitRecord) → eqb (Rattle.model.specs.Puts.judged false st misfit x).code 0 ≡ false
misfit_code n impersonal x = refl
misfit_code n (locked p) x = refl
misfit_code n (unlocked p) x = refl
misfit_code n (recovering p d) x = refl

-- so that an accepted Put is of the kind that its request tells
pub same_kind : (kind : Put → Bool) (ukind : UnitPut → Bool) → ((p : Put) (ds : List ℕ) → ukind (carried p ds) ≡ kind p) → (p : Put) (k : ℕ) (ds : List ℕ) (n : Bool) (x : UnitRecord) →
    (kind p && eqb (turned n (sized p k ds) x).code 0) ≡ (ukind (sized p k ds) && eqb (turned n (sized p k ds) x).code 0)
same_kind kind ukind e p k ds n x =
    cond_all (λ q. (kind p && eqb (turned n q x).code 0) ≡ (ukind q && eqb (turned n q x).code 0)) (between (shortest p) (longest p) k && eqb k (length ds)) (carried p ds) misfit
    (ap (λ b. b && eqb (turned n (carried p ds) x).code 0) (sym (e p ds)))
    (and_right (kind p) _ (misfit_code n x.standing x) ∙ sym (and_right (ukind misfit) _ (misfit_code n x.standing x)))

-- what carries a candidate was asked for as such a Put
pub candidate_asked : (p : Put) (k : ℕ) (ds : List ℕ) → candidate (sized p k ds) ≡ true → carries_candidate p ≡ true
candidate_asked p k ds =
    cond_all (λ q. candidate q ≡ true → carries_candidate p ≡ true) (between (shortest p) (longest p) k && eqb k (length ds)) (carried p ds) misfit
    (λ h. sym (candidate_carried p ds) ∙ h) (λ h. absurd (false≢true h))

-- and what is not accepted of the one is not of the other
pub quieter : (a b c d : Bool) → (c ≡ true → b ≡ true) → (a && b && d) ≡ false → (a && c && d) ≡ false
quieter false b c d h q = refl
quieter true b false d h q = refl
quieter true false true d h q = absurd (false≢true (h refl))
quieter true true true d h q = q
