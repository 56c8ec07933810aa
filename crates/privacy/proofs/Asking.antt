-- A listed request, as the stick serves it.
use Rattle.std.proofs.Common.{◌≡◌, ℕ, true, List, refl}
use Rattle.std.proofs.lemmas.Bool.{false≢true}
use Rattle.model.specs.Control.{Outcome, find_unit, interface_at, sized, put_to_unit, put, request, when_present}
use Rattle.model.specs.Identities.{is_negotiable}
use Rattle.model.specs.Layouts.{Layout}
use Rattle.model.specs.Sticks.{Stick}
use Rattle.model.specs.declared.request.Put.{Put}
use Rattle.model.specs.declared.request.Put.TheVariants.{StorePassphrase, MatchPassphrase, ChangePassphrase, ErasePassphrase, EraseForgottenPassphrase, LockAgain, ChangeInterfaceAccess}
use Rattle.model.specs.declared.request.Request.{Request}
use Rattle.privacy.proofs.Calm.{is_unit_put}

unfoldable pub asking : Layout → Request → ℕ → List ℕ → Stick → Outcome
asking lay r n ds s = when_present s.phase s (request lay r n ds s)

-- a Put to a unit
pub unit_put_is : (lay : Layout) (p : Put) (i k n : ℕ) (ds : List ℕ) (s : Stick) → is_unit_put p ≡ true →
    put lay p i k n ds s ≡ put_to_unit (find_unit lay i k) (is_negotiable (interface_at i s).ids) (sized p n ds) s
unit_put_is lay StorePassphrase i k n ds s e = refl
unit_put_is lay MatchPassphrase i k n ds s e = refl
unit_put_is lay ChangePassphrase i k n ds s e = refl
unit_put_is lay ErasePassphrase i k n ds s e = refl
unit_put_is lay EraseForgottenPassphrase i k n ds s e = refl
unit_put_is lay LockAgain i k n ds s e = refl
unit_put_is lay ChangeInterfaceAccess i k n ds s e = absurd (false≢true e)
