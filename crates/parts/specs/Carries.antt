-- What a borrowed Put means. A passphrase over 50 bytes or a hint over 100 counts as malformed, whoever hands it in.
use Rattle.std.specs.Prelude.{ℕ, Bool, cond, ◌&&◌, List, length, Some, None, Option, nat_le}
use Rattle.model.specs.Parts.{Secret, secret}
use Rattle.model.specs.Puts.{misfit, store, match, change, erase, forget, lock_again}
use Rattle.model.specs.Puts
use Rattle.model.specs.declared.request.Put.{Put}
use Rattle.model.specs.declared.request.Put.TheVariants.{StorePassphrase, MatchPassphrase, ChangePassphrase, ErasePassphrase, EraseForgottenPassphrase, LockAgain, ChangeInterfaceAccess}
use Rattle.parts.specs.declared.put.UnitPut.{UnitPut}
use Rattle.parts.specs.declared.put.UnitPut.TheVariants as code

abbrev pub fits_record : List ℕ → List ℕ → Bool
fits_record p h = nat_le (length p) 50 && nat_le (length h) 100

abbrev pub weighed_secret : List ℕ → List ℕ → Option Secret
weighed_secret p h = cond (fits_record p h) (Some (secret p h)) None

abbrev pub weighed_change : List ℕ → List ℕ → List ℕ → Option (List ℕ × Secret)
weighed_change c p h = cond (fits_record p h) (Some (c, secret p h)) None

abbrev pub malformed : Put → Puts.UnitPut
malformed StorePassphrase = store None
malformed MatchPassphrase = match None
malformed ChangePassphrase = change None
malformed ErasePassphrase = erase None
malformed EraseForgottenPassphrase = misfit
malformed LockAgain = misfit
malformed ChangeInterfaceAccess = misfit

abbrev pub put_of : UnitPut → Puts.UnitPut
put_of code.Misfit = misfit
put_of (code.Malformed p) = malformed p
put_of (code.Store s) = store (weighed_secret s.phrase.now s.hint.now)
put_of (code.Match c) = match (Some c.now)
put_of (code.Change c s) = change (weighed_change c.now s.phrase.now s.hint.now)
put_of (code.Erase c) = erase (Some c.now)
put_of code.EraseForgotten = forget
put_of code.LockAgain = lock_again
