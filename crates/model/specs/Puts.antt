-- What a Put does to one unit's record.
use Rattle.std.specs.Prelude.{ℕ, ◌+◌, min, Bool, true, false, cond, ◌&&◌, List, [], Some, None, Option, nat_lt}
use Rattle.std.specs.Str.{bytes_eq}
use Rattle.model.specs.Parts.{Secret, candidate_in, secret_in, change_in}
use Rattle.model.specs.Refusals.{refusal_number}
use Rattle.model.specs.Units.{Standing, impersonal, locked, unlocked, recovering, UnitRecord, unit_record}
use Rattle.model.specs.declared.refusal.Refusal.{Refusal}
use Rattle.model.specs.declared.refusal.Refusal.TheVariants.{WrongLength, Recovering, WrongState, Malformed, Incorrect}
use Rattle.model.specs.declared.request.Put.{Put}
use Rattle.model.specs.declared.request.Put.TheVariants.{StorePassphrase, MatchPassphrase, ChangePassphrase, ErasePassphrase, EraseForgottenPassphrase, LockAgain, ChangeInterfaceAccess}

-- a Put to a unit with what it carries, none where that is malformed; `misfit` where the length is not allowed or not the arriving one
pub data UnitPut : Type 0 where
  misfit : UnitPut
  store : Option Secret → UnitPut
  match : Option (List ℕ) → UnitPut
  change : Option (List ℕ × Secret) → UnitPut
  erase : Option (List ℕ) → UnitPut
  forget : UnitPut
  lock_again : UnitPut

-- by the kind of Put and its data; Change Interface Access is no Put to a unit
abbrev pub carried : Put → List ℕ → UnitPut
carried StorePassphrase ds = store (secret_in ds)
carried MatchPassphrase ds = match (candidate_in ds)
carried ChangePassphrase ds = change (change_in ds)
carried ErasePassphrase ds = erase (candidate_in ds)
carried EraseForgottenPassphrase ds = forget
carried LockAgain ds = lock_again
carried ChangeInterfaceAccess ds = misfit

-- the candidate equals the stored passphrase
abbrev pub is_phrase : Standing → List ℕ → Bool
is_phrase impersonal c = false
is_phrase (locked p) c = bytes_eq p c
is_phrase (unlocked p) c = bytes_eq p c
is_phrase (recovering p d) c = bytes_eq p c

-- the test that a Put has to pass: its candidate equals the stored passphrase, with under 10 misses; for Lock Again, the interface
-- presents Negotiable IDs
abbrev pub correct : Bool → UnitRecord → UnitPut → Bool
correct n u misfit = false
correct n u (store q) = false
correct n u (match None) = false
correct n u (match (Some c)) = is_phrase u.standing c && nat_lt u.misses 10
correct n u (change None) = false
correct n u (change (Some c)) = is_phrase u.standing c.0 && nat_lt u.misses 10
correct n u (erase None) = false
correct n u (erase (Some c)) = is_phrase u.standing c && nat_lt u.misses 10
correct n u forget = false
correct n u lock_again = n

-- the refusal number or 0, and the record afterwards
pub record Turn : Type 0 where
  pub code : ℕ
  pub after : UnitRecord

abbrev pub turn : ℕ → UnitRecord → Turn
turn n u = record { code = n; after = u }

-- a recovering unit takes no Put
abbrev pub busy : UnitRecord → Turn
busy u = turn (refusal_number Recovering) u

-- any other refusal of a Put clears the accepted flag; an incorrect candidate adds a miss, up to 10
abbrev pub refused : Refusal → UnitRecord → Turn
refused r u = turn (refusal_number r) (unit_record u.standing u.hint u.misses false u.sense)

abbrev pub missed : UnitRecord → Turn
missed u = turn (refusal_number Incorrect) (unit_record u.standing u.hint (min 10 (u.misses + 1)) false u.sense)

-- accepted, with the misses cleared, or left as they are
abbrev pub done : Standing → List ℕ → UnitRecord → Turn
done st h u = turn 0 (unit_record st h 0 true u.sense)

abbrev pub kept : Standing → UnitRecord → Turn
kept st u = turn 0 (unit_record st u.hint u.misses true u.sense)

-- the unit's standing and the Put together; `ok` tells whether the Put passes its test
abbrev pub judged : Bool → Standing → UnitPut → UnitRecord → Turn
judged ok impersonal misfit u = refused WrongLength u
judged ok impersonal (store None) u = refused Malformed u
judged ok impersonal (store (Some q)) u = done (unlocked q.phrase) q.hint u
judged ok impersonal (match c) u = refused WrongState u
judged ok impersonal (change c) u = refused WrongState u
judged ok impersonal (erase c) u = refused WrongState u
judged ok impersonal forget u = refused WrongState u
judged ok impersonal lock_again u = refused WrongState u
judged ok (locked p) misfit u = refused WrongLength u
judged ok (locked p) (store c) u = refused WrongState u
judged ok (locked p) (match None) u = refused Malformed u
judged ok (locked p) (match (Some c)) u = cond ok (done (unlocked p) u.hint u) (missed u)
judged ok (locked p) (change c) u = refused WrongState u
judged ok (locked p) (erase c) u = refused WrongState u
judged ok (locked p) forget u = kept (recovering p 0) u
judged ok (locked p) lock_again u = refused WrongState u
judged ok (unlocked p) misfit u = refused WrongLength u
judged ok (unlocked p) (store c) u = refused WrongState u
judged ok (unlocked p) (match c) u = refused WrongState u
judged ok (unlocked p) (change None) u = refused Malformed u
judged ok (unlocked p) (change (Some c)) u = cond ok (done (unlocked c.1.phrase) c.1.hint u) (missed u)
judged ok (unlocked p) (erase None) u = refused Malformed u
judged ok (unlocked p) (erase (Some c)) u = cond ok (done impersonal [] u) (missed u)
judged ok (unlocked p) forget u = refused WrongState u
judged ok (unlocked p) lock_again u = cond ok (kept (locked p) u) (refused WrongState u)
judged ok (recovering p d) misfit u = refused WrongLength u
judged ok (recovering p d) (store c) u = busy u
judged ok (recovering p d) (match c) u = busy u
judged ok (recovering p d) (change c) u = busy u
judged ok (recovering p d) (erase c) u = busy u
judged ok (recovering p d) forget u = busy u
judged ok (recovering p d) lock_again u = busy u

abbrev pub turned : Bool → UnitPut → UnitRecord → Turn
turned negotiable p u = judged (correct negotiable u p) u.standing p u
