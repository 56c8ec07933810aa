-- A request whose length is not allowed is refused with 8 or 9.
use Rattle.std.proofs.Common.{◌≡◌, ℕ, ◌-◌, Bool, false, cond, ◌&&◌, eqb, ltb, ◌⊎◌, List, [], ◌∷◌, length, get_or, Some, None, Option, refl, ap, inl, inr, arith}
use Rattle.std.proofs.lemmas.Bool.{and_left, both_ways, cond_both, true≢false}
use Rattle.std.proofs.lemmas.Bool.Decides.{nat_tests}
use Rattle.model.specs.Bytes.{between}
use Rattle.model.specs.Control.{Outcome, outcome, refuse, alter, with_interfaces, unjammed, unit_at, interface_at, answered, find_unit, with_interface, tell_highest, clear_jam, sized, put_to_unit, change_access, access_sized, request}
use Rattle.model.specs.Identities.{is_negotiable}
use Rattle.model.specs.Layouts.{Layout}
use Rattle.model.specs.Parts.{access_in}
use Rattle.model.specs.Puts.{misfit, carried, judged}
use Rattle.model.specs.Requests.{shortest, longest, length_allowed}
use Rattle.model.specs.Sticks.{Stick}
use Rattle.model.specs.Units.{Standing, impersonal, locked, unlocked, recovering, UnitRecord}
use Rattle.model.specs.declared.refusal.Refusal.TheVariants.{Absent, WrongLength}
use Rattle.model.specs.declared.request.Put.{Put}
use Rattle.model.specs.declared.request.Put.TheVariants.{StorePassphrase, MatchPassphrase, ChangePassphrase, ErasePassphrase, EraseForgottenPassphrase, LockAgain, ChangeInterfaceAccess}
use Rattle.model.specs.declared.request.Request.{Request}
use Rattle.model.specs.declared.request.Request.TheVariants.{DeviceDescriptor, Bundle, LockData, HighestUnit, ClearJam, PutTo}
use Rattle.laws.proofs.Codes.{cond_code}

abbrev pub Unfit : ℕ → Type 0
Unfit k = (k ≡ 8) ⊎ (k ≡ 9)

not_twelve : (n : ℕ) → between 12 12 n ≡ false → eqb n 12 ≡ false
not_twelve n e = grind (arith, nat_tests)

-- there is no such interface, or 9
unfit_interface : (lay : Layout) (i : ℕ) (s : Stick) (o : Outcome) → o.code ≡ 9 → Unfit (with_interface lay i s o).code
unfit_interface lay i s o e = cond_code Unfit (ltb i (length lay.counts)) o (refuse Absent s) (λ _. inr e) (λ _. inl refl)

-- a misfit is refused with 9 in every standing
misfit_code : (ok : Bool) (st : Standing) (u : UnitRecord) → (judged ok st misfit u).code ≡ 9
misfit_code ok impersonal u = refl
misfit_code ok (locked w) u = refl
misfit_code ok (unlocked w) u = refl
misfit_code ok (recovering w d) u = refl

unfit_unit : (o : Option ℕ) (n : Bool) (s : Stick) → Unfit (put_to_unit o n misfit s).code
unfit_unit None n s = inl refl
unfit_unit (Some v) n s = inr (misfit_code false (unit_at v s).standing (unit_at v s))

-- and is what a Put to a unit comes to whose length is not allowed
unfit_put : (lay : Layout) (p : Put) (i k n : ℕ) (ds : List ℕ) (s : Stick) → between (shortest p) (longest p) n ≡ false
    → Unfit (put_to_unit (find_unit lay i k) (is_negotiable (interface_at i s).ids) (sized p n ds) s).code
unfit_put lay p i k n ds s e =
    cond_both (between (shortest p) (longest p) n && eqb n (length ds)) (carried p ds) misfit (λ q. Unfit (put_to_unit (find_unit lay i k) (is_negotiable (interface_at i s).ids) q s).code)
    (λ t. absurd (both_ways (between (shortest p) (longest p) n && eqb n (length ds)) (and_left (between (shortest p) (longest p) n) (eqb n (length ds)) e) t))
    (λ _. unfit_unit (find_unit lay i k) (is_negotiable (interface_at i s).ids) s)

-- a length that a test turns down
wrong_length : (b : Bool) (x : Outcome) (s : Stick) → b ≡ false → (cond b x (refuse WrongLength s)).code ≡ 9
wrong_length b x s e = ap (λ t. (cond t x (refuse WrongLength s)).code) e

-- every request
pub unfit_code : (lay : Layout) (r : Request) (n : ℕ) (ds : List ℕ) (s : Stick) → length_allowed r n ≡ false → Unfit (request lay r n ds s).code
unfit_code lay DeviceDescriptor n ds s e = absurd (true≢false e)
unfit_code lay Bundle n ds s e = absurd (true≢false e)
unfit_code lay (LockData a) n ds s e = absurd (true≢false e)
unfit_code lay (HighestUnit i) n ds s e =
    unfit_interface lay i s (tell_highest lay i n (length ds) s) (wrong_length (eqb n 1) (answered n (length ds) ((get_or lay.counts i 0 - 1) ∷ []) s) s e)
unfit_code lay (ClearJam i) n ds s e =
    unfit_interface lay i s (clear_jam i n (length ds) s)
    (wrong_length (eqb n 0 && eqb n (length ds)) (outcome 0 [] (with_interfaces (alter i unjammed s.interfaces) s)) s (and_left (eqb n 0) (eqb n (length ds)) e))
unfit_code lay (PutTo StorePassphrase a) n ds s e = unfit_put lay StorePassphrase a.interface a.unit n ds s e
unfit_code lay (PutTo MatchPassphrase a) n ds s e = unfit_put lay MatchPassphrase a.interface a.unit n ds s e
unfit_code lay (PutTo ChangePassphrase a) n ds s e = unfit_put lay ChangePassphrase a.interface a.unit n ds s e
unfit_code lay (PutTo ErasePassphrase a) n ds s e = unfit_put lay ErasePassphrase a.interface a.unit n ds s e
unfit_code lay (PutTo EraseForgottenPassphrase a) n ds s e = unfit_put lay EraseForgottenPassphrase a.interface a.unit n ds s e
unfit_code lay (PutTo LockAgain a) n ds s e = unfit_put lay LockAgain a.interface a.unit n ds s e
unfit_code lay (PutTo ChangeInterfaceAccess a) n ds s e =
    unfit_interface lay a.interface s (access_sized lay a.interface n ds s)
    (wrong_length (eqb n 12 && eqb n (length ds)) (change_access lay a.interface (access_in ds) s) s (and_left (eqb n 12) (eqb n (length ds)) (not_twelve n e)))
