-- The judgement of a setup against the numbers that its request is refused with.
use Rattle.std.proofs.Common.{◌≡◌, ℕ, Bool, true, false, cond, ◌&&◌, eqb, ◌⊎◌, ◌↔◌, List, [], ◌++◌, length, drop, replicate, Some, None, Option, sym, refl, ap, subst, arith}
use Rattle.std.proofs.lemmas.Bool.{and_from, both_ways, cond_both, eq-eqb}
use Rattle.model.specs.Bytes.{le16}
use Rattle.model.specs.Control.{asked, controlled, request, served, transferred, when_present}
use Rattle.model.specs.Layouts.{Layout}
use Rattle.model.specs.Requests.{is_reading, judged_request, judged_setup, length_allowed, listed, requested, with_length}
use Rattle.model.specs.Sticks.{Stick}
use Rattle.model.specs.declared.ids.Phase.TheVariants.{Present}
use Rattle.model.specs.declared.request.Request.{Request}
use Rattle.laws.specs.Agreement.{JudgementAgrees}
use Rattle.laws.proofs.Codes.{any_code}
use Rattle.laws.proofs.Unfit.{unfit_code}

-- no request is refused with 7
listed_code : (lay : Layout) (r : Request) (n : ℕ) (ds : List ℕ) (s : Stick) → (request lay r n ds s).code ≡ 7 → ⊥
listed_code lay r n ds s =
    any_code (λ k. k ≡ 7 → ⊥) (λ e. omega arith) (λ e. omega arith) (λ e. omega arith) (λ e. omega arith) (λ e. omega arith) (λ e. omega arith) (λ e. omega arith)
    lay r n ds s (λ _ e. omega arith)

-- none is refused with 9 whose length is allowed and the arriving one
fit_code : (lay : Layout) (r : Request) (n : ℕ) (ds : List ℕ) (s : Stick) → length_allowed r n ≡ true → length ds ≡ n → (request lay r n ds s).code ≡ 9 → ⊥
fit_code lay r n ds s h l =
    any_code (λ k. k ≡ 9 → ⊥) (λ e. omega arith) (λ e. omega arith) (λ e. omega arith) (λ e. omega arith) (λ e. omega arith) (λ e. omega arith) (λ e. omega arith)
    lay r n ds s (λ e _. both_ways (length_allowed r n && eqb n (length ds)) e (and_from (length_allowed r n) (eqb n (length ds)) h (eq-eqb n (length ds) (sym l))))

-- what the judgement tells of the length
judged_listed : (b : Bool) → ◌≡◌ {A = ℕ} (cond b 0 9) 7 → ⊥
judged_listed true e = omega arith
judged_listed false e = omega arith

judged_unfit : (b : Bool) → ◌≡◌ {A = ℕ} (cond b 0 9) 9 → b ≡ false
judged_unfit true e = absurd (omega arith)
judged_unfit false e = refl

judged_fit : (b : Bool) → ◌≡◌ {A = ℕ} (cond b 0 9) 0 → b ≡ true
judged_fit true e = refl
judged_fit false e = absurd (omega arith)

-- the three fields, of a setup that has 8 bytes or not, and is listed or not
unlisted_of : (lay : Layout) (s : Stick) (ds : List ℕ) (b : Bool) (o : Option Request) (n : ℕ)
    → ((asked lay (cond b (with_length o n) None) ds s).code ≡ 7) ↔ (judged_request (cond b (with_length o n) None) ≡ 7)
unlisted_of lay s ds false o n = (λ _. refl, λ _. refl)
unlisted_of lay s ds true None n = (λ _. refl, λ _. refl)
unlisted_of lay s ds true (Some r) n = (λ e. absurd (listed_code lay r n ds s e), λ e. absurd (judged_listed (length_allowed r n) e))

lengths_of : (lay : Layout) (s : Stick) (ds : List ℕ) (b : Bool) (o : Option Request) (n : ℕ) → judged_request (cond b (with_length o n) None) ≡ 9
    → ((asked lay (cond b (with_length o n) None) ds s).code ≡ 8) ⊎ ((asked lay (cond b (with_length o n) None) ds s).code ≡ 9)
lengths_of lay s ds false o n e = absurd (omega arith)
lengths_of lay s ds true None n e = absurd (omega arith)
lengths_of lay s ds true (Some r) n e = unfit_code lay r n ds s (judged_unfit (length_allowed r n) e)

fitting_of : (lay : Layout) (s : Stick) (ds : List ℕ) (b : Bool) (o : Option Request) (n : ℕ) → judged_request (cond b (with_length o n) None) ≡ 0 → length ds ≡ n
    → (asked lay (cond b (with_length o n) None) ds s).code ≡ 9 → ⊥
fitting_of lay s ds false o n e l = absurd (omega arith)
fitting_of lay s ds true None n e l = absurd (omega arith)
fitting_of lay s ds true (Some r) n e l = fit_code lay r n ds s (judged_fit (length_allowed r n) e) l

-- a control transfer of a stick that is there has the number of what is asked
present_code : (lay : Layout) (s : Stick) (setup ds : List ℕ) → s.phase ≡ Present → (asked lay (requested setup) ds s).code ≡ (controlled lay setup ds s).code
present_code lay s setup ds h =
    let o = served lay setup ds s in
    let e : (asked lay (requested setup) ds s).code ≡ o.code = sym (ap (λ ph. (when_present ph s (asked lay (requested setup) ds s)).code) h) in
    cond_both (is_reading setup) (transferred o.code o.answer (o.answer ++ drop (length o.answer) ds) o.next)
    (transferred o.code [] (replicate (length ds) 0) o.next) (λ t. (asked lay (requested setup) ds s).code ≡ t.code) (λ _. e) (λ _. e)

pub agrees : JudgementAgrees
agrees = record {
  unlisted = λ lay s setup ds h.
      subst (λ k. (k ≡ 7) ↔ (judged_setup setup ≡ 7)) (present_code lay s setup ds h) (unlisted_of lay s ds (eqb (length setup) 8) (listed setup) (le16 setup 6));
  lengths = λ lay s setup ds h j.
      subst (λ k. (k ≡ 8) ⊎ (k ≡ 9)) (present_code lay s setup ds h) (lengths_of lay s ds (eqb (length setup) 8) (listed setup) (le16 setup 6) j);
  fitting = λ lay s setup ds h j l.
      subst (λ k. k ≡ 9 → ⊥) (present_code lay s setup ds h) (fitting_of lay s ds (eqb (length setup) 8) (listed setup) (le16 setup 6) j l);
}
