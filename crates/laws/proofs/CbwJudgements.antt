-- The judgement of a CBW against what a bulk command refuses.
use Rattle.std.proofs.Common.{◌≡◌, ℕ, ◌+◌, ◌-◌, ◌<◌, ◌≤◌, Bool, true, false, cond, ◌&&◌, ltb, leb, ◌⊎◌, ◌↔◌, List, length, get_or, take, Some, None, Option, sym, refl, ap, ◌∙◌, subst, inl, inr, ⊎_elim, arith}
use Rattle.std.proofs.lemmas.Bool.{cases_lt, cond_both, cond-false, cond-true, le-leb, le-ltb, lt-leb, lt-ltb, true≢false}
use Rattle.std.proofs.lemmas.Bool.Decides.{nat_tests}
use Rattle.model.specs.Bulk.{Completed, turned_down, command, addressed, wrapped, commanded}
use Rattle.model.specs.Bytes.{le32}
use Rattle.model.specs.Control.{find_unit}
use Rattle.model.specs.Layouts.{Layout, sum}
use Rattle.model.specs.Sticks.{Stick}
use Rattle.model.specs.Wrappers.{cbw_in, judged_cbw, judged_unit}
use Rattle.model.specs.declared.command.Cbw.{Cbw}
use Rattle.model.specs.declared.refusal.Refusal.TheVariants.{ShortBuffer}
use Rattle.laws.specs.BulkLaws.{Serves, CbwJudgementAgrees}
use Rattle.laws.proofs.Bulks.{fields, to_wrapper}

-- a unit is found exactly where its number is at most the highest
found : (lay : Layout) (i k : ℕ) → i < length lay.counts → 0 < get_or lay.counts i 0
    → ((v : ℕ) × (find_unit lay i k ≡ Some v) × (leb k (get_or lay.counts i 0 - 1) ≡ true)) ⊎ ((find_unit lay i k ≡ None) × (leb k (get_or lay.counts i 0 - 1) ≡ false))
found lay i k there some =
    let n = get_or lay.counts i 0 in
    ⊎_elim
    (λ (h : k < n). let t : (ltb i (length lay.counts) && ltb k n) ≡ true = grind (arith, nat_tests) in
    inl (sum (take i lay.counts) + k, cond-true (ltb i (length lay.counts) && ltb k n) (Some (sum (take i lay.counts) + k)) None t, le-leb k (n - 1) (omega arith)))
    (λ (h : n ≤ k). let f : (ltb i (length lay.counts) && ltb k n) ≡ false = grind (arith, nat_tests) in
    inr (cond-false (ltb i (length lay.counts) && ltb k n) (Some (sum (take i lay.counts) + k)) None f, lt-leb k (n - 1) (omega arith)))
    (cases_lt k n)

-- what is judged 16 is not judged 0
sixteen : (b : Bool) → b ≡ false → ◌≡◌ {A = ℕ} (cond b 0 16) 0 → ⊥
sixteen true f e = true≢false f
sixteen false f e = omega arith

agreed_unit : (lay : Layout) (i : ℕ) (c : Cbw) (ds : List ℕ) (s : Stick) → i < length lay.counts → 0 < get_or lay.counts i 0
    → ((addressed lay i (find_unit lay i c.unit) c ds s).code ≡ 16) ↔ (judged_unit (Some c) (get_or lay.counts i 0 - 1) ≡ 16)
agreed_unit lay i c ds s there some =
    ⊎_elim
    (λ (t : (v : ℕ) × (find_unit lay i c.unit ≡ Some v) × (leb c.unit (get_or lay.counts i 0 - 1) ≡ true)).
    rw (t.1, t.2) (cond_both (ltb (length ds) c.total) (turned_down ShortBuffer s) (command lay t.0 c ds s) (λ o. (o.code ≡ 16) ↔ (◌≡◌ {A = ℕ} 0 16))
    (λ _. (λ e. absurd (omega arith), λ e. absurd (omega arith))) (λ _. (λ e. e, λ e. e))))
    (λ (t : (find_unit lay i c.unit ≡ None) × (leb c.unit (get_or lay.counts i 0 - 1) ≡ false)). rw (t.0, t.1) (λ _. refl, λ _. refl))
    (found lay i c.unit there some)

-- a CBW that is judged 0 is carried out where the buffer is long enough
served_unit : (lay : Layout) (i : ℕ) (c : Cbw) (ds : List ℕ) (s : Stick) → i < length lay.counts → 0 < get_or lay.counts i 0
    → judged_unit (Some c) (get_or lay.counts i 0 - 1) ≡ 0 → c.total ≤ length ds → (addressed lay i (find_unit lay i c.unit) c ds s).code ≡ 0
served_unit lay i c ds s there some =
    ⊎_elim
    (λ (t : (v : ℕ) × (find_unit lay i c.unit ≡ Some v) × (leb c.unit (get_or lay.counts i 0 - 1) ≡ true)).
    λ _ room. rw t.1 (ap (λ b. (cond b (turned_down ShortBuffer s) (command lay t.0 c ds s)).code) (le-ltb (length ds) c.total room)))
    (λ (t : (find_unit lay i c.unit ≡ None) × (leb c.unit (get_or lay.counts i 0 - 1) ≡ false)).
    λ e _. absurd (sixteen (leb c.unit (get_or lay.counts i 0 - 1)) t.1 e))
    (found lay i c.unit there some)

agreed : (lay : Layout) (i : ℕ) (o : Option Cbw) (ds : List ℕ) (s : Stick) → i < length lay.counts → 0 < get_or lay.counts i 0
    → ((wrapped lay i o ds s).code ≡ 16) ↔ (judged_unit o (get_or lay.counts i 0 - 1) ≡ 16)
agreed lay i None ds s there some = (λ _. refl, λ _. refl)
agreed lay i (Some c) ds s there some = agreed_unit lay i c ds s there some

served : (lay : Layout) (i : ℕ) (cbw : List ℕ) (o : Option Cbw) (ds : List ℕ) (s : Stick) → cbw_in cbw ≡ o → i < length lay.counts → 0 < get_or lay.counts i 0
    → judged_unit o (get_or lay.counts i 0 - 1) ≡ 0 → le32 cbw 8 ≤ length ds → (wrapped lay i o ds s).code ≡ 0
served lay i cbw None ds s is there some e room = absurd (omega arith)
served lay i cbw (Some c) ds s is there some e room =
    let t = (fields cbw c is).total in
    served_unit lay i c ds s there some e (omega arith)

-- on an interface that serves, a call comes to its CBW
on_serving : (lay : Layout) (i : ℕ) (cbw ds : List ℕ) (s : Stick) → Serves lay i s → commanded lay i cbw ds s ≡ wrapped lay i (cbw_in cbw) ds s
on_serving lay i cbw ds s h = to_wrapper lay i cbw ds s h.present (lt-ltb i (length lay.counts) h.there) h.free

pub cbw_agrees : CbwJudgementAgrees
cbw_agrees = record {
  refused = λ lay s i cbw ds h.
      subst (λ (o : Completed). (o.code ≡ 16) ↔ (judged_cbw cbw (get_or lay.counts i 0 - 1) ≡ 16)) (sym (on_serving lay i cbw ds s h))
      (agreed lay i (cbw_in cbw) ds s h.there h.inhabited);
  carried_out = λ lay s i cbw ds h e room.
      ap (λ (o : Completed). o.code) (on_serving lay i cbw ds s h) ∙ served lay i cbw (cbw_in cbw) ds s refl h.there h.inhabited e room;
}
