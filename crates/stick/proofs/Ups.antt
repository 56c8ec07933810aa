-- The units of an interface among the rows of the whole table.
use Rattle.std.proofs.Common.{◌≡◌, ℕ, ◌+◌, ◌-◌, ◌≤◌, Bool, true, false, cond, ltb, List, [], ◌∷◌, ◌++◌, map, length, get_or, take, drop, Some, None, Option, MatchOption, subst, sym, refl, ap, ◌∙◌, arith}
use Rattle.std.proofs.lemmas.Bool.{ltb-false}
use Rattle.std.proofs.lemmas.List.{take-take, take-map, drop-take, get_or_past}
use Rattle.std.proofs.lemmas.List.FromFn.{map-range_with_len_more}
use Rattle.std.specs.List.{range_with_len, slice_range}
use Rattle.std.specs.Option.{IfSome}
use Rattle.std.specs.declared.ops.Range.{Range}
use Rattle.layout.specs.Ranges.{range, range_of}
use Rattle.model.specs.Layouts.{Layout, sum}
use Rattle.model.specs.Blocks.{Block}
use Rattle.model.specs.Sticks.{stick, interface_up, powered_up, units_of_interface}
use Rattle.model.specs.Units.{UnitRecord, powered}
use Rattle.model.specs.declared.ids.Interface.{Interface}
use Rattle.model.specs.declared.ids.Phase.TheVariants.{Present}
use Rattle.stick.specs.Meaning.{units_in}

-- a part of the first n elements is a part of all
part_of_first : {A : Type 0} (f c n : ℕ) (xs : List A) → f + c ≤ n → take c (drop f (take n xs)) ≡ take c (drop f xs)
part_of_first f c n xs h =
    let e : f + (n - f) ≡ n = omega arith in
    ap (λ k. take c (drop f (take k xs))) (sym e) ∙ ap (take c) (drop-take f (n - f) xs) ∙ take-take c (n - f) (drop f xs) (omega arith)

pub own_units : (lay : Layout) (us : List UnitRecord) (i : ℕ) → sum (take i lay.counts) + get_or lay.counts i 0 ≤ length lay.places
    → slice_range us (sum (take i lay.counts)) (sum (take i lay.counts) + get_or lay.counts i 0) ≡ units_of_interface lay i (units_in lay us)
own_units lay us i h =
    let f = sum (take i lay.counts) in
    let c = get_or lay.counts i 0 in
    let size : f + c - f ≡ c = omega arith in
    ap (λ k. take k (drop f us)) size ∙ sym (part_of_first f c (length lay.places) us h)

-- what is told of an interface's units by the range of their numbers: of none where there is no such interface
module _ (test : List UnitRecord → Bool) (empty : test [] ≡ false) (lay : Layout) (us : List UnitRecord) (i : ℕ) (b : Bool) where
  abbrev start : ℕ
  start = sum (take i lay.counts)

  abbrev end : ℕ
  end = start + get_or lay.counts i 0

  by_place : (there : Bool) (o : Option (Range ℕ)) → ltb i (length lay.counts) ≡ there → o ≡ cond there (Some (range start end)) None → IfSome o (λ r. (r.end ≤ length lay.places) × (r.start ≤ r.end))
      → MatchOption o (b ≡ false) (λ r. b ≡ test (slice_range us r.start r.end)) → b ≡ test (units_of_interface lay i (units_in lay us))
  by_place false None t e low is =
      let past : length lay.counts ≤ i = ltb-false i (length lay.counts) t in
      is ∙ sym empty ∙ ap (λ n. test (take n (drop start (units_in lay us)))) (sym (get_or_past lay.counts i 0 past))
  by_place false (Some r) t e low is = absurd (cc)
  by_place true None t e low is = absurd (cc)
  by_place true (Some r) t e low is =
      let same : r ≡ range start end = cc in
      is ∙ ap (λ (q : Range ℕ). test (slice_range us q.start q.end)) same ∙ ap test (own_units lay us i (subst (λ (q : Range ℕ). q.end ≤ length lay.places) same low.0))

  pub by_range : (o : Option (Range ℕ)) → o ≡ range_of lay i → IfSome o (λ r. (r.end ≤ length lay.places) × (r.start ≤ r.end))
      → MatchOption o (b ≡ false) (λ r. b ≡ test (slice_range us r.start r.end)) → b ≡ test (units_of_interface lay i (units_in lay us))
  by_range o e = by_place (ltb i (length lay.counts)) o refl e

-- one element more of those made of 0, 1, 2 ..
pub ups_more : {A : Type 0} (up : ℕ → A) (i : ℕ) (x : A) (xs : List A) → x ≡ up i → xs ≡ map up (range_with_len 0 i) → xs ++ x ∷ [] ≡ map up (range_with_len 0 (i + 1))
ups_more up i x xs is before =
    ap (λ ys. ys ++ x ∷ []) before ∙ ap (λ y. map up (range_with_len 0 i) ++ y ∷ []) is ∙ sym (map-range_with_len_more up 0 i i (omega arith))

-- rows that were powered up, under the interfaces that come of the units before, are the powered-up stick
pub all_up : (lay : Layout) (us vs : List UnitRecord) (is : List Interface) (m : List Block) → vs ≡ map powered us
    → is ≡ map (interface_up lay (units_in lay us)) (range_with_len 0 (length lay.counts)) → stick (units_in lay vs) is Present m ≡ powered_up lay (units_in lay us) m
all_up lay us vs is m up faces =
    ap (λ ws. stick ws is Present m) (ap (units_in lay) up ∙ take-map powered (length lay.places) us) ∙ ap (λ js. stick (map powered (units_in lay us)) js Present m) faces
