-- What a fitted layout has of units: as many as its counts say, and no more than the table of all units has room for.
use Rattle.std.proofs.Common.{◌≡◌, ℕ, ◌+◌, ◌≤◌, Bool, true, false, cond, leb, List, length, drop, refl, arith}
use Rattle.std.proofs.lemmas.Bool.{and_parts, leb-true}
use Rattle.std.proofs.lemmas.List.{length-take}
use Rattle.model.specs.Bytes.{byte, between}
use Rattle.model.specs.Layouts.{sum, all_between, said_layout, own_rules, layout_rules, no_layout, fitted_layout}
use Rattle.model.proofs.Paired.{length_pairs}
use Rattle.layout.proofs.Sums.{few_units}

pub fitted_total : (bs : List ℕ) (blocks : ℕ) → length (fitted_layout bs blocks).places ≡ sum (fitted_layout bs blocks).counts
fitted_total bs blocks = total (layout_rules bs blocks) where
  total : (b : Bool) → length (cond b (said_layout bs) no_layout).places ≡ sum (cond b (said_layout bs) no_layout).counts
  total true = length_pairs (sum (said_layout bs).counts) (drop (7 + byte bs 6) bs)
  total false = refl

pub fitted_few : (bs : List ℕ) (blocks : ℕ) → length (fitted_layout bs blocks).places ≤ 16
fitted_few bs blocks = few (layout_rules bs blocks) refl where
  few : (b : Bool) → layout_rules bs blocks ≡ b → length (cond b (said_layout bs) no_layout).places ≤ 16
  few true e =
      let n = byte bs 6 in
      let cs = (said_layout bs).counts in
      let p = and_parts (between 1 4 n) _ (and_parts (own_rules bs) _ e).0 in
      let low : n ≤ 4 = leb-true n 4 (and_parts (leb 1 n) (leb n 4) p.0).1 in
      let q = and_parts (all_between 1 4 cs) _ p.1 in
      omega (arith, length_pairs (sum cs) (drop (7 + n) bs), few_units cs q.0, length-take n (drop 7 bs))
  few false e = omega arith
