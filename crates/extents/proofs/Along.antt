use Rattle.std.proofs.Common.{◌≡◌, ℕ, ◌+◌, ◌<◌, ◌≤◌, Bool, true, cond, ◌&&◌, ltb, leb, List, [], ◌∷◌, length, get_or, drop, Some, Option, Decides, sym, refl, ap, ◌∙◌, arith}
use Rattle.std.specs.List.{AllByRecursion, position, position_from}
use Rattle.std.proofs.lemmas.Iterator.Adapters.{position_from-zero}
use Rattle.std.proofs.lemmas.List.{at_drop_more}
use Rattle.std.proofs.ByRecursion.{All-weaker}
use Rattle.std.proofs.lemmas.Bool.{and_parts, and_from, ltb-true, leb-true, lt-ltb, le-leb}
use Rattle.model.specs.Extents.{Fitting, Apart, Sound, fitting, sound, holds, found}

module _ {E : Type 0} (at len : E → ℕ) where
  -- a turn of the check: b says whether x fits
  pub sound_turn : (low end : ℕ) (xs : List E) (i : ℕ) (x : E) (b : Bool) → i < length xs → x ≡ get_or xs i x → b ≡ fitting at len low end x
      → sound at len low end (drop i xs) ≡ sound at len 0 end xs → (b && sound at len (at x + len x) end (drop (i + 1) xs)) ≡ sound at len 0 end xs
  sound_turn low end xs i x b h read fits so =
      let rest = drop (i + 1) xs in
      ap (λ t. t && sound at len (at x + len x) end rest) fits
      ∙ ap (λ y. fitting at len low end y && sound at len (at y + len y) end rest) read
      ∙ sym (at_drop_more (sound at len low end) xs i x h)
      ∙ so

  -- the search is the library's, with this test
  found_from : (i pos : ℕ) (xs : List E) → found at len i pos xs ≡ position_from (holds at len pos) i xs
  found_from i pos [] = refl
  found_from i pos (x ∷ xs) = ap (λ (o : Option ℕ). cond (holds at len pos x) (Some i) o) (found_from (i + 1) pos xs)

  pub found_position : (pos : ℕ) (xs : List E) → found at len 0 pos xs ≡ position (holds at len pos) xs
  found_position pos xs = found_from 0 pos xs ∙ sym (position_from-zero (holds at len pos) xs)

  -- the test decides the fact
  from_true : (low end : ℕ) (xs : List E) → sound at len low end xs ≡ true → AllByRecursion (λ x. low ≤ at x) xs × (AllByRecursion (Fitting at len end) xs × Apart at len xs)
  from_true low end [] e = (tt, (tt, tt))
  from_true low end (x ∷ xs) e =
      let p = and_parts (fitting at len low end x) (sound at len (at x + len x) end xs) e in
      let q = and_parts (ltb 0 (len x)) (leb low (at x) && leb (at x + len x) end) p.0 in
      let r = and_parts (leb low (at x)) (leb (at x + len x) end) q.1 in
      let pos : 0 < len x = ltb-true 0 (len x) q.0 in
      let lo : low ≤ at x = leb-true low (at x) r.0 in
      let hi : at x + len x ≤ end = leb-true (at x + len x) end r.1 in
      let rest = from_true (at x + len x) end xs p.1 in (
        (lo, All-weaker (λ y. at x + len x ≤ at y) (λ y. low ≤ at y) (λ y h. omega arith) xs rest.0),
        (((pos, hi), rest.1.0), (rest.0, rest.1.1)),
      )

  to_true : (low end : ℕ) (xs : List E) → AllByRecursion (λ x. low ≤ at x) xs → AllByRecursion (Fitting at len end) xs → Apart at len xs → sound at len low end xs ≡ true
  to_true low end [] a b c = refl
  to_true low end (x ∷ xs) a b c =
      and_from (fitting at len low end x) (sound at len (at x + len x) end xs)
      (and_from (ltb 0 (len x)) (leb low (at x) && leb (at x + len x) end) (lt-ltb 0 (len x) b.0.0)
      (and_from (leb low (at x)) (leb (at x + len x) end) (le-leb low (at x) a.0) (le-leb (at x + len x) end b.0.1)))
      (to_true (at x + len x) end xs c.0 b.1 c.1)

  all_above_0 : (xs : List E) → AllByRecursion (λ x. 0 ≤ at x) xs
  all_above_0 [] = tt
  all_above_0 (x ∷ xs) = (omega arith, all_above_0 xs)

  pub sound_decides : (end : ℕ) (xs : List E) → Decides (sound at len 0 end xs) (Sound at len end xs)
  sound_decides end xs = (λ e. (from_true 0 end xs e).1, λ s. to_true 0 end xs (all_above_0 xs) s.0 s.1)
