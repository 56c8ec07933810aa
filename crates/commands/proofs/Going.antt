-- A run of good blocks, as a transfer goes along it block by block.
use Rattle.std.proofs.Common.{◌≡◌, ℕ, suc, ◌+◌, ◌-◌, ◌<◌, ◌≤◌, true, List, length, get_or, Ok, Err, Result, is_err, refl, ap, ◌∙◌, ⊎_elim, arith}
use Rattle.std.proofs.lemmas.List.{get_or_past}
use Rattle.model.specs.Blocks.{Block, bad, good, answer}
use Rattle.model.specs.Commands.{one_more, good_run}
use Rattle.model.specs.declared.refusal.Fault.{Fault}
use Rattle.medium.proofs.Calls.{Way, outside, at_bad, at_good, never_both, way, good_from}

pub err_of : (r : Result (Unit {0}) Fault) → is_err r ≡ true → (f : Fault) × (r ≡ Err f)
err_of (Ok u) e = absurd (cc)
err_of (Err f) e = (f, refl)

-- what a call for a block showed
module _ (m : List Block) (b n : ℕ) where
  bad_by : (f : Fault) → Way m b n → n ≡ 512 → answer m b n ≡ Err f → get_or m b bad ≡ bad
  bad_by f (outside r h) l e = ⊎_elim (λ (past : length m ≤ b). get_or_past m b bad past) (λ (ne : n ≡ 512 → ⊥). absurd (ne l)) h
  bad_by f (at_bad r h k is) l e = is
  bad_by f (at_good p r h k is) l e = absurd (never_both (answer m b n) f (rw (r, is) refl) e)

  -- a call with 512 bytes is refused only where there is no good block
  pub bad_seen : (f : Fault) → n ≡ 512 → answer m b n ≡ Err f → get_or m b bad ≡ bad
  bad_seen f l e = bad_by f (way m b n) l e

  -- an accepted one finds a good block
  pub good_seen : answer m b n ≡ Ok tt → (bs : List ℕ) × (get_or m b bad ≡ good bs)
  good_seen ok = let g = good_from m b n (way m b n) ok in (g.1.0, g.1.1.1)

-- the run from the block i blocks on, of n in all
module _ (m : List Block) (b n i : ℕ) (lt : i < n) where
  left : n - i ≡ suc (n - (i + 1))
  left = omega arith

  -- from a good block it is one longer than from the next
  pub run_good : (bs : List ℕ) → get_or m (b + i) bad ≡ good bs → good_run (n - i) (b + i) m ≡ suc (good_run (n - (i + 1)) (suc (b + i)) m)
  run_good bs e = ap (λ x. good_run x (b + i) m) left ∙ ap (λ x. one_more x (good_run (n - (i + 1)) (suc (b + i)) m)) e

  -- and from a bad one there is none
  pub run_bad : get_or m (b + i) bad ≡ bad → good_run (n - i) (b + i) m ≡ 0
  run_bad e = ap (λ x. good_run x (b + i) m) left ∙ ap (λ x. one_more x (good_run (n - (i + 1)) (suc (b + i)) m)) e
