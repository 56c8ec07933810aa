-- Blocks written one after another from a buffer, up to the first bad one.
use Rattle.std.proofs.Common.{◌≡◌, ℕ, zero, suc, ◌+◌, ◌-◌, ◌*◌, ◌<◌, true, List, length, get_or, take, drop, Ok, Result, is_err, sym, refl, ap, ◌∙◌, arith}
use Rattle.std.proofs.lemmas.List.{drop-drop}
use Rattle.model.specs.Blocks.{Block, bad, good, answer, written}
use Rattle.model.specs.Commands.{one_more, good_run, stored}
use Rattle.model.specs.declared.refusal.Fault.{Fault}
use Rattle.medium.proofs.Calls.{other_kept, refused_write}
use Rattle.commands.specs.Transfers.{kept}
use Rattle.commands.proofs.Going.{err_of, bad_seen, good_seen, run_good, run_bad}

-- a write does not change what comes after it
run_behind : (m : List Block) (b : ℕ) (bs : List ℕ) (k c : ℕ) → b < c → good_run k c (written m b bs) ≡ good_run k c m
run_behind m b bs zero c lt = refl
run_behind m b bs (suc k) c lt =
    ap (λ x. one_more x (good_run k (suc c) (written m b bs))) (other_kept m b bs c (λ e. omega arith))
    ∙ ap (one_more (get_or m c bad)) (run_behind m b bs k (suc c) (omega arith))

-- i blocks on, all of them good
pub record Along (m0 : List Block) (b n : ℕ) (ds : List ℕ) (m : List Block) (i : ℕ) : Type 0 where
  pub moved : i + good_run (n - i) (b + i) m ≡ good_run n b m0
  pub blocks : kept (n - i) (b + i) (drop (512 * i) ds) m ≡ kept n b ds m0

module _ (m0 : List Block) (b n : ℕ) (ds : List ℕ) where
  pub along_more : (m : List Block) (bs : List ℕ) (i : ℕ) → i < n → get_or m (b + i) bad ≡ good bs → Along m0 b n ds m i
      → Along m0 b n ds (written m (b + i) (take 512 (drop (512 * i) ds))) (i + 1)
  along_more m bs i lt e a =
      let k = n - (i + 1) in
      let d = drop (512 * i) ds in
      let m' = written m (b + i) (take 512 d) in
      let g = good_run k (suc (b + i)) m in
      let next : b + (i + 1) ≡ suc (b + i) = omega arith in
      let one : good_run (n - i) (b + i) m ≡ suc g = run_good m b n i lt bs e in
      let same : good_run k (b + (i + 1)) m' ≡ g = ap (λ x. good_run k x m') next ∙ run_behind m (b + i) (take 512 d) k (suc (b + i)) (omega arith) in
      let rest : drop (512 * (i + 1)) ds ≡ drop 512 d = ap (λ x. drop x ds) (omega arith) ∙ sym (drop-drop 512 (512 * i) ds) in
      record {
        moved = omega (arith, a.moved, one, same);
        blocks =
            ap (λ x. stored x (b + (i + 1)) (drop (512 * (i + 1)) ds) m') same
            ∙ ap (λ x. stored g x (drop (512 * (i + 1)) ds) m') next
            ∙ ap (λ x. stored g (suc (b + i)) x m') rest
            ∙ sym (ap (λ x. stored x (b + i) d m) one)
            ∙ a.blocks;
      }

  -- where no good block comes next, all that was to be written has been
  pub along_end : (m : List Block) (i : ℕ) → good_run (n - i) (b + i) m ≡ 0 → Along m0 b n ds m i → (i ≡ good_run n b m0) × (m ≡ kept n b ds m0)
  along_end m i none a = (omega (arith, a.moved, none), sym (ap (λ x. stored x (b + i) (drop (512 * i) ds) m) none) ∙ a.blocks)

-- the next call, which writes `part` to the block `moved` blocks on: refused, the transfer ends there; accepted, it goes on
module _ (m0 : List Block) (b n : ℕ) (ds : List ℕ) (m : List Block) (i moved : ℕ) (part : List ℕ) (r : Result (Unit {0}) Fault)
    (at : moved ≡ i) (lt : i < n) (long : length part ≡ 512) (is : r ≡ answer m (b + moved) (length part)) (a : Along m0 b n ds m i) where
  here : Along m0 b n ds m moved
  here = rw at a

  pub write_stops : is_err r ≡ true → (moved ≡ good_run n b m0) × (written m (b + moved) part ≡ kept n b ds m0)
  write_stops err =
      let f = err_of r err in
      let e = along_end m0 b n ds m moved (run_bad m b n moved (omega arith) (bad_seen m (b + moved) (length part) f.0 long (sym is ∙ f.1))) here in
      (e.0, refused_write m (b + moved) part f.0 (sym is ∙ f.1) ∙ e.1)

  pub write_goes_on : r ≡ Ok tt → part ≡ take 512 (drop (512 * i) ds) → Along m0 b n ds (written m (b + moved) part) (i + 1)
  write_goes_on ok cut =
      let g = good_seen m (b + moved) (length part) (sym is ∙ ok) in
      rw (cut, sym at) (along_more m0 b n ds m g.0 moved (omega arith) g.1 here)
