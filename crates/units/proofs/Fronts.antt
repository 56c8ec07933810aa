-- Bytes at the front of a zeroed array.
use Rattle.std.proofs.Common.{◌≡◌, ℕ, ◌+◌, ◌-◌, ◌≤◌, true, eqb, leb, List, ◌++◌, length, drop, replicate, ap, ◌∙◌, arith}
use Rattle.std.proofs.lemmas.Slice.Eq.{bytes_eq-Decides}
use Rattle.std.proofs.lemmas.List.{drop_at, drop-replicate, length-append, length-replicate}
use Rattle.std.proofs.lemmas.Bool.{and_from, le-leb, eq-eqb}
use Rattle.units.specs.Kept.{tidy}
use Rattle.units.specs.declared.stored.Stored.{Stored}

-- n bytes and what is behind them in w zeros
pub stored_tidy : (w n : ℕ) (part zeros : List ℕ) → length part ≡ n → n ≤ w → zeros ≡ replicate w 0 → (let s : Stored w = record { bytes = part ++ drop n zeros; len = n } in tidy s ≡ true)
stored_tidy w n part zeros long room filled =
    let all = part ++ drop n zeros in
    let left : drop n zeros ≡ replicate (w - n) 0 = ap (drop n) filled ∙ drop-replicate n w 0 in
    let whole : length all ≡ w = length-append part (drop n zeros) ∙ ap (λ x. length part + length x) left ∙ omega (arith, long, length-replicate {A = ℕ} (w - n) 0) in
    and_from (leb n w) _ (le-leb n w room)
    (and_from (eqb (length all) w) _ (eq-eqb (length all) w whole)
    ((bytes_eq-Decides (drop n all) (replicate (w - n) 0)).1 (drop_at part (drop n zeros) n long ∙ left)))
