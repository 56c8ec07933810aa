use Rattle.std.proofs.Common.{◌≡◌, ℕ, ◌≤◌, List, take, ap, ◌∙◌, arith, rules}
use Rattle.answers.specs.Standings.{standing_by}
use Rattle.answers.specs.declared.lock_data.LockFacts.{LockFacts}
use Rattle.model.specs.LockData.{lock_data}
use Rattle.model.specs.Units.{unit_record}
use Rattle.std.proofs.lemmas.List.{take_all, length-take}
use Rattle.units.proofs.row.Row.lock_data.Goals as goal

-- a hint of at most 100 bytes is not cut
uncut : (n : ℕ) (xs hint : List ℕ) → n ≤ 100 → hint ≡ take n xs → take 100 hint ≡ take n xs
uncut n xs hint h e = ap (take 100) e ∙ take_all 100 (take n xs) (omega (arith, length-take n xs))

pub returns : goal.returns
returns c =
    let s = c.args.self.now in
    let p = take s.phrase.len s.phrase.bytes in
    let few : s.hint.len ≤ 100 = search rules in
    let told = λ (f : LockFacts) (h : List ℕ). lock_data f.blocks f.address.interface f.address.unit (unit_record (standing_by f.state p) h s.misses f.accepted s.sense) in
    c.lock_data.ensures p s.misses s.sense
    ∙ ap (λ f. told f (take 100 c.as_slice.result.now)) c.facts.ensures
    ∙ ap (told (record { blocks = c.args.blocks; address = c.args.address; state = s.state; accepted = s.accepted })) (uncut s.hint.len s.hint.bytes c.as_slice.result.now few c.as_slice.ensures)
