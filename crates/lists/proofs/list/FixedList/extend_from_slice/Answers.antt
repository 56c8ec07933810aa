use Rattle.std.proofs.Common.{◌≡◌, ◌+◌, ◌-◌, ◌++◌, min, length, take, ap, ◌∙◌, arith, rules, length-take-le}
use Rattle.std.proofs.lemmas.Slice.{take-put_mid}
use Rattle.lists.proofs.Fronts.{take_fitting}
use Rattle.lists.proofs.list.FixedList.extend_from_slice.Goals as goal

pub returns-clause-value : goal.returns-clause-value
returns-clause-value g c =
    let xs = c.self.inside.elements in
    let n = c.self.inside.len in
    let k = c.min-fitting.result in
    let put = c.copy_from_slice.new.self in
    let more = c.args.more.now in
    let long : n + k ≡ n + length put = search rules in
    let what : put ≡ take k more = search rules in
    let old = length-take-le n xs (omega arith) in
    let fits : k ≡ min (length more) (g.row.N - length (take n xs)) = omega (arith, old, c.min-fitting.ensures) in
    take-put_mid n (n + k - n) xs put (n + k) long (omega arith)
    ∙ ap (λ ys. take n xs ++ ys) what
    ∙ take_fitting g.row.N k (take n xs) more fits (omega (arith, old))
    ∙ ap (λ ys. take g.row.N (ys ++ more)) c.self.view_is
