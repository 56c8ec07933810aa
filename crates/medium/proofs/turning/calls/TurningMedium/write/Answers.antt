use Rattle.std.proofs.Common.{◌≡◌, ℕ, ◌+◌, ◌*◌, ◌<◌, ◌≤◌, length, get_or, set, arith, rules}
use Rattle.model.specs.Blocks.{mapped_blocks, written}
use Rattle.medium.specs.Stored.{with_page}
use Rattle.medium.proofs.Mapped.{write_mapped}
use Rattle.medium.proofs.Pages.{repaged_whole}
use Rattle.std.proofs.lemmas.List.{get_or-set_same, get_or-set_other}
use Rattle.medium.proofs.turning.calls.TurningMedium.write.Goals as goal

pub returns-clause-after : goal.returns-clause-after
returns-clause-after c =
    let m = c.args.self.now in
    let s = m.store in
    let mem = s.memory.items in
    let b = c.args.block in
    let bs = c.args.bytes.now in
    let at : ℕ → ℕ = λ k. get_or m.pages k 0 in
    let pages = set m.pages b m.spare in
    let h : b < s.count = search rules in
    let i : b < length m.pages = let e = m.full in let f = s.few in omega arith in
    let room : 512 * m.spare + 512 ≤ length mem = let r = s.room (omega arith) in let e = m.beside in let k = s.memory.ok.0 in omega arith in
    let e : mapped_blocks (with_page mem m.spare bs) s.runs.items (λ k. get_or pages k 0) s.count ≡ written (mapped_blocks mem s.runs.items at s.count) b bs =
    write_mapped mem s.runs.items at (λ k. get_or pages k 0) s.count b m.spare bs (c.in_ok-admit.ensures.answer mem at) room (get_or-set_same m.pages b m.spare 0 i)
    (λ k hk ne. (get_or-set_other m.pages b k m.spare 0 ne, m.spared k hk)) in
    let is : c.from.result ≡ m.spare = search rules in
    let l : length bs ≡ 512 = search rules in
    rw (c.set_page.ensures.memory, c.set_page.ensures.runs, c.set_page.ensures.count, is, repaged_whole mem bs m.spare room l, c.swap.ensures.y_after) e
