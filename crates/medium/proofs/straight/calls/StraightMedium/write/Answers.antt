use Rattle.std.proofs.Common.{◌+◌, ◌*◌, ◌≤◌, ◌≡◌, ◌∙◌, length, refl, rules}
use Rattle.medium.proofs.Mapped.{write_mapped}
use Rattle.medium.proofs.Pages.{repaged_whole}
use Rattle.medium.proofs.straight.calls.StraightMedium.write.Goals as goal

pub returns-clause-after : goal.returns-clause-after
returns-clause-after c =
    let s = c.args.self.now.store in
    let mem = s.memory.items in
    let b = c.args.block in
    let room : 512 * b + 512 ≤ length mem = let r = s.room (search rules) in let k = s.memory.ok.0 in search rules in
    let l : length c.args.bytes.now ≡ 512 = search rules in
    rw (c.set_page.ensures.memory ∙ repaged_whole mem c.args.bytes.now b room l, c.set_page.ensures.runs, c.set_page.ensures.count)
    (write_mapped mem s.runs.items (λ k. k) (λ k. k) s.count b b c.args.bytes.now (c.in_ok-admit.ensures.answer mem (λ k. k)) room refl (λ k h ne. (refl, ne)))
