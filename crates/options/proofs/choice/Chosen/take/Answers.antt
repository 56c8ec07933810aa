use Rattle.std.proofs.Common.{◌≡◌, Some, ap, ◌∙◌, vec_items, option_map, rules}
use Rattle.fields.specs.Hexadecimal.{hex_bytes}
use Rattle.options.specs.Choices.{in_hex, choice, name_said}
use Rattle.options.specs.declared.choice.Name.TheVariants.{Layout}
use Rattle.options.proofs.Once.{set_reads, known_name}
use Rattle.options.proofs.choice.Chosen.take.Goals as goal

pub returns-in-Layout-clause-said : goal.returns-in-Layout-clause-said
returns-in-Layout-clause-said c =
    let old = c.args.self.now in
    let e = c.set_once.ensures in
    let name : name_said c.args.word.now ≡ Some Layout = known_name (name_said c.args.word.now) _ c.in_ok-parse.ensures.value ∙ ap Some c.in-Layout.is in
    rw name
    (set_reads vec_items (in_hex (hex_bytes c.args.value.now)) (λ l. choice l old.make old.blocks (option_map vec_items old.runs))
    old.layout c.set_once.new.slot c.set_once.result (λ m p. search rules) (λ v p. search rules) e.repeated e.unread e.set)
