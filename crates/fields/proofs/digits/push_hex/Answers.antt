use Rattle.std.proofs.Common.{◌++◌, ap, ◌∙◌, arith}
use Rattle.hex.specs.Hex.{IsBytes}
use Rattle.fields.proofs.Texts.{text_upper}
use Rattle.fields.proofs.digits.push_hex.Goals as goal

pub returns : goal.returns
returns c =
    let bytes = c.args.bytes.now in
    let fits : IsBytes bytes = λ i. let f = c.type_inv.bytes i in omega arith in
    c.in_ok-extend_from_slice.ensures.items
    ∙ ap (λ t. c.args.line.now.items ++ t) (c.as_bytes.ensures.value ∙ c.in_ok-text.ensures ∙ text_upper bytes fits)
