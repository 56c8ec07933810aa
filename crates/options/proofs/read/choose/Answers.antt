use Rattle.std.proofs.Common.{Err, string_bytes, ap, ◌∙◌, rules}
use Rattle.std.proofs.lemmas.Result.{err_from_is_err_and}
use Rattle.options.specs.Choices.{choice_of}
use Rattle.options.proofs.Arguments.{taken, stopped, ended, lonely}
use Rattle.options.proofs.read.choose.Goals as goal

pub returns-in_err-take : goal.returns-in_err-take
returns-in_err-take c =
    let p = err_from_is_err_and c.from_residual.result c.from_residual.ensures.1 in
    rw (p.1, p.2)
    (λ h. stopped string_bytes c.loop-rest.rest.now (choice_of c.loop-rest.chosen) c.in_err-take.field-0.0 c.word-item.result c.value-item.result
    c.as_str.result.now c.as_str-in-len2-up.result.now (search rules) c.word-item.is c.value-item.is c.as_str.ensures.value
    c.as_str-in-len2-up.ensures.value (c.in_err-take.ensures.said h)
    ∙ c.loop-rest.invariant)

pub loop-rest-preserved : goal.loop-rest-preserved
loop-rest-preserved c =
    taken string_bytes c.loop-rest.rest.now (choice_of c.loop-rest.chosen) (choice_of c.take.new.self) c.word-item.result c.value-item.result
    c.as_str.result.now c.as_str-in-len2-up.result.now (search rules) c.word-item.is c.value-item.is c.as_str.ensures.value
    c.as_str-in-len2-up.ensures.value c.in_ok-take.ensures.said
    ∙ c.loop-rest.invariant

pub returns-in-empty : goal.returns-in-empty
returns-in-empty c = ended string_bytes c.loop-rest.rest.now (choice_of c.loop-rest.chosen) (search rules) ∙ c.loop-rest.invariant

pub returns-in-len1-up : goal.returns-in-len1-up
returns-in-len1-up c =
    λ h. ap Err c.lone.ensures
    ∙ lonely string_bytes c.loop-rest.rest.now (choice_of c.loop-rest.chosen) c.last-item.result c.as_str-in-len1-up.result.now (search rules) (search rules)
    c.last-item.is c.as_str-in-len1-up.ensures.value
    ∙ c.loop-rest.invariant
