use Rattle.std.proofs.Common.{rules}
use Rattle.fields.proofs.Cuts.{no_words, words_led}
use Rattle.fields.proofs.words.first_word.Goals as goal

pub returns-in_err-word_start : goal.returns-in_err-word_start
returns-in_err-word_start c = rw c.from_residual.ensures (no_words c.args.text.now c.in_err-word_start.ensures.value)

pub returns : goal.returns
returns c =
    words_led c.args.text.now c.split_at.result.1.now c.split_at-2.result.0.now c.split_at-2.result.1.now c.in_ok-word_start.field-0
    c.word_length.result (search rules) c.split_at.ensures.back c.word_length.ensures.value c.split_at-2.ensures.front c.split_at-2.ensures.back
