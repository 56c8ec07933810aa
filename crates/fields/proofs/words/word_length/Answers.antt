use Rattle.std.proofs.Common.{◌≡◌, ℕ, List, length, arith}
use Rattle.std.specs.List.{prefix_len, position}
use Rattle.std.specs.Option.{unwrap_or}
use Rattle.std.proofs.lemmas.Bool.Decides.{nat_tests}
use Rattle.std.proofs.lemmas.List.Sums.{prefix_len-le-length}
use Rattle.fields.specs.Words.{is_blank, in_word}
use Rattle.fields.proofs.words.word_length.Goals as goal

end_of_word : (cs : List ℕ) → unwrap_or (position is_blank cs) (length cs) ≡ prefix_len in_word cs
end_of_word cs = let within = prefix_len-le-length in_word cs in grind (arith, nat_tests)

pub returns-clause-value : goal.returns-clause-value
returns-clause-value c = rw (c.unwrap_or.ensures, c.first_at.ensures.value) (end_of_word c.args.text.now)
