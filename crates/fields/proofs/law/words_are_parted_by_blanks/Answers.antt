use Rattle.fields.proofs.Blanks.{words_law}
use Rattle.fields.proofs.law.words_are_parted_by_blanks.Goals as goal

pub returns : goal.returns
returns c = words_law
