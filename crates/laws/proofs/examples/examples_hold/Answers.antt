use Rattle.std.proofs.Common.{refl}
use Rattle.laws.proofs.examples.examples_hold.Goals as goal

pub returns : goal.returns
returns c =
    record {
      new_unit = refl;
      script = refl;
      shortest = refl;
      longest = refl;
      lengths = refl;
      too_long = refl;
      hint = refl;
      nine_misses = refl;
      opened = refl;
      ten_misses = refl;
      steps = refl;
      product = refl;
    }
