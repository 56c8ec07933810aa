use Rattle.std.proofs.Common.{refl}
use Rattle.laws.proofs.examples.event_examples_hold.Goals as goal

pub returns : goal.returns
returns c =
    record {
      new_unit = refl;
      script = refl;
      shortest = refl;
      longest = refl;
      lengths = refl;
      too_long = refl;
      hint = refl;
      nine_misses = refl;
      opened = refl;
      ten_misses = refl;
      steps = refl;
      product = refl;
      reads = refl;
      past_the_end = refl;
      sense = refl;
      idles = refl;
      gone = refl;
      presented = refl;
      identity = refl;
      refusals = refl;
    }
