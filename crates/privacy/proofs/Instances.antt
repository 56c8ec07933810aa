-- The instances compute.
use Rattle.std.proofs.Common.{refl}
use Rattle.privacy.specs.Claims.{but}
use Rattle.privacy.specs.Instances.{Instances}

pub instances : Instances
unfolding but
instances = record {
  sizes = (refl, refl);
  fitted = refl;
  fitting = (refl, refl);
  first_phrase = refl;
  second_phrase = refl;
  first_bytes = refl;
  second_bytes = refl;
  alike = refl;
  refused = refl;
  opened = refl;
  unopened = refl;
  completed = refl;
  recovered = refl;
  impersonal_after = refl;
}
