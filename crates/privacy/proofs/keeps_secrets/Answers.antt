use Rattle.privacy.proofs.Secret.{keeps_secret}
use Rattle.privacy.proofs.Opened.{open_when_opened}
use Rattle.privacy.proofs.Respects.{respects}
use Rattle.privacy.proofs.Bounds.{stays_within}
use Rattle.privacy.proofs.Places.{fits_always}
use Rattle.privacy.proofs.Caused.{caused}
use Rattle.privacy.proofs.keeps_secrets.Goals as goal

pub returns : goal.returns
returns c = record { respects = respects; keeps = keeps_secret; opened = open_when_opened; bounded = stays_within; fitting = fits_always; caused = caused }
