-- The laws of cause, together.
use Rattle.privacy.specs.Causes.{Caused}
use Rattle.privacy.proofs.Away.{away_as_asked, away_when_asked}
use Rattle.privacy.proofs.Jams.{jammed_when_jammed}
use Rattle.privacy.proofs.Begun.{recovering_when_asked}
use Rattle.privacy.proofs.Recovering.{recovers_as_reported, lock_data_reports, lasts_as_reported, completes_in_last, wipes_in_order}
use Rattle.privacy.proofs.Places.{units_have_blocks}
use Rattle.privacy.proofs.Correct.{correct_opens}
use Rattle.privacy.proofs.Shut.{shut_after_ten}
use Rattle.privacy.proofs.Kept.{blocks_stay, unit_blocks_stay, marks_stay, on_medium}

pub caused : Caused
caused = record {
  away = away_as_asked;
  away_since = away_when_asked;
  jammed = jammed_when_jammed;
  recovering_since = recovering_when_asked;
  recovers = recovers_as_reported;
  told = lock_data_reports;
  lasts = lasts_as_reported;
  completes_last = completes_in_last;
  in_order = wipes_in_order;
  units_have_blocks = units_have_blocks;
  opens = correct_opens;
  shut = shut_after_ten;
  blocks = blocks_stay;
  unit_blocks = unit_blocks_stay;
  marks = marks_stay;
  on_medium = on_medium;
}
