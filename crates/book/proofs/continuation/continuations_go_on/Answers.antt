use Rattle.book.proofs.GoingOn.{entries_fit, continued_sound, calibration_goes_on, holds_go_on, held_as_before}
use Rattle.book.proofs.GoingOn.{identity_goes_on, signer_goes_on, greatest_goes_on, moment_goes_on, stamp_goes_on}
use Rattle.book.proofs.GoingOn.{floor_goes_on}
use Rattle.book.proofs.continuation.continuations_go_on.Goals as goal

pub returns : goal.returns
returns c = record {
  fit = entries_fit;
  sound = continued_sound;
  calibration = calibration_goes_on;
  holds = holds_go_on;
  held = held_as_before;
  identity = identity_goes_on;
  signer = signer_goes_on;
  serial = greatest_goes_on;
  moment = moment_goes_on;
  stamp = stamp_goes_on;
  above = floor_goes_on;
}
