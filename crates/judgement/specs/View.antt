-- What the types stand for.
use Rattle.std.specs.Prelude.{map}
use Rattle.policy.specs.View.{policy_view}
use Rattle.book.specs.Values.{calibration_view, hold_view, identity_view}
use Rattle.judgement.specs.{Readings.EvidenceValue, declared.evidence.Evidence.Evidence}

abbrev pub evidence_view : Evidence → EvidenceValue
evidence_view e = record {
  file = policy_view e.policy.now;
  calibrations = map calibration_view e.calibrations.now;
  holds = map hold_view e.holds.now;
  identities = map identity_view e.identities.now;
}
