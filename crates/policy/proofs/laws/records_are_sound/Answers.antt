use Rattle.policy.proofs.SoundRecords.{records_are_sound}
use Rattle.policy.proofs.laws.records_are_sound.Goals as goal

pub returns : goal.returns
returns c = records_are_sound
