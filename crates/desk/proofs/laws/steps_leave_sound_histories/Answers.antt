use Rattle.desk.proofs.{journeys.Sound.TextLaws, journeys.Whole.step_sound, journeys.Whole.cut_sound}
use Rattle.desk.proofs.laws.steps_leave_sound_histories.Goals as goal

pub returns : goal.returns
returns c =
    let law = c.requests_have_one_reading.ensures in
    let laws : TextLaws = record { one_request = law.one; lawful_answers = law.lawful } in
    record { whole = step_sound laws; stopped = cut_sound laws }
