use Rattle.desk.proofs.journeys.WholeOn.{restated_is_stated}
use Rattle.desk.proofs.closed.void_stamps_are_stated.Goals as goal

pub returns : goal.returns
returns c =
    restated_is_stated c.requests_have_one_reading.ensures.one c.tst_infos_have_one_reading.ensures.one
