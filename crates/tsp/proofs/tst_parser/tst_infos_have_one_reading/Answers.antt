use Rattle.tsp.proofs.TstRead.{same_written}
use Rattle.tsp.proofs.tst_parser.tst_infos_have_one_reading.Goals as goal

pub returns : goal.returns
returns c = record { one = same_written }
