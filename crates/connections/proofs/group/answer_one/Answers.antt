use Rattle.std.proofs.Common.{rules, SFits, w64, to_z-of_z}
use Rattle.connections.specs.auxiliary.Gathering.{handed_view}
use Rattle.connections.proofs.GroupLemmas.{one_answered}
use Rattle.connections.proofs.group.answer_one.Goals as goal

pub returns : goal.returns
returns g c =
    let exchanged = c.serve-exchanged in
    let fits : SFits w64 c.args.one.reading = search rules in
    one_answered _ _ _ _ _
    (record { handed = handed_view c.args.one; stream_after = exchanged.new.writer; exchanged = exchanged.result })
    exchanged.ensures.served.0 _ _
    (record {
      setting = exchanged.ensures.setting;
      honest = exchanged.ensures.honest;
      serves = rw (to_z-of_z fits) at exchanged.ensures.served.1;
      all = exchanged.ensures.all;
    }) c.take_back.ensures
