use Rattle.std.proofs.Common.{SFits, w64, to_z, of_z, to_z-of_z, rules}
use Rattle.desk.proofs.calls.Clocks.{looked_now}
use Rattle.desk.proofs.clock_facts.look.Goals as goal

pub returns-clause-value : goal.returns-clause-value
returns-clause-value g c honest b s =
    let reading : SFits w64 c.args.reading = search rules in
    let held_before = c.in_ok-held.ensures.looks.honest honest in
    let last_before = c.in_ok-calibration.ensures.looks.honest held_before in
    let s1 = c.in_ok-last.ensures.looks.stands b s in
    let s2 = c.in_ok-calibration.ensures.looks.stands b s1 in
    looked_now (to_z w64 (of_z w64 c.args.reading)) c.args.reading b s.sound c.in_ok-last.last _ c.in_ok-held.held
    c.calibration_as-calibration.result c.last_moment_of.result
    (to_z-of_z reading) (c.in_ok-last.ensures.value last_before b s)
    (c.in_ok-calibration.ensures.value held_before b s1) c.calibration_as-calibration.ensures
    (c.in_ok-held.ensures.value honest b s2) c.last_moment_of.ensures
