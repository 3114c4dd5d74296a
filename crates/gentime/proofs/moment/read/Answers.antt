use Rattle.std.proofs.Common.{Ok, ap, ◌∙◌, arith}
use Rattle.std.proofs.lemmas.{Grind.common_steps, Option.same_Some}
use Rattle.gentime.specs.GenTime.{time_of}
use Rattle.gentime.proofs.Moments.{same_moment, states_time_of, text_from_time, time_of_exists, time_of_counted}
use Rattle.gentime.proofs.moment.read.Goals as goal

pub returns-in_err-time-clause-moment : goal.returns-in_err-time-clause-moment
returns-in_err-time-clause-moment c = λ moment h e.
    let stated = states_time_of _ moment h e in grind (arith, common_steps)

pub returns-in_err-date-clause-moment : goal.returns-in_err-date-clause-moment
returns-in_err-date-clause-moment c = λ moment h e.
    let stated = states_time_of _ moment h e in
    let exists = time_of_exists moment h in grind (arith, common_steps)

pub returns-in_err-micros-clause-moment : goal.returns-in_err-micros-clause-moment
returns-in_err-micros-clause-moment c = λ moment h e.
    let stated = states_time_of _ moment h e in
    let exists = time_of_exists moment h in
    let counted = time_of_counted moment in grind (arith, common_steps)

pub returns-clause-text : goal.returns-clause-text
returns-clause-text c =
    let stated = rw c.in_ok-time.ensures.ok_part at c.read.ensures.stated in
    let same = rw c.in_ok-micros.ensures.ok_part at c.micros.ensures.moment in
    text_from_time _ _ _ stated same.1

pub returns-clause-moment : goal.returns-clause-moment
returns-clause-moment c = λ moment h e.
    let stated = states_time_of _ moment h e in
    let time = rw c.in_ok-time.ensures.ok_part at (c.read.ensures.only (time_of moment) stated) in
    let same = rw c.in_ok-micros.ensures.ok_part at c.micros.ensures.moment in
    ap Ok (same_moment c.in_ok-micros.micros moment (same.1 ∙ same_Some _ _ time))
