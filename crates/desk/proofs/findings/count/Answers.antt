use Rattle.std.proofs.Common.{◌≡◌, sym, ap, ◌∙◌, subst}
use Rattle.policy.specs.View.{account_view}
use Rattle.decide.specs.View.{account_asked}
use Rattle.book.specs.History.{count_of_day, day_of}
use Rattle.desk.specs.{Calls.count_for, WaitingStamps.with_waiting}
use Rattle.desk.proofs.stamps.Among.{count_among}
use Rattle.desk.proofs.findings.count.Goals as goal

pub returns-in_ok-stored-in-Some-clause-value : goal.returns-in_ok-stored-in-Some-clause-value
returns-in_ok-stored-in-Some-clause-value g c honest b st sound =
    let ws = c.args.waits.now in
    let d = with_waiting ws b in
    let a = account_view c.in-Some.account.now in
    let name = c.as_str-name.result.now in
    let day = c.day-day.result in
    subst (λ x. c.saturating_add.result ≡ count_for (account_asked x) (day_of c.args.gen_time) d) (sym c.in-Some.is)
    (c.saturating_add.ensures
    ∙ (count_among name day ws b c.in_ok-stored-in-Some.stored c.count_waiting.result
    (c.in_ok-stored-in-Some.ensures.value honest b st) c.count_waiting.ensures sound
    ∙ (ap (λ n. count_of_day n day d) c.as_str-name.ensures.value
    ∙ ap (λ t. count_of_day a.name t d) c.day-day.ensures.value)))
