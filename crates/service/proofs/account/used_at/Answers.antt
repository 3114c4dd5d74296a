use Rattle.std.proofs.Common.{◌∙◌, SFits, w64, to_z-of_z, to_z, of_z, ap, rules, subst, sym}
use Rattle.std.specs.Prelude.{string_bytes}
use Rattle.policy.specs.View.{counter_view}
use Rattle.book.specs.Stands.{Stands}
use Rattle.service.proofs.AccountLemmas.{used_known}
use Rattle.service.proofs.account.used_at.Goals as goal

pub returns-in_ok-count-in-Good-clause-value : goal.returns-in_ok-count-in-Good-clause-value
returns-in_ok-count-in-Good-clause-value g c honest b stands =
    let fits : SFits w64 c.args.reading = search rules in
    let same = c.store.ensures.same in
    let between = subst g.B.Standing.honest same (c.in_ok-count-in-Good.ensures.looks.honest honest) in
    let stood = subst (Stands g.B.Standing b) (sym same) (c.in_ok-looked.ensures.looks.stands b stands) in
    used_known (counter_view c.policy.result.now.counter) c.args.desk.now.setting.file.counter c.in_ok-looked.looked
    (to_z w64 (of_z w64 c.args.reading)) c.args.reading b (string_bytes c.args.account.now.name)
    (ap (λ p. p.counter) c.policy.ensures ∙ ap (λ s. s.file.counter) c.in_ok-looked.ensures.setting) (to_z-of_z fits)
    (c.in_ok-looked.ensures.value between b stands) c.as_str.result.now c.in-Good.moment c.day.result
    c.in_ok-count-in-Good.count c.in-Good.ensures.state c.as_str.ensures.value c.day.ensures.value
    (c.in_ok-count-in-Good.ensures.value honest b stood)
