use Rattle.std.proofs.Common.{◌≤◌, ◌∙◌, ℕ, List, length, sym, ap, subst}
use Rattle.policy.specs.LookUp.{account_named}
use Rattle.tsp.specs.{Request.Spells, View.request_view}
use Rattle.book.specs.Values.{stamp_view}
use Rattle.decide.specs.Verdict.{IsVerdict, Denied}
use Rattle.judgement.specs.{Readings.unheld, View.evidence_view}
use Rattle.judgement.proofs.Judging.{fails_furthest, fails_spelling}
use Rattle.judgement.proofs.stamps.judge.Goals as goal

pub returns-in_default : goal.returns-in_default
returns-in_default c =
    fails_spelling (unheld (evidence_view c.args.evidence.now)) c.args.before.now (stamp_view c.args.stamp.now)
    (λ spelled. c.in_default.ensures.only spelled.0.0
    (subst (λ o. Spells o spelled.0.0) (sym c.deref.ensures.value) spelled.0.1)
    (subst (λ (o : List ℕ). length o ≤ 65536) (sym c.deref.ensures.value) spelled.1))

pub returns-in-Deny : goal.returns-in-Deny
returns-in-Deny c =
    let e = unheld (evidence_view c.args.evidence.now) in
    let stamp = stamp_view c.args.stamp.now in
    let r = request_view c.in-Ok.request in
    let facts = c.furthest-facts.result in
    let rule = c.in-Deny.rule in
    let account = c.account_named-account.ensures ∙ ap (account_named e.file) c.as_str.ensures.value in
    let verdict = subst (λ a. IsVerdict e.file a r facts (Denied rule)) account c.in-Deny.ensures.verdict in
    fails_furthest e c.args.before.now stamp facts rule c.furthest-facts.ensures
    (c.verdicts_are_of_octets.ensures.denied e.file (account_named e.file stamp.account) stamp.request r facts rule
    (subst (λ o. Spells o r) c.deref.ensures.value c.in-Ok.ensures.found)
    (subst (λ (o : List ℕ). length o ≤ 65536) c.deref.ensures.value c.in-Ok.ensures.short) verdict)
