use Rattle.std.proofs.Common.{◌∙◌, ℕ, List, refl, SFits, w64, to_z-of_z, to_z, of_z, rules, sym, ap, subst}
use Rattle.policy.specs.View.{counter_view}
use Rattle.service.specs.{Answers.unavailable, Reports.wants, Status.IsStatusText, Views.seen_at}
use Rattle.service.proofs.Operators.{status_told}
use Rattle.service.proofs.status.serve_status.Goals as goal

pub returns-in-Some-clause-served : goal.returns-in-Some-clause-served
returns-in-Some-clause-served g c =
    let fits : SFits w64 c.args.context.now.at.reading = search rules in
    let same = c.store_faults.ensures.same in
    let counter = counter_view c.policy.result.now.counter in
    let T : List ℕ → Type 0 = λ l. IsStatusText counter c.in-Ok.looked c.store_faults.result c.args.signer_faults
    c.args.context.now.octets l in
    status_told g.B.Standing g.W.Write.contents (seen_at c.args.context.now c.args.signer_faults) c.args.writer.now
    c.succeed.new.writer c.args.desk.now c.store_faults.new.desk counter
    (to_z w64 (of_z w64 c.args.context.now.at.reading)) c.in-Ok.looked c.store_faults.result c.deref.result.now
    c.succeed.result (subst T (sym c.deref.ensures.value) c.in-Some.ensures)
    (ap (λ p. p.counter) c.policy.ensures ∙ ap (λ d. d.setting.file.counter) same
    ∙ ap (λ s. s.file.counter) c.look.ensures.setting)
    (to_z-of_z fits)
    (λ honest b stands. c.in-Ok.ensures.value (subst (λ d. g.B.Standing.honest d.store) same honest) b stands)
    (c.store_faults.ensures.value ∙ ap (λ d. g.B.Standing.fault_count d.store) (sym same)) c.succeed.ensures.sent

pub returns-in_default-clause-served : goal.returns-in_default-clause-served
returns-in_default-clause-served g c = (unavailable, wants tt refl, c.out_of_memory.ensures.sent)

pub returns-in-None-clause-served : goal.returns-in-None-clause-served
returns-in-None-clause-served g c = (unavailable, wants tt refl, c.out_of_memory-in-None.ensures.sent)
