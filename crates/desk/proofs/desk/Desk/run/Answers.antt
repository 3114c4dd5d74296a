use Rattle.std.proofs.Common.{subst}
use Rattle.desk.specs.Asked.{commands_view, answers_view}
use Rattle.desk.specs.{Calls.settings_view, RunContract.IsRun, CallContract.desk_of}
use Rattle.desk.proofs.journeys.Sound.{TextLaws}
use Rattle.desk.proofs.journeys.RunsOn.{honest_before, steps_run, file_stays, proper_still}
use Rattle.desk.proofs.desk.Desk.run.Goals as goal

pub returns-clause-honest : goal.returns-clause-honest
returns-clause-honest g c =
    let steps = c.in_ok-answers.ensures.steps in
    let new = c.obey_each.new.store in
    subst (λ d. g.B.Standing.honest new → g.B.Standing.honest d.store) c.self.view_is
    (honest_before g.B.Standing g.G.Signer.signs g.G.Signer.fault_count (settings_view c.self.inside.settings)
    (commands_view c.args.commands.now) steps.0 (answers_view c.in_ok-answers.answers.items) c.self.inside.store
    c.args.signer.now (settings_view c.in_ok-answers.after) new c.obey_each.new.signer steps.1)

pub returns-clause-run : goal.returns-clause-run
returns-clause-run g c =
    let s = settings_view c.self.inside.settings in
    let law = c.requests_have_one_reading.ensures in
    let laws : TextLaws = record { one_request = law.one; lawful_answers = law.lawful } in
    let steps = c.in_ok-answers.ensures.steps in
    let cs = commands_view c.args.commands.now in
    let answers = answers_view c.in_ok-answers.answers.items in
    let x = c.args.signer.now in
    let after = settings_view c.in_ok-answers.after in
    let new = c.obey_each.new.store in
    let y = c.obey_each.new.signer in
    subst
    (λ d. IsRun g.B.Standing g.G.Signer.signs g.G.Signer.fault_count cs answers d x (desk_of after new) y)
    c.self.view_is (
      steps.0,
      steps_run g.B.Standing g.G.Signer.signs g.G.Signer.fault_count laws s c.self.invariant cs steps.0 answers
          c.self.inside.store x after new y steps.1,
    )

pub invariant_of-self-2 : goal.invariant_of-self-2
invariant_of-self-2 g c =
    let s = settings_view c.self.inside.settings in
    let after = settings_view c.in_ok-answers.after in
    let steps = c.in_ok-answers.ensures.steps in
    proper_still s after c.self.invariant (file_stays g.B.Standing g.G.Signer.signs g.G.Signer.fault_count s
    (commands_view c.args.commands.now) steps.0 (answers_view c.in_ok-answers.answers.items) c.self.inside.store
    c.args.signer.now after c.obey_each.new.store c.obey_each.new.signer steps.1) c.has_subject.ensures

pub returns-clause-proper : goal.returns-clause-proper
returns-clause-proper g c = invariant_of-self-2 g c
