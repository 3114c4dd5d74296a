use Rattle.std.proofs.Common.{◌+◌, [], ◌∷◌, ◌++◌, ◌∙◌, ap, arith}
use Rattle.desk.specs.Asked.{command_view, answer_view}
use Rattle.desk.specs.Calls.{settings_view}
use Rattle.desk.proofs.journeys.RunsOn.{steps_more}
use Rattle.desk.proofs.run.obey_each.Goals as goal

pub loop-command-preserved : goal.loop-command-preserved
loop-command-preserved g c =
    let before = c.loop-command.invariant.steps in
    let step = c.obey-answer.ensures.step in
    record {
      counted = c.in-Ok-push.ensures.len ∙ ap (λ n. n + 1) c.loop-command.invariant.counted;
      room = omega (arith, c.loop-command.invariant.room, c.in-Ok-push.ensures.capacity);
      steps = (
        before.0 ++ (step.0.0 ∷ []),
        steps_more g.B.Standing g.G.Signer.signs g.G.Signer.fault_count (settings_view c.args.settings) command_view
            answer_view c.args.commands.now c.loop-command.command-index c.command-item.result before.0
            c.loop-command.answers.items c.obey-answer.result.0 c.push.new.self.items step.0.0 c.args.store.now
            c.args.signer.now (settings_view c.loop-command.current) c.loop-command.store c.loop-command.signer
            (settings_view c.obey-answer.result.1) c.obey-answer.new.store c.obey-answer.new.signer
            c.loop-command-test.true c.command-item.is c.in-Ok-push.ensures.items before.1 c.obey-answer.ensures.honest
            step.0.1 step.1 step.2,
      );
    }
