use Rattle.std.proofs.Common.{rules, ◌<◌, ◌^◌, inl, inr, pos, subst, w64}
use Rattle.std.proofs.{lemmas.Int.to_z_pos, lemmas.Result.IfErr-weaker, lemmas.Result.on_ok_weaker}
use Rattle.policy.specs.View.{policy_view}
use Rattle.counter.specs.Exchange.{HasStopped}
use Rattle.counter.proofs.{Exchanged.ended, Exchanged.stopped, ReadDesks.reads_desk}
use Rattle.counter.proofs.exchange.exchange.Goals as goal

pub returns-in-Ok-clause-answered : goal.returns-in-Ok-clause-answered
returns-in-Ok-clause-answered g c =
    let small : c.args.words.now.reading < 2 ^ 63 = search rules in
    let files = c.in_ok-policy.field-0 in
    let read = c.in_ok-policy.ensures in
    let answered = rw (to_z_pos w64 c.args.words.now.reading small) at c.in-Ok.ensures.answered in
    let served = rw (
      to_z_pos w64 c.args.words.now.reading small,
      c.in_ok-policy.ensures.algorithm,
    ) at c.in-Ok.ensures.moved
    in
    on_ok_weaker c.finish.result
    (λ end. record {
      read = reads_desk _ c.args.words.now.desk files read.meant read.identity read.alone read.signs;
      writes = ended (policy_view files.policy) (pos c.args.words.now.reading)
          (g.I.Read.remaining c.args.input.now) (g.I.Read.remaining c.perform_at_desk.new.input)
          (g.O.Write.contents c.args.output.now) (g.O.Write.contents c.perform_at_desk.new.output)
          (g.O.Write.contents c.finish.new.output) c.in-Ok.served answered end;
      output_served = c.perform_at_desk.new.output;
      outcome = c.in-Ok.served;
      served = served;
      ends = end;
    })
    c.finish.ensures.ended

pub returns-in-Ok-clause-kept : goal.returns-in-Ok-clause-kept
returns-in-Ok-clause-kept g c =
    let small : c.args.words.now.reading < 2 ^ 63 = search rules in
    let files = c.in_ok-policy.field-0 in
    let read = c.in_ok-policy.ensures in
    let answered = rw (to_z_pos w64 c.args.words.now.reading small) at c.in-Ok.ensures.answered in
    let served = rw (
      to_z_pos w64 c.args.words.now.reading small,
      c.in_ok-policy.ensures.algorithm,
    ) at c.in-Ok.ensures.moved
    in
    IfErr-weaker c.finish.result _ _
    (λ fault stop.
    elim (stopped (policy_view files.policy) (pos c.args.words.now.reading) (g.I.Read.remaining c.args.input.now)
    (g.I.Read.remaining c.perform_at_desk.new.input) (g.O.Write.contents c.args.output.now)
    (g.O.Write.contents c.perform_at_desk.new.output) (g.O.Write.contents c.finish.new.output) c.in-Ok.served fault
    answered stop) [
      | inl same ↦ inl same
      | inr known ↦
          inr (
            known.0,
            record {
              read = reads_desk _ c.args.words.now.desk files read.meant read.identity read.alone read.signs;
              writes = known.1;
              output_served = c.perform_at_desk.new.output;
              outcome = c.in-Ok.served;
              served = served;
              ends = subst (λ f. HasStopped c.in-Ok.served (g.O.Write.contents c.perform_at_desk.new.output)
                  (g.O.Write.contents c.finish.new.output) f) known.0 stop;
            },
          )
    ])
    c.finish.ensures.stopped
