use Rattle.std.proofs.Common.{◌∙◌, Err, ap, inl, inr}
use Rattle.std.proofs.{lemmas.Option.IfSome_then, lemmas.Result.err_from_is_err_and}
use Rattle.console.specs.{Hexadecimal.line, declared.fault.Fault.TheVariants.Input}
use Rattle.counter.specs.Reply.{octets_of}
use Rattle.counter.proofs.run.answer_request.Goals as goal

pub returns-clause-answered : goal.returns-clause-answered
returns-clause-answered g c =
    let written = rw c.octets_of.ensures at c.in_ok-write_hexadecimal.ensures.written in
    IfSome_then (g.I.Read.remaining c.args.input.now) c.in_ok-reply.ensures
    (λ text replies. (line (octets_of c.in_ok-reply.reply), replies, written))

pub returns-in_err-write_hexadecimal-clause-kept : goal.returns-in_err-write_hexadecimal-clause-kept
returns-in_err-write_hexadecimal-clause-kept g c =
    let failing = err_from_is_err_and c.from_residual-in_err-write_hexadecimal.result
    c.from_residual-in_err-write_hexadecimal.ensures.1 in
    let reply = line (octets_of c.in_ok-reply.reply) in
    rw failing.1
    (elim c.in_err-write_hexadecimal.ensures.faults [
      | inl failed ↦
          let begun = rw c.octets_of.ensures at c.in_err-write_hexadecimal.ensures.begun (ap Err failed) in
          inr (
            failing.2 ∙ ap Input failed,
            IfSome_then (g.I.Read.remaining c.args.input.now) c.in_ok-reply.ensures
                (λ text replies. (reply, replies, begun)),
          )
      | inr memory ↦ inl (c.in_err-write_hexadecimal.ensures.kept (ap Err memory))
    ])
