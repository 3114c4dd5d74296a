use Rattle.std.proofs.Common.{inl, inr}
use Rattle.audit.proofs.Lines.{nothing_written}
use Rattle.audit.proofs.extracts.write_extract.Goals as goal

pub returns-in-Err-clause-written : goal.returns-in-Err-clause-written
returns-in-Err-clause-written g c =
    nothing_written g.B.Standing c.args.store.now (g.W.Write.contents c.args.out.now)
    c.args.inquiry.now.from c.args.inquiry.now.to
    c.in-Err.fault
    (λ e. elim c.in-Err.ensures.refusals [ inl first ↦ cc (first, e) | inr second ↦ cc (second, e) ])
