use Rattle.std.proofs.Common.{◌≡◌, Option, ℕ, inl, inr, rules, subst}
use Rattle.audit.specs.declared.fault.ExtractFault.TheVariants.{Write}
use Rattle.service.specs.Served.{TellsFailure}
use Rattle.service.proofs.ExtractLemmas.{answering, found_fails, keeping_back, unfound_fails, unwritten}
use Rattle.service.proofs.extracts.serve_extract.Goals as goal

pub returns-in-Err-clause-served : goal.returns-in-Err-clause-served
returns-in-Err-clause-served g c =
    keeping_back _ _ _ _ _ _ _ _ _ _ _ _ c.extract_length.ensures.unwritten c.in-Err.fault c.from.result _
    c.in-Err.ensures.refusals
    (rw c.store.ensures.same at c.in-Err.ensures.unasked) (rw c.store.ensures.same at c.in-Err.ensures.faults)
    (search rules) c.from.ensures c.refuse.ensures.sent

pub returns-in-Err-Write-clause-served : goal.returns-in-Err-Write-clause-served
returns-in-Err-Write-clause-served g c =
    let is : c.in-Err-Write.field-0 ≡ Write = search rules in
    unwritten _ _ _ _ _ c.args.writer.now _ _ _ _ _ _ c.extract_length.ensures.unwritten c.as_u16.result (rw is at
    c.in-Err-Write.ensures.refusals)
    c.as_u16.ensures.value

pub returns-in-Ok-clause-served : goal.returns-in-Ok-clause-served
returns-in-Ok-clause-served g c =
    answering _ _ _ _ _ _ _ _ _ _ _ _ c.extract_length.ensures.unwritten _ c.in-Ok.length c.send_extract.result
    c.in-Ok.ensures.refusals
    (rw c.store.ensures.same at c.in-Ok.ensures.looks) (rw c.store-in-Ok.ensures.same at c.send_extract.ensures.looks)
    (rw c.store.ensures.same at c.in-Ok.ensures.value) (rw c.store-in-Ok.ensures.same at c.send_extract.ensures.sent)

pub returns-in-Err-clause-failed : goal.returns-in-Err-clause-failed
returns-in-Err-clause-failed g c =
    let P : Option ℕ → Type 0 = λ f. TellsFailure f (g.W.Output.failures c.refuse.new.writer) c.refuse.result in
    inl (subst P (c.in-Err.ensures.kept (search rules)) c.refuse.ensures.failed)

pub returns-in-Err-Write-clause-failed : goal.returns-in-Err-Write-clause-failed
returns-in-Err-Write-clause-failed g c =
    let is : c.in-Err-Write.field-0 ≡ Write = search rules in
    inr (
      rw is at c.in-Err-Write.ensures.refusals,
      λ honest b stands. unfound_fails _ _ _ b _ _ c.as_u16.result _ _
          ((rw c.store.ensures.same at c.in-Err-Write.ensures.stopped) honest b stands is),
    )

pub returns-in-Ok-clause-failed : goal.returns-in-Ok-clause-failed
returns-in-Ok-clause-failed g c =
    inr (
      c.in-Ok.ensures.refusals,
      found_fails _ _ _ _ _ _ _ _ _ _ _ _ (rw c.store.ensures.same at c.in-Ok.ensures.looks)
          (rw c.store-in-Ok.ensures.same at c.send_extract.ensures.looks)
          (rw c.store.ensures.same at c.in-Ok.ensures.value) (rw c.store.ensures.same at c.in-Ok.ensures.faults)
          c.in-Ok.ensures.kept
          (rw c.store-in-Ok.ensures.same at (c.send_extract.ensures.failed c.in-Ok.ensures.refusals)),
    )
