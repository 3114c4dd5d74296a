use Rattle.store.proofs.connection.close.Goals as goal

pub returns-in-Err-clause-closed : goal.returns-in-Err-clause-closed
returns-in-Err-clause-closed g c = (
  c.in-Err.error,
  c.closing_fault.ensures.value,
  (c.in-Err._left, c.in-Err.ensures.err.0, c.in-Err.ensures.err.1),
)

pub returns-in-Err-clause-refusals : goal.returns-in-Err-clause-refusals
returns-in-Err-clause-refusals g c = c.closing_fault.ensures.refusals
