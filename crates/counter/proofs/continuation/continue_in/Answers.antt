use Rattle.counter.proofs.continuation.continue_in.Goals as goal

pub returns-in-Ok-clause-continued : goal.returns-in-Ok-clause-continued
returns-in-Ok-clause-continued g c = rw c.floor_of.ensures at c.in-Ok.ensures.continued

pub returns-in-Err-clause-refused : goal.returns-in-Err-clause-refused
returns-in-Err-clause-refused g c = (
  c.in-Err.refusal,
  c.fault_of_continuation.ensures,
  rw c.floor_of.ensures at c.in-Err.ensures.refused,
  c.in-Err.ensures.free,
)
