use Rattle.operations.proofs.continuation.make_from.Goals as goal

pub returns-in-Ok-clause-made : goal.returns-in-Ok-clause-made
returns-in-Ok-clause-made g c = rw (c.as_slice.ensures.value, c.in-Ok.ensures) at c.make_at.ensures.made
