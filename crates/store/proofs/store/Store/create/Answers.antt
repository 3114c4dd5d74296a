use Rattle.store.proofs.store.Store.create.Goals as goal

pub returns-in-Ok-clause-stands : goal.returns-in-Ok-clause-stands
returns-in-Ok-clause-stands g c has = c.in-Ok.ensures.stands has tt
