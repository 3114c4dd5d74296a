use Rattle.operations.proofs.InDatabases.{answered_in, refused_in}
use Rattle.operations.proofs.explanation.explain.Goals as goal

pub returns-clause-explained : goal.returns-clause-explained
returns-clause-explained g c = answered_in _ _ c.in_ok-perform_at.field-0 _ _ c.in_ok-perform_at.ensures.moved

pub returns-clause-refused : goal.returns-clause-refused
returns-clause-refused g c = refused_in _ _ c.in_ok-perform_at.field-0 _ _ _ c.in_ok-perform_at.ensures.moved
