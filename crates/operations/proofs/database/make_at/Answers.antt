use Rattle.operations.proofs.database.make_at.Goals as goal

pub returns-clause-made : goal.returns-clause-made
returns-clause-made g c =
    let made = c.in_ok-made in
    let closed = c.close_database-closed in
    (made.made, made.ensures.stands, made.ensures.opened, (closed.result, closed.ensures))
