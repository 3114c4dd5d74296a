use Rattle.connections.proofs.server.serve_connections.Goals as goal

pub returns-in-Ok-clause-heard : goal.returns-in-Ok-clause-heard
returns-in-Ok-clause-heard g c =
    (c.serve_each.new.source, c.finish.ensures.finished, c.finish.ensures.places, c.in-Ok.ensures.heard)
