-- What the stream still gives is left as it was.
use Rattle.std.specs.Io.KnownBytes.{Keeps}
use Rattle.sessions.proofs.session.SessionStreamRead.read.Given as goal

abbrev pub invariant-loop : goal.invariant-loop
invariant-loop g l = Keeps (g.S.Read.remaining l.initial.self) (g.S.Read.remaining l.self)
