-- What the stream took is left as it was.
use Rattle.std.specs.Io.KnownBytes.{Keeps}
use Rattle.sessions.proofs.session.SessionStreamWrite.write.Given as goal

abbrev pub invariant-loop : goal.invariant-loop
invariant-loop g l = Keeps (g.S.Write.contents l.initial.self) (g.S.Write.contents l.self)
