-- What the stream took is left as it was, and the time goes on.
use Rattle.std.specs.{Prelude.◌≡◌, Prelude.IsSome, Io.KnownBytes.Keeps}
use Rattle.connections.proofs.limited.LimitedWrite.write.Given as goal

abbrev pub invariant-loop : goal.invariant-loop
invariant-loop g l =
    Keeps (g.S.Write.contents l.initial.self.peer.stream) (g.S.Write.contents l.self.peer.stream)
    × (IsSome l.initial.self.end → l.self.end ≡ l.initial.self.end)
