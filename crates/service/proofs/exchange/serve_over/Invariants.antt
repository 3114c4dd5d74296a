-- What came was consumed; behind the last octet of a request none was.
use Rattle.std.proofs.Common.{◌≡◌, true, false, length}
use Rattle.std.specs.Io.KnownBytes.{Consumes, IsAtEnd}
use Rattle.service.specs.Received.{is_open, reads_left}
use Rattle.service.proofs.exchange.serve_over.Given as goal

abbrev pub invariant-reading : goal.invariant-reading
invariant-reading g l = record {
  consumed : Consumes (g.R.Read.remaining l.initial.reader) (g.R.Read.remaining l.reader) l.request.octets;
  ended : l.request.is_ended ≡ true → IsAtEnd (g.R.Read.remaining l.reader);
  exact : is_open l.request ≡ false → l.request.taken ≡ length l.request.octets;
}

abbrev pub decreases-reading : goal.decreases-reading
decreases-reading g l = reads_left l.request
