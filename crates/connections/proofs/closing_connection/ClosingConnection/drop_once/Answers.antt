use Rattle.connections.proofs.ClosingLemmas.{counted_failed, counted_read}
use Rattle.connections.proofs.closing_connection.ClosingConnection.drop_once.Goals as goal

pub returns-in-Ok : goal.returns-in-Ok
returns-in-Ok g c = record {
  counted = counted_read _ _ c.args.self.now.dropped c.in-Ok.taken c.read.new.buf c.in-Ok.ensures.bound.0
      c.in-Ok.ensures.bytes.0;
}

pub returns-in-Err : goal.returns-in-Err
returns-in-Err g c = record { counted = counted_failed _ _ c.args.self.now.dropped c.in-Err.ensures.bytes }
