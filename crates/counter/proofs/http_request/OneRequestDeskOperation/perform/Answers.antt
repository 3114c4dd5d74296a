use Rattle.std.proofs.Common.{ℤ, List, subst, rules, SFits, w64, to_z-of_z}
use Rattle.desk.specs.MachineRuns.{Told}
use Rattle.service.specs.Served.{Serves, Turn}
use Rattle.counter.proofs.OfService.{exchanged}
use Rattle.counter.proofs.http_request.OneRequestDeskOperation.perform.Goals as goal

pub returns-clause-answered : goal.returns-clause-answered
returns-clause-answered g c =
    let turn : Turn g.row.W.Denot g.row.B.Denot g.row.G.Denot =
    record {
      input = g.R.Read.remaining c.args.reader.now;
      input_after = g.R.Read.remaining c.serve_over.new.reader;
      writer = c.args.writer.now;
      writer_after = c.serve_over.new.writer;
      desk = c.args.signed.now.desk;
      desk_after = c.serve_over.new.desk;
      signer = c.args.signed.now.signer;
      signer_after = c.serve_over.new.signer;
    }
    in
    let fits : SFits w64 c.args.self.reading = search rules in
    let at : ℤ → Type 0 =
    λ n. (steps : List Told) × Serves g.B.Standing g.G.Signer.signs g.G.Signer.fault_count g.W.Write.contents n turn
    steps c.serve_over.result
    in
    exchanged g.B.Standing g.G.Signer.signs g.G.Signer.fault_count g.W.Write.contents c.args.self.reading turn
    c.serve_over.result (subst at (to_z-of_z fits) c.serve_over.ensures.served)
