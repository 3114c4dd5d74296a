use Rattle.std.proofs.Common.{[], refl}
use Rattle.trials.proofs.failures.notes.NotingSignerSigner.send.Goals as goal

pub returns-clause-awaits : goal.returns-clause-awaits
returns-clause-awaits g c = record { signed = refl; went_out = g.met.S.Signer.unsent c.args.self.now.signer [] }
