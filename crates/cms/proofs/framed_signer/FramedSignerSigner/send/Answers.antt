use Rattle.std.proofs.Common.{[], refl}
use Rattle.cms.specs.auxiliary.SentLaws.{sends_nothing}
use Rattle.cms.proofs.framed_signer.FramedSignerSigner.send.Goals as goal

pub returns-clause-awaits : goal.returns-clause-awaits
returns-clause-awaits g c = record { signed = refl; went_out = sends_nothing c.args.self.now [] }
