use Rattle.std.proofs.Common.{[]}
use Rattle.cms.specs.Signer.{signed_by}
use Rattle.sessions.proofs.Chains.{signs_one}
use Rattle.sessions.proofs.reconnecting_signer.ReconnectingSignerSigner.sign.Goals as goal

pub returns-clause-signs : goal.returns-clause-signs
returns-clause-signs g c =
    signs_one g.S.Signer.sent g.O.Sessions.fresh g.O.Sessions.opens g.O.Sessions.signed g.O.Sessions.loses
    g.S.Signer.signs g.S.Pipeline.ahead c.args.self.now c.receive.new.self c.args.text.now (signed_by c.receive.result)
    (c.receive.ensures.awaits c.args.self.now [] [] [] c.send.ensures.awaits)

pub returns-clause-sent : goal.returns-clause-sent
returns-clause-sent g c =
    let awaits = c.receive.ensures.awaits c.args.self.now [] [] [] c.send.ensures.awaits in awaits.went_out
