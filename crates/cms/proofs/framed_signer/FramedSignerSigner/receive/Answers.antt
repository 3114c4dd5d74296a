use Rattle.cms.specs.{Framed.SignsByFrame, auxiliary.SentLaws.sends_after, Sent.SendsFrames, Signer.signed_by}
use Rattle.cms.proofs.SignedEach.{awaits_more}
use Rattle.cms.proofs.framed_signer.FramedSignerSigner.receive.Goals as goal

pub returns-clause-awaits : goal.returns-clause-awaits
returns-clause-awaits g c =
    awaits_more SignsByFrame SendsFrames c.args.text.now (signed_by c.sign.result) c.args.self.now c.sign.new.self
    sends_after c.sign.ensures.signs c.sign.ensures.sent
