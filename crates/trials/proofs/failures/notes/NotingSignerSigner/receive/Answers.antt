use Rattle.cms.specs.Signer.{signed_by}
use Rattle.cms.proofs.SignedEach.{awaits_more}
use Rattle.trials.proofs.failures.notes.NotingSignerSigner.receive.Goals as goal

pub returns-clause-awaits : goal.returns-clause-awaits
returns-clause-awaits g c =
    awaits_more (λ before text answer after. g.S.Signer.signs before.signer text answer after.signer)
    (λ before texts after. g.S.Signer.sent before.signer texts after.signer) c.args.text.now (signed_by c.sign.result)
    c.args.self.now c.sign.new.self (λ x y z texts others first second.
    g.met.S.Signer.sent_after x.signer y.signer z.signer texts others first second) c.sign.ensures.signs
    c.sign.ensures.sent
