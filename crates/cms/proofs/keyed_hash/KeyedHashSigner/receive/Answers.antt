use Rattle.std.proofs.Common.{◌∙◌}
use Rattle.cms.specs.{KeyedHash.SignsByHash, KeyedHash.SendsNothing, Signer.signed_by}
use Rattle.cms.proofs.SignedEach.{awaits_more}
use Rattle.cms.proofs.keyed_hash.KeyedHashSigner.receive.Goals as goal

pub returns-clause-awaits : goal.returns-clause-awaits
returns-clause-awaits c =
    awaits_more SignsByHash SendsNothing c.args.text.now (signed_by c.sign.result) c.args.self.now c.sign.new.self
    (λ x y z texts others first second. second ∙ first) c.sign.ensures.signs c.sign.ensures.sent
