use Rattle.std.proofs.{Common.◌≡◌, Common.true, lemmas.Bool.Decides.Decides-at}
use Rattle.policy.specs.Record.{TsaPolicyValue}
use Rattle.decide.proofs.Sentences.{asked_any, wanted_given}
use Rattle.decide.proofs.rules.gives_certificate.Goals as goal

pub returns-else-not-cert_req : goal.returns-else-not-cert_req
returns-else-not-cert_req c =
    let any =
    asked_any c.oids_have_one_content_and_text.ensures.one_content c.args.policy.now.policies.items c.content.result.now
    c.args.oid.now
    c.content.ensures.encoded (λ p. p.certificate) (λ (p : TsaPolicyValue). p.certificate ≡ true)
    (λ p. (λ h. h, λ h. h)) in
    let given = Decides-at c.is_given_out.result _ (rw c.deref.ensures.value at c.is_given_out.ensures) any in
    wanted_given c.args.request.now.cert_req c.is_given_out.result
    (search (c.if-not-cert_req.ensures, c.cert_req.ensures, c.if-not-cert_req.false)) given
