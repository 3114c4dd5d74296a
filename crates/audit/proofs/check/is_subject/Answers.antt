use Rattle.std.proofs.Common.{◌≡◌, rules, tests}
use Rattle.std.specs.Prelude.{◌↔◌, IsTrue}
use Rattle.der.specs.{DataValueView.value_view, Node.encoding}
use Rattle.audit.proofs.Checks.{tells_subject}
use Rattle.audit.proofs.check.is_subject.Goals as goal

pub returns-in-Some : goal.returns-in-Some
returns-in-Some c =
    let found = value_view c.in-Some.subject in
    let name = value_view c.args.name.now in
    let told : IsTrue c.eq.result ↔ (encoding found ≡ encoding name) =
    (λ e. search (rules, tests), λ e. search (rules, tests)) in
    tells_subject c.args.certificate.now found name c.eq.result c.encodings_are_read.ensures.value
    (c.encodings_are_read.ensures.lawful _ c.in-Some.subject.lawful).0
    (c.encodings_are_read.ensures.lawful _ c.args.name.now.lawful).0
    c.in-Some.ensures.found c.in-Some.ensures.only told

pub returns-in-None : goal.returns-in-None
returns-in-None c = (λ e. absurd (cc e), λ s. absurd (c.in-None.ensures.only (value_view c.args.name.now) s))
