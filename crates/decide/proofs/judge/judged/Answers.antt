use Rattle.std.proofs.Common.{Some}
use Rattle.policy.specs.View.{policy_view, account_view}
use Rattle.tsp.specs.View.{request_view}
use Rattle.tsp.specs.declared.rule.Rule.TheVariants.{Policy, PolicyAlgorithm, Extensions, Certificate}
use Rattle.decide.specs.Rules.{IsAccepted, AllowsAlgorithm, AllowsExtensions, GivesCertificate}
use Rattle.decide.proofs.Judgement.{after_length, holds_of_asked, fails_of_asked, judged_all, refuted}
use Rattle.decide.proofs.judge.judged.Goals as goal

pub returns-in_default-accepted_policy : goal.returns-in_default-accepted_policy
returns-in_default-accepted_policy c =
    let file = policy_view c.args.policy.now in
    let account = Some (account_view c.in-Some.account.now) in
    let r = request_view c.args.request.now in
    let six = after_length file account r (c.has_version_one.ensures.0 c.if-not-has_version_one.false)
    (c.is_known.ensures.0 c.if-not-is_known.false) (c.has_known_algorithm.ensures.0 c.if-not-has_known_algorithm.false)
    (c.has_algorithm_length.ensures.0 c.if-not-has_algorithm_length.false) in
    rw c.in-Some.is record { fails = c.in_default-accepted_policy.ensures; before = six }

pub returns-then-not-allows_algorithm : goal.returns-then-not-allows_algorithm
returns-then-not-allows_algorithm c =
    let file = policy_view c.args.policy.now in
    let account = Some (account_view c.in-Some.account.now) in
    let r = request_view c.args.request.now in
    let six = after_length file account r (c.has_version_one.ensures.0 c.if-not-has_version_one.false)
    (c.is_known.ensures.0 c.if-not-is_known.false) (c.has_known_algorithm.ensures.0 c.if-not-has_known_algorithm.false)
    (c.has_algorithm_length.ensures.0 c.if-not-has_algorithm_length.false) in
    let oid = c.in-Some-accepted_policy.oid.now in
    let accepted = c.in-Some-accepted_policy.ensures in
    let seven = holds_of_asked file account r oid accepted.1 Policy (IsAccepted file account) six (λ h. h) accepted.0 in
    rw c.in-Some.is
    (fails_of_asked file account r oid accepted.1 PolicyAlgorithm (λ o. AllowsAlgorithm file o r) seven (λ h. h)
    (refuted c.allows_algorithm.result c.allows_algorithm.ensures.1 c.if-not-allows_algorithm.true))

pub returns-then-not-allows_extensions : goal.returns-then-not-allows_extensions
returns-then-not-allows_extensions c =
    let file = policy_view c.args.policy.now in
    let account = Some (account_view c.in-Some.account.now) in
    let r = request_view c.args.request.now in
    let six = after_length file account r (c.has_version_one.ensures.0 c.if-not-has_version_one.false)
    (c.is_known.ensures.0 c.if-not-is_known.false) (c.has_known_algorithm.ensures.0 c.if-not-has_known_algorithm.false)
    (c.has_algorithm_length.ensures.0 c.if-not-has_algorithm_length.false) in
    let oid = c.in-Some-accepted_policy.oid.now in
    let accepted = c.in-Some-accepted_policy.ensures in
    let seven = holds_of_asked file account r oid accepted.1 Policy (IsAccepted file account) six (λ h. h) accepted.0 in
    let eight = holds_of_asked file account r oid accepted.1 PolicyAlgorithm (λ o. AllowsAlgorithm file o r) seven
    (λ h. h) (c.allows_algorithm.ensures.0 c.if-not-allows_algorithm.false) in
    rw c.in-Some.is
    (fails_of_asked file account r oid accepted.1 Extensions (λ o. AllowsExtensions file o r) eight (λ h. h)
    (refuted c.allows_extensions.result c.allows_extensions.ensures.1 c.if-not-allows_extensions.true))

pub returns-then-not-gives_certificate : goal.returns-then-not-gives_certificate
returns-then-not-gives_certificate c =
    let file = policy_view c.args.policy.now in
    let account = Some (account_view c.in-Some.account.now) in
    let r = request_view c.args.request.now in
    let six = after_length file account r (c.has_version_one.ensures.0 c.if-not-has_version_one.false)
    (c.is_known.ensures.0 c.if-not-is_known.false) (c.has_known_algorithm.ensures.0 c.if-not-has_known_algorithm.false)
    (c.has_algorithm_length.ensures.0 c.if-not-has_algorithm_length.false) in
    let oid = c.in-Some-accepted_policy.oid.now in
    let accepted = c.in-Some-accepted_policy.ensures in
    let seven = holds_of_asked file account r oid accepted.1 Policy (IsAccepted file account) six (λ h. h) accepted.0 in
    let eight = holds_of_asked file account r oid accepted.1 PolicyAlgorithm (λ o. AllowsAlgorithm file o r) seven
    (λ h. h) (c.allows_algorithm.ensures.0 c.if-not-allows_algorithm.false) in
    let nine = holds_of_asked file account r oid accepted.1 Extensions (λ o. AllowsExtensions file o r) eight
    (λ h. h) (c.allows_extensions.ensures.0 c.if-not-allows_extensions.false) in
    rw c.in-Some.is
    (fails_of_asked file account r oid accepted.1 Certificate (λ o. GivesCertificate file o r) nine (λ h. h)
    (refuted c.gives_certificate.result c.gives_certificate.ensures.1 c.if-not-gives_certificate.true))

pub returns : goal.returns
returns c =
    let file = policy_view c.args.policy.now in
    let account = Some (account_view c.in-Some.account.now) in
    let r = request_view c.args.request.now in
    let six = after_length file account r (c.has_version_one.ensures.0 c.if-not-has_version_one.false)
    (c.is_known.ensures.0 c.if-not-is_known.false) (c.has_known_algorithm.ensures.0 c.if-not-has_known_algorithm.false)
    (c.has_algorithm_length.ensures.0 c.if-not-has_algorithm_length.false) in
    let oid = c.in-Some-accepted_policy.oid.now in
    let accepted = c.in-Some-accepted_policy.ensures in
    let seven = holds_of_asked file account r oid accepted.1 Policy (IsAccepted file account) six (λ h. h) accepted.0 in
    let eight = holds_of_asked file account r oid accepted.1 PolicyAlgorithm (λ o. AllowsAlgorithm file o r) seven
    (λ h. h) (c.allows_algorithm.ensures.0 c.if-not-allows_algorithm.false) in
    let nine = holds_of_asked file account r oid accepted.1 Extensions (λ o. AllowsExtensions file o r) eight
    (λ h. h) (c.allows_extensions.ensures.0 c.if-not-allows_extensions.false) in
    let ten = holds_of_asked file account r oid accepted.1 Certificate (λ o. GivesCertificate file o r) nine
    (λ h. h) (c.gives_certificate.ensures.0 c.if-not-gives_certificate.false) in
    rw c.in-Some.is (judged_all file account r ten, accepted.1)
