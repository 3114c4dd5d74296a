use Rattle.std.{proofs.Common.sym, proofs.Common.◌∙◌, specs.Str.bytes_eq}
use Rattle.der.specs.ObjectIdentifier.{oid_content}
use Rattle.policy.specs.View.{algorithm_view, policy_view}
use Rattle.decide.proofs.Sentences.{algorithm_known, look_up_tells}
use Rattle.decide.proofs.rules.has_known_algorithm.Goals as goal

pub returns-then-is_some : goal.returns-then-is_some
returns-then-is_some c =
    let content = c.algorithm.result.now in
    let file = policy_view c.args.policy.now in
    let any = algorithm_known c.oids_have_one_content_and_text.ensures.one_content file content
    c.args.request.now.imprint.algorithm c.algorithm.ensures in
    let same = look_up_tells (λ a. algorithm_view a.now) (λ a. bytes_eq (oid_content a.oid) content) file.algorithms
    c.algorithm_of_oid.result c.algorithm_of_oid.ensures in
    let plain = c.has_plain_parameters.ensures in (
      λ h. (any.0 (sym same ∙ sym c.is_some.ensures ∙ c.if-is_some.true), plain.0 h),
      λ w. plain.1 w.1,
    )

pub returns-else-is_some : goal.returns-else-is_some
returns-else-is_some c =
    let content = c.algorithm.result.now in
    let file = policy_view c.args.policy.now in
    let any = algorithm_known c.oids_have_one_content_and_text.ensures.one_content file content
    c.args.request.now.imprint.algorithm c.algorithm.ensures in
    let same = look_up_tells (λ a. algorithm_view a.now) (λ a. bytes_eq (oid_content a.oid) content) file.algorithms
    c.algorithm_of_oid.result c.algorithm_of_oid.ensures in (
      λ h. let off = c.if-is_some.false in cc (sym h ∙ off),
      λ w. c.is_some.ensures ∙ same ∙ any.1 w.0,
    )
