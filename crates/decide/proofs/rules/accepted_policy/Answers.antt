use Rattle.std.proofs.Common.{Some, option_map, refl, sym, ap, ◌∙◌}
use Rattle.policy.specs.View.{tsa_policy_view, policy_view, account_view}
use Rattle.tsp.specs.View.{request_view}
use Rattle.decide.specs.Rules.{policy_asked}
use Rattle.decide.proofs.Sentences.{none_asked, found_accepted, none_accepted}
use Rattle.decide.proofs.rules.accepted_policy.Goals as goal

pub returns-in_err-tsa_policy : goal.returns-in_err-tsa_policy
returns-in_err-tsa_policy c =
    let account = account_view c.args.account.now in
    let asked = policy_asked (policy_view c.args.policy.now) (Some account) (request_view c.args.request.now) in
    let e = sym c.policy_asked.ensures ∙ ap (option_map (λ content. content.now)) c.in_ok-content.was in
    let none = sym c.policy_of_oid.ensures ∙ ap (option_map (λ p. tsa_policy_view p.now)) c.in_err-tsa_policy.was in
    rw c.from_residual-in_err-tsa_policy.ensures
    (none_asked c.oids_have_one_content_and_text.ensures.one_content c.args.policy.now
    (Some account) asked c.in_ok-content.content.now e none)

pub returns-then-is_accepted : goal.returns-then-is_accepted
returns-then-is_accepted c =
    let account = account_view c.args.account.now in
    let asked = policy_asked (policy_view c.args.policy.now) (Some account) (request_view c.args.request.now) in
    let e = sym c.policy_asked.ensures ∙ ap (option_map (λ content. content.now)) c.in_ok-content.was in
    let found = sym c.policy_of_oid.ensures ∙ ap (option_map (λ p. tsa_policy_view p.now)) c.in_ok-tsa_policy.was in
    let accepted = rw (c.deref.ensures.value, c.deref-2.ensures.value) at c.is_accepted.ensures in
    found_accepted c.oids_have_one_content_and_text.ensures.one_content c.args.policy.now account
    c.args.account.now.policies.items refl asked
    c.in_ok-content.content.now e (tsa_policy_view c.in_ok-tsa_policy.tsa_policy.now) found
    (sym accepted ∙ c.if-is_accepted.true)

pub returns-else-is_accepted : goal.returns-else-is_accepted
returns-else-is_accepted c =
    let account = account_view c.args.account.now in
    let asked = policy_asked (policy_view c.args.policy.now) (Some account) (request_view c.args.request.now) in
    let e = sym c.policy_asked.ensures ∙ ap (option_map (λ content. content.now)) c.in_ok-content.was in
    let accepted = rw (c.deref.ensures.value, c.deref-2.ensures.value) at c.is_accepted.ensures in
    none_accepted c.oids_have_one_content_and_text.ensures.one_content c.args.policy.now account
    c.args.account.now.policies.items refl asked
    c.in_ok-content.content.now e (sym accepted ∙ c.if-is_accepted.false)
