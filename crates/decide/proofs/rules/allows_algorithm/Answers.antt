use Rattle.std.{proofs.Common.◌≡◌, proofs.lemmas.Bool.Decides.Decides-at, specs.Prelude.Contains, specs.Prelude.map}
use Rattle.policy.specs.{Record.TsaPolicyValue, View.algorithm_view}
use Rattle.decide.{specs.auxiliary.Tests.lists_algorithm, proofs.Sentences.asked_any, proofs.Sentences.decides_lists}
use Rattle.policy.specs.Record as record_of
use Rattle.decide.proofs.rules.allows_algorithm.Goals as goal

pub returns : goal.returns
returns c =
    let one = c.oids_have_one_content_and_text.ensures.one_content in
    let policy = c.args.policy.now in
    let identifier = c.args.request.now.imprint.algorithm in
    let algorithms = policy.algorithms.items in
    let any =
    asked_any one policy.policies.items c.content.result.now c.args.oid.now c.content.ensures.encoded
    (lists_algorithm algorithms c.algorithm.result.now)
    (λ (p : TsaPolicyValue). (a : record_of.AlgorithmValue) × Contains (map algorithm_view algorithms) a
    × (a.oid ≡ identifier) × Contains p.algorithms a.name)
    (decides_lists one algorithms c.algorithm.result.now identifier c.algorithm.ensures) in
    Decides-at c.is_listed.result _ c.is_listed.ensures any
