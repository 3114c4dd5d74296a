use Rattle.std.proofs.{Common.length, lemmas.Bool.Decides.Decides-at}
use Rattle.decide.proofs.Sentences.{algorithm_length}
use Rattle.decide.proofs.rules.has_algorithm_length.Goals as goal

pub returns : goal.returns
returns c =
    let all =
    algorithm_length c.oids_have_one_content_and_text.ensures.one_content c.args.policy.now c.algorithm.result.now
    c.args.request.now.imprint.algorithm
    (length c.args.request.now.imprint.hash.now) c.algorithm.ensures in
    Decides-at c.have_length.result _ (rw (c.deref.ensures.value, c.hash.ensures) at c.have_length.ensures) all
