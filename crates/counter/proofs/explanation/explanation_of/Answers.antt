use Rattle.policy.specs.View.{policy_view}
use Rattle.counter.proofs.explanation.explanation_of.Goals as goal

pub returns-in-Some-clause-explained : goal.returns-in-Some-clause-explained
returns-in-Some-clause-explained g c =
    let read = c.in_ok-policy.ensures.meant in
    record {
      rules = read.0;
      rules_read = read.1;
      policy = policy_view c.in_ok-policy.policy;
      meant = read.2;
      explained = rw c.in-Some.is at c.in_ok-text.ensures.explained;
    }

pub returns-clause-none : goal.returns-clause-none
returns-clause-none g c = λ _.
    let read = c.in_ok-policy.ensures.meant in
    record {
      rules = read.0;
      rules_read = read.1;
      policy = policy_view c.in_ok-policy.policy;
      meant = read.2;
      explained = rw c.in-None.is at c.in_ok-text.ensures.explained;
    }
