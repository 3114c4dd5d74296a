use Rattle.std.proofs.Common.{◌<◌, arith}
use Rattle.tsp.specs.{Rejection.number_of, Rules.HoldsOfOctets}
use Rattle.tsp.specs.auxiliary.RulesOfOctets.{to_octets, first_of_octets}
use Rattle.tsp.specs.declared.rule.Rule.{Rule, TheVariants.Spelling}
use Rattle.decide.specs.Rules.{HoldsOf, Holds}
use Rattle.decide.proofs.laws.verdicts_are_of_octets.Goals as goal

none_before : (P : Rule → Type 0) (earlier : Rule) → number_of earlier < 1 → P earlier
none_before P Spelling h = absurd (omega arith)
none_before P rule h = absurd (omega arith)

pub returns : goal.returns
returns c =
    let one = c.requests_have_one_reading.ensures.one in
    record {
      judged = λ file account octets r rule spelled short first.
          first_of_octets (HoldsOf file account) octets r spelled (λ s h. one octets r s spelled h) short tt rule first;
      passed = λ file account octets r spelled short holds rule.
          to_octets (HoldsOf file account) octets r spelled (λ s h. one octets r s spelled h) short rule (holds rule);
      denied = λ file account octets r facts rule spelled short first.
          first_of_octets (λ s. Holds file account s facts) octets r spelled (λ s h. one octets r s spelled h) short tt
          rule first;
      allowed = λ file account octets r facts plan spelled short verdict rule.
          to_octets (λ s. Holds file account s facts) octets r spelled (λ s h. one octets r s spelled h) short rule
          (verdict.0 rule);
      unspelled = λ file account octets facts fails. (
        record { fails = fails; before = none_before (HoldsOfOctets (HoldsOf file account) octets) },
        record { fails = fails; before = none_before (HoldsOfOctets (λ s. Holds file account s facts) octets) },
      );
    }
