use Rattle.std.proofs.Common.{◌<◌, arith}
use Rattle.tsp.specs.{Rejection.number_of, Rules.HoldsOfOctets}
use Rattle.tsp.specs.auxiliary.RulesOfOctets.{to_octets, first_of_octets}
use Rattle.tsp.specs.declared.rule.Rule.{Rule, TheVariants.Spelling}
use Rattle.tsp.proofs.judgement.octets_fail_as_their_request.Goals as goal

none_before : (P : Rule → Type 0) (earlier : Rule) → number_of earlier < 1 → P earlier
none_before P Spelling h = absurd (omega arith)
none_before P rule h = absurd (omega arith)

pub returns : goal.returns
returns g c =
    let one = c.requests_have_one_reading.ensures.one in
    record {
      first = λ judge octets r spelled short spelling rule first.
          first_of_octets (g.J.JudgesRequests.holds_of judge) octets r spelled (λ s h. one octets r s spelled h)
          short spelling rule first;
      none = λ judge octets r spelled short holds rule.
          to_octets (g.J.JudgesRequests.holds_of judge) octets r spelled (λ s h. one octets r s spelled h)
          short rule (holds rule);
      unspelled = λ judge octets fails.
          record { fails = fails; before = none_before (HoldsOfOctets (g.J.JudgesRequests.holds_of judge) octets) };
    }
