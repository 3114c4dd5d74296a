use Rattle.std.{proofs.Common.◌≡◌, proofs.Common.rules, proofs.Common.to_z, proofs.Common.of_z, specs.Int.w128}
use Rattle.der.proofs.NumberContents.{content_not_negative, content_negative, IsNumberContent-from}
use Rattle.der.proofs.number.whole_number_content.Goals as goal

pub returns-in_ok-octets-clause-computed : goal.returns-in_ok-octets-clause-computed
returns-in_ok-octets-clause-computed c =
    let same : to_z w128 (of_z w128 c.args.number) ≡ c.args.number = search rules in
    content_negative c.args.number _ _ _ _ _ _ same c.if-number-lt0.true c.unsigned_abs.ensures.value
    c.in_ok-octets.ensures.content c.deref_mut.ensures.value c.invert.ensures c.in_ok-octets.octets.ok.0

pub returns-in_ok-octets-clause-content : goal.returns-in_ok-octets-clause-content
returns-in_ok-octets-clause-content c = IsNumberContent-from c.args.number _ (returns-in_ok-octets-clause-computed c)

pub returns-in_ok-magnitude_octets-clause-computed : goal.returns-in_ok-magnitude_octets-clause-computed
returns-in_ok-magnitude_octets-clause-computed c =
    let same : to_z w128 (of_z w128 c.args.number) ≡ c.args.number = search rules in
    content_not_negative c.args.number _ _ _ same c.if-number-lt0.false c.unsigned_abs-else-number-lt0.ensures.value
    c.in_ok-magnitude_octets.ensures.content

pub returns-in_ok-magnitude_octets-clause-content : goal.returns-in_ok-magnitude_octets-clause-content
returns-in_ok-magnitude_octets-clause-content c =
    IsNumberContent-from c.args.number _ (returns-in_ok-magnitude_octets-clause-computed c)
