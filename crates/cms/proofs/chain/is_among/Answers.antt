use Rattle.std.proofs.Common.{◌≡◌, rules, tests}
use Rattle.std.proofs.lemmas.Iterator.{YieldsList-from_slice, cases_from_any}
use Rattle.cms.proofs.Chains.{tells_among}
use Rattle.cms.proofs.chain.is_among.Goals as goal

pub returns : goal.returns
returns c =
    let octets = c.args.octets.now in
    tells_among (λ o. o.now) c.args.others.now octets c.any.result
    (cases_from_any _ _ c.any.result (λ o. o.now ≡ octets) (λ o. o.now ≡ octets → ⊥)
    c.any.ensures.ran (YieldsList-from_slice c.args.others.now cc) (λ x q k. search (rules, tests))
    (λ x q k. search (rules, tests)))
