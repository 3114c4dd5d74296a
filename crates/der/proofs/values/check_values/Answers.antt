use Rattle.der.proofs.{Octets.AreOctets-at, ValuesRead.says_whether}
use Rattle.der.proofs.values.check_values.Goals as goal

pub returns-clause-found : goal.returns-clause-found
returns-clause-found c =
    says_whether c.args.levels c.args.octets.now c.skip_values.result
    (AreOctets-at c.args.octets.now (λ i. (c.type_inv.octets i).fits)) c.skip_values.ensures
