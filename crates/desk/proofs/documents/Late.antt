-- The rules that may refuse a deposit: 3 to 11.
use Rattle.std.proofs.Common.{Option, arith}
use Rattle.policy.specs.Record.{AccountValue, PolicyValue}
use Rattle.tsp.specs.declared.rule.Rule.TheVariants.{Spelling, Version, Account, Algorithm, HashLength, Policy}
use Rattle.tsp.specs.declared.rule.Rule.TheVariants.{PolicyAlgorithm, Extensions, Certificate, Clock, Quota, System}
use Rattle.tsp.specs.{Request.RequestValue, Rules.HasVersionOne, Rules.IsFirstFailing, declared.rule.Rule.Rule}
use Rattle.decide.specs.{Rules.Holds, declared.facts.Facts.Facts}
use Rattle.desk.specs.Fault.{IsLate}

-- the same with the facts
pub late_with : (file : PolicyValue) (account : Option AccountValue) (r : RequestValue) (facts : Facts) (rule : Rule)
    → HasVersionOne r → IsFirstFailing (Holds file account r facts) rule → IsLate rule
late_with file account r facts Spelling one first = absurd (first.fails tt)
late_with file account r facts Version one first = absurd (first.fails one)
late_with file account r facts Account one first = (omega arith, omega arith)
late_with file account r facts Algorithm one first = (omega arith, omega arith)
late_with file account r facts HashLength one first = (omega arith, omega arith)
late_with file account r facts Policy one first = (omega arith, omega arith)
late_with file account r facts PolicyAlgorithm one first = (omega arith, omega arith)
late_with file account r facts Extensions one first = (omega arith, omega arith)
late_with file account r facts Certificate one first = (omega arith, omega arith)
late_with file account r facts Clock one first = (omega arith, omega arith)
late_with file account r facts Quota one first = (omega arith, omega arith)
late_with file account r facts System one first = absurd (first.fails tt)
