-- Rules that hold of the one request that octets spell, and of the octets.
use Rattle.std.proofs.Common.{◌≡◌, ℕ, ◌<◌, ◌≤◌, List, length, inl, inr, subst, arith}
use Rattle.der.specs.Node.{encoding}
use Rattle.tsp.specs.Rejection.{number_of, rejection}
use Rattle.tsp.specs.Rules.{IsSpelled, HasVersionOne, HasKnownAlgorithm, HasAlgorithmLength, IsFirstFailing}
use Rattle.tsp.specs.auxiliary.RulesOfOctets.{to_octets, first_of_octets}
use Rattle.tsp.specs.declared.rule.Rule.TheVariants.{Spelling, Version, Account, Algorithm, HashLength}
use Rattle.tsp.specs.{Request.RequestValue, Request.Spells, Tst.tst_info, declared.rule.Rule.Rule}
use Rattle.console.specs.Tst.{Holds, HoldsOf, IsReply, tst_of}
use Rattle.console.specs.{Settings.SettingsValue, Known.five_algorithms}

-- the octets spell the request and no other, and are few enough
pub record IsOnlyRequest (query : List ℕ) (r : RequestValue) : Type 0 where
  pub spelled : Spells query r
  pub only : (other : RequestValue) → Spells query other → r ≡ other
  pub short : length query ≤ 65536

pub only_request : (query : List ℕ) (r : RequestValue) → Spells query r → length query ≤ 65536
    → ((octets : List ℕ) (first second : RequestValue) → Spells octets first → Spells octets second → first ≡ second)
    → IsOnlyRequest query r
only_request query r spelled short one = record {
  spelled = spelled;
  only = λ other s. one query r other spelled s;
  short = short;
}

pub lifted : (query : List ℕ) (r : RequestValue) → IsOnlyRequest query r → (rule : Rule) → HoldsOf r rule
    → Holds query rule
lifted query r h rule k = to_octets HoldsOf query r h.spelled h.only h.short rule k

pub first_lifted : (query : List ℕ) (r : RequestValue) → IsOnlyRequest query r → (rule : Rule)
    → IsFirstFailing (HoldsOf r) rule → IsFirstFailing (Holds query) rule
first_lifted query r h rule first = first_of_octets HoldsOf query r h.spelled h.only h.short tt rule first

none_lower : (P : Rule → Type 0) (earlier : Rule) → number_of earlier < 1 → P earlier
none_lower P Spelling h = absurd (omega arith)
none_lower P rule h = absurd (omega arith)

pub spelling_fails : (query : List ℕ) → (IsSpelled query → ⊥) → IsFirstFailing (Holds query) Spelling
spelling_fails query fails = record { fails = fails; before = λ earlier lower. none_lower (Holds query) earlier lower }

before_algorithm : (r : RequestValue) → HasVersionOne r → (earlier : Rule) → number_of earlier < 4 → HoldsOf r earlier
before_algorithm r version Spelling h = tt
before_algorithm r version Version h = version
before_algorithm r version Account h = tt
before_algorithm r version rule h = absurd (omega arith)

pub algorithm_fails : (r : RequestValue) → HasVersionOne r → (HasKnownAlgorithm five_algorithms r → ⊥)
    → IsFirstFailing (HoldsOf r) Algorithm
algorithm_fails r version fails = record { fails = fails; before = before_algorithm r version }

pub all_hold : (r : RequestValue) → HasVersionOne r → HasKnownAlgorithm five_algorithms r
    → HasAlgorithmLength five_algorithms r
    → (rule : Rule) → HoldsOf r rule
all_hold r version algorithm hash Version = version
all_hold r version algorithm hash Algorithm = algorithm
all_hold r version algorithm hash HashLength = hash
all_hold r version algorithm hash rule = tt

pub granted : (settings : SettingsValue) (query : List ℕ) (r : RequestValue) (octets : List ℕ) → IsOnlyRequest query r
    → ((rule : Rule) → HoldsOf r rule) → octets ≡ encoding (tst_info (tst_of settings r))
    → IsReply settings query octets
granted settings query r octets h holds text =
    inl record {
      holds = λ rule. lifted query r h rule (holds rule);
      info = λ other s. let P : RequestValue → Type 0 = λ x. octets ≡ encoding (tst_info (tst_of settings x)) in
          subst P (h.only other s) text;
    }

pub rejected : (settings : SettingsValue) (query : List ℕ) (rule : Rule) (octets : List ℕ)
    → IsFirstFailing (Holds query) rule
    → octets ≡ encoding (rejection rule) → IsReply settings query octets
rejected settings query rule octets first text = inr record { rule = rule; first = first; text = text }
