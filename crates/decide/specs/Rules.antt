-- The rules of a written policy (in the manner of RFC 3628), each a sentence that stands by itself, and the first that
-- fails.
use Rattle.std.specs.Prelude.{◌≡◌, ℕ, ◌<◌, ◌≤◌, ◌⊎◌, true, false, List, [], ◌∷◌, map, length, Option, Some, None}
use Rattle.std.specs.{Prelude.option_map, Prelude.Contains, List.AllByRecursion}
use Rattle.policy.specs.Record.{AlgorithmValue, ExtensionValue, TsaPolicyValue, AccountValue, PolicyValue}
use Rattle.tsp.specs.{Request.RequestValue, declared.rule.Rule.Rule}
use Rattle.tsp.specs.Rules.{HasVersionOne, HasKnownAlgorithm, HasAlgorithmLength}
use Rattle.tsp.specs.declared.rule.Rule.TheVariants.{Spelling, Version, Account, Algorithm, HashLength, Policy}
use Rattle.tsp.specs.declared.rule.Rule.TheVariants.{PolicyAlgorithm, Extensions, Certificate, Clock, Quota, System}
use Rattle.decide.specs.{Clock.IsGood, declared.facts.Facts.Facts}
use Rattle.policy.specs.LookUp as look_up
use Rattle.tsp.specs.Request as tsp
use Rattle.tsp.specs.Rules as rules

-- the account is one of the policy file's, and active
abbrev pub IsKnown : PolicyValue → Option AccountValue → Type 0
IsKnown file account = (a : AccountValue) × (account ≡ Some a) × Contains file.accounts a × (a.active ≡ true)

-- the algorithms of the file
abbrev pub algorithms_of : PolicyValue → List rules.AlgorithmValue
algorithms_of file = map (λ a. record { identifier = a.oid; hash_length = a.length }) file.algorithms

-- the object identifier of the account's default policy
abbrev pub default_policy : PolicyValue → Option AccountValue → Option (List ℕ)
default_policy file None = None
default_policy file (Some a) = option_map (λ p. p.oid) (look_up.default_policy file a)

-- the object identifier that the request states, and else that of the account's default policy
abbrev pub or_default : Option (List ℕ) → Option (List ℕ) → Option (List ℕ)
or_default (Some oid) default = Some oid
or_default None default = default

abbrev pub policy_asked : PolicyValue → Option AccountValue → RequestValue → Option (List ℕ)
policy_asked file account r = or_default r.policy (default_policy file account)

-- a policy of the file has the object identifier
abbrev pub IsAsked : PolicyValue → Option (List ℕ) → TsaPolicyValue → Type 0
IsAsked file asked p = Contains file.policies p × (asked ≡ Some p.oid)

-- the policy is one of the account's
abbrev pub IsAccepted : PolicyValue → Option AccountValue → Option (List ℕ) → Type 0
IsAccepted file account asked =
    (a : AccountValue) × (account ≡ Some a) × ((p : TsaPolicyValue) × IsAsked file asked p × Contains a.policies p.name)

-- the policy allows the algorithm
abbrev pub AllowsAlgorithm : PolicyValue → Option (List ℕ) → RequestValue → Type 0
AllowsAlgorithm file asked r =
    (p : TsaPolicyValue) × IsAsked file asked p
    × ((a : AlgorithmValue) × Contains file.algorithms a × (a.oid ≡ r.imprint.algorithm) × Contains p.algorithms a.name)

-- the policy knows the extension, and the value is within its greatest length
abbrev pub KnowsExtension : PolicyValue → TsaPolicyValue → tsp.ExtensionValue → Type 0
KnowsExtension file p e =
    (x : ExtensionValue) × Contains file.extensions x × (x.oid ≡ e.identifier)
    × Contains p.extensions x.name × (length e.value ≤ x.max_length)

-- none stands twice
abbrev pub AreDistinct : List (List ℕ) → Type 0
AreDistinct [] = Unit {0}
AreDistinct (x ∷ xs) = (Contains xs x → ⊥) × AreDistinct xs

-- there are no extensions, or the policy knows each, and none stands twice
abbrev pub AllowsExtensions : PolicyValue → Option (List ℕ) → RequestValue → Type 0
AllowsExtensions file asked r =
    (r.extensions ≡ [])
    ⊎ (((p : TsaPolicyValue) × IsAsked file asked p × AllByRecursion (KnowsExtension file p) r.extensions)
    × AreDistinct (map (λ e. e.identifier) r.extensions))

-- where certReq is true, the policy gives the certificate out
abbrev pub GivesCertificate : PolicyValue → Option (List ℕ) → RequestValue → Type 0
GivesCertificate file asked r =
    (r.cert_req ≡ false) ⊎ ((p : TsaPolicyValue) × IsAsked file asked p × (p.certificate ≡ true))

-- the account has had fewer than its quota of the day
abbrev pub IsWithinQuota : Option AccountValue → ℕ → Type 0
IsWithinQuota None count = Unit {0}
IsWithinQuota (Some a) count = count < a.daily_quota

-- Which rules hold of a request under a policy file. Whether the octets are a request, and what the clock, the day's
-- count and the store say, isn't judged: these rules hold here.
abbrev pub HoldsOf : PolicyValue → Option AccountValue → RequestValue → Rule → Type 0
HoldsOf file account r Spelling = Unit {0}
HoldsOf file account r Version = HasVersionOne r
HoldsOf file account r Account = IsKnown file account
HoldsOf file account r Algorithm = HasKnownAlgorithm (algorithms_of file) r
HoldsOf file account r HashLength = HasAlgorithmLength (algorithms_of file) r
HoldsOf file account r Policy = IsAccepted file account (policy_asked file account r)
HoldsOf file account r PolicyAlgorithm = AllowsAlgorithm file (policy_asked file account r) r
HoldsOf file account r Extensions = AllowsExtensions file (policy_asked file account r) r
HoldsOf file account r Certificate = GivesCertificate file (policy_asked file account r) r
HoldsOf file account r Clock = Unit {0}
HoldsOf file account r Quota = Unit {0}
HoldsOf file account r System = Unit {0}

-- Which rules hold of a request, by the facts: those of the clock and of the day's count too.
abbrev pub Holds : PolicyValue → Option AccountValue → RequestValue → Facts → Rule → Type 0
Holds file account r facts Clock = IsGood file.counter facts.clock
Holds file account r facts Quota = IsWithinQuota account facts.count
Holds file account r facts rule = HoldsOf file account r rule
