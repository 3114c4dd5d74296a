-- The meaning of a policy file: the record, or the first fault.
use Rattle.std.specs.Prelude.{ℕ, Bool, true, false, List, [], ◌∷◌, map, codes, Option, Some, None, Result, Ok, Err}
use Rattle.std.specs.{List.find, Str.bytes_eq}
use Rattle.der.specs.ObjectIdentifier.{oid_content}
use Rattle.toml.specs.{Data.Data, Data.Members, Data.get_member, Data.as_table, Parse.parse_document}
use Rattle.policy.specs.{HashAlgorithms.HashAlgorithmValue, HashAlgorithms.hash_algorithms, Record.PolicyValue}
use Rattle.policy.specs.Kinds.{◌>>=◌, test, given, wanted, optional, is_among, only, truth_in, number_in, new_name_in}
use Rattle.policy.specs.Kinds.{new_oid_in, new_hash_in, some_name_in, names_in, array_in}
use Rattle.policy.specs.Record.{AlgorithmValue, ExtensionValue, TsaPolicyValue, AccountValue, GroupValue, CounterValue}
use Rattle.policy.specs.declared.fault.PolicyFault.{PolicyFault, TheVariants.Toml, TheVariants.UnknownName}
use Rattle.policy.specs.declared.field.Field.TheVariants as field

-- least and greatest length: those of a hash algorithm whose hashes have one length, and else 16 to 64 octets
abbrev pub one_length_or_any : Option HashAlgorithmValue → ℕ × ℕ
one_length_or_any None = (16, 64)
one_length_or_any (Some algorithm) = (algorithm.length, algorithm.length)

-- the least and the greatest length that an algorithm's hashes may have, by the contents octets of its object
-- identifier
abbrev pub lengths_of : List ℕ → ℕ × ℕ
lengths_of content = one_length_or_any (find (λ a. bytes_eq (oid_content a.oid) content) hash_algorithms)

unfoldable pub counter_of : Members → Result CounterValue PolicyFault
counter_of ms = do
  known ← only (codes "accuracy_us" ∷ codes "fraction_digits" ∷ codes "ordering" ∷ codes "drift_ppb"
      ∷ codes "max_age_us" ∷ codes "anonymous" ∷ codes "tsa_name" ∷ []) ms
  accuracy_us ← wanted field.CounterAccuracyUs (number_in field.CounterAccuracyUs 1 1000000)
      (get_member (codes "accuracy_us") ms)
  fraction_digits ← wanted field.CounterFractionDigits (number_in field.CounterFractionDigits 0 6)
      (get_member (codes "fraction_digits") ms)
  ordering ← optional false (truth_in field.CounterOrdering) (get_member (codes "ordering") ms)
  drift_ppb ← wanted field.CounterDriftPpb (number_in field.CounterDriftPpb 0 1000000)
      (get_member (codes "drift_ppb") ms)
  max_age_us ← wanted field.CounterMaxAgeUs (number_in field.CounterMaxAgeUs 1 31536000000000)
      (get_member (codes "max_age_us") ms)
  anonymous ← optional None (some_name_in field.CounterAnonymous) (get_member (codes "anonymous") ms)
  tsa_name ← optional false (truth_in field.CounterTsaName) (get_member (codes "tsa_name") ms)
  Ok (record {
    accuracy_us = accuracy_us;
    fraction_digits = fraction_digits;
    ordering = ordering;
    drift_ppb = drift_ppb;
    max_age_us = max_age_us;
    anonymous = anonymous;
    tsa_name = tsa_name;
  })

unfoldable pub counter_in : Data → Result CounterValue PolicyFault
counter_in d = given field.Counter (as_table d) >>= counter_of

unfoldable pub algorithm_of : List (List ℕ) → List (List ℕ) → Members → Result AlgorithmValue PolicyFault
algorithm_of names contents ms = do
  known ← only (codes "name" ∷ codes "oid" ∷ codes "length" ∷ []) ms
  name ← new_name_in field.AlgorithmName names ms
  oid ← new_oid_in field.AlgorithmOid contents ms
  length ← wanted field.AlgorithmLength (number_in field.AlgorithmLength
      (lengths_of (oid_content oid)).0 (lengths_of (oid_content oid)).1) (get_member (codes "length") ms)
  Ok (record { name = name; oid = oid; length = length })

abbrev pub algorithm_in : List AlgorithmValue → Members → Result AlgorithmValue PolicyFault
algorithm_in earlier = algorithm_of (map (λ e. e.name) earlier) (map (λ e. oid_content e.oid) earlier)

unfoldable pub extension_of : List (List ℕ) → List (List ℕ) → Members → Result ExtensionValue PolicyFault
extension_of names contents ms = do
  known ← only (codes "name" ∷ codes "oid" ∷ codes "max_length" ∷ []) ms
  name ← new_name_in field.ExtensionName names ms
  oid ← new_oid_in field.ExtensionOid contents ms
  max_length ← wanted field.ExtensionMaxLength (number_in field.ExtensionMaxLength 0 4096)
      (get_member (codes "max_length") ms)
  Ok (record { name = name; oid = oid; max_length = max_length })

abbrev pub extension_in : List ExtensionValue → Members → Result ExtensionValue PolicyFault
extension_in earlier = extension_of (map (λ e. e.name) earlier) (map (λ e. oid_content e.oid) earlier)

-- with the names of the algorithms and of the extensions that there are
unfoldable pub tsa_policy_of : List (List ℕ) → List (List ℕ) → List (List ℕ) → List (List ℕ) → Members
    → Result TsaPolicyValue PolicyFault
tsa_policy_of algorithm_names extension_names names contents ms = do
  known ← only (codes "name" ∷ codes "oid" ∷ codes "algorithms" ∷ codes "extensions" ∷ codes "certificate" ∷ []) ms
  name ← new_name_in field.PolicyName names ms
  oid ← new_oid_in field.PolicyOid contents ms
  algorithms ← wanted field.PolicyAlgorithms (names_in field.PolicyAlgorithms 1 algorithm_names)
      (get_member (codes "algorithms") ms)
  extensions ← optional [] (names_in field.PolicyExtensions 0 extension_names) (get_member (codes "extensions") ms)
  certificate ← optional true (truth_in field.PolicyCertificate) (get_member (codes "certificate") ms)
  Ok (record { name = name; oid = oid; algorithms = algorithms; extensions = extensions; certificate = certificate })

abbrev pub tsa_policy_in : List (List ℕ) → List (List ℕ) → List TsaPolicyValue → Members
    → Result TsaPolicyValue PolicyFault
tsa_policy_in algorithm_names extension_names earlier =
    tsa_policy_of algorithm_names extension_names (map (λ e. e.name) earlier) (map (λ e. oid_content e.oid) earlier)

-- with the names of the policies that there are
unfoldable pub account_of : List (List ℕ) → List (List ℕ) → List (Option (List ℕ)) → Members
    → Result AccountValue PolicyFault
account_of policy_names names hashes ms = do
  known ← only (codes "name" ∷ codes "key_sha256" ∷ codes "active" ∷ codes "auditor"
      ∷ codes "operator" ∷ codes "policies" ∷ codes "daily_quota" ∷ []) ms
  name ← new_name_in field.AccountName names ms
  key_sha256 ← optional None (new_hash_in field.AccountKeySha256 hashes) (get_member (codes "key_sha256") ms)
  active ← optional true (truth_in field.AccountActive) (get_member (codes "active") ms)
  auditor ← optional false (truth_in field.AccountAuditor) (get_member (codes "auditor") ms)
  operator ← optional false (truth_in field.AccountOperator) (get_member (codes "operator") ms)
  policies ← wanted field.AccountPolicies (names_in field.AccountPolicies 1 policy_names)
      (get_member (codes "policies") ms)
  daily_quota ← wanted field.AccountDailyQuota (number_in field.AccountDailyQuota 0 1000000000)
      (get_member (codes "daily_quota") ms)
  Ok (record {
    name = name;
    key_sha256 = key_sha256;
    active = active;
    auditor = auditor;
    operator = operator;
    policies = policies;
    daily_quota = daily_quota;
  })

abbrev pub account_in : List (List ℕ) → List AccountValue → Members → Result AccountValue PolicyFault
account_in policy_names earlier = account_of policy_names (map (λ e. e.name) earlier) (map (λ e. e.key_sha256) earlier)

-- with the names of the accounts that there are
unfoldable pub group_of : List (List ℕ) → List (List ℕ) → Members → Result GroupValue PolicyFault
group_of account_names names ms = do
  known ← only (codes "name" ∷ codes "members" ∷ []) ms
  name ← new_name_in field.GroupName names ms
  members ← wanted field.GroupMembers (names_in field.GroupMembers 1 account_names) (get_member (codes "members") ms)
  Ok (record { name = name; members = members })

abbrev pub group_in : List (List ℕ) → List GroupValue → Members → Result GroupValue PolicyFault
group_in account_names earlier = group_of account_names (map (λ e. e.name) earlier)

-- none, or one of the names
abbrev pub is_none_or_among : List (List ℕ) → Option (List ℕ) → Bool
is_none_or_among names None = true
is_none_or_among names (Some name) = is_among names name

-- a table's meaning
unfoldable pub policy_in : Members → Result PolicyValue PolicyFault
policy_in ms = do
  known ← only (codes "counter" ∷ codes "algorithm" ∷ codes "extension" ∷ codes "policy" ∷ codes "account"
      ∷ codes "group" ∷ []) ms
  counter ← wanted field.Counter counter_in (get_member (codes "counter") ms)
  algorithms ← array_in field.Algorithm 8 algorithm_in (get_member (codes "algorithm") ms)
  extensions ← array_in field.Extension 32 extension_in (get_member (codes "extension") ms)
  policies ← array_in field.Policy 16 (tsa_policy_in (map (λ e. e.name) algorithms) (map (λ e. e.name) extensions))
      (get_member (codes "policy") ms)
  accounts ← array_in field.Account 64 (account_in (map (λ e. e.name) policies)) (get_member (codes "account") ms)
  groups ← array_in field.Group 16 (group_in (map (λ e. e.name) accounts)) (get_member (codes "group") ms)
  test (is_none_or_among (map (λ e. e.name) accounts) counter.anonymous) (UnknownName field.CounterAnonymous)
      (record {
        counter = counter;
        algorithms = algorithms;
        extensions = extensions;
        policies = policies;
        accounts = accounts;
        groups = groups;
      })

-- a text's meaning
abbrev pub document_in : Option Members → Result PolicyValue PolicyFault
document_in None = Err Toml
document_in (Some ms) = policy_in ms

unfoldable pub meaning_of : List ℕ → Result PolicyValue PolicyFault
meaning_of text = document_in (parse_document text)
