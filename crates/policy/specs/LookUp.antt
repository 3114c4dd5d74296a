-- What look-ups find in the record that a policy file means. Object identifiers are asked for by their contents octets
-- (X.690 8.19), and keys by their SHA-256.
use Rattle.std.specs.Prelude.{ℕ, Bool, List, [], ◌∷◌, map, Option, None, option_and_then}
use Rattle.std.specs.{List.filter, List.find, Str.bytes_eq}
use Rattle.der.specs.ObjectIdentifier.{oid_content}
use Rattle.sha2.specs.Sha256.{sha256}
use Rattle.policy.specs.Kinds.{is_among, is_hash}
use Rattle.policy.specs.Record.{AlgorithmValue, ExtensionValue, TsaPolicyValue, AccountValue, GroupValue, PolicyValue}

abbrev pub account_named : PolicyValue → List ℕ → Option AccountValue
account_named file name = find (λ a. bytes_eq a.name name) file.accounts

abbrev pub account_of_key : PolicyValue → List ℕ → Option AccountValue
account_of_key file key = find (λ a. is_hash (sha256 key) a.key_sha256) file.accounts

-- the account that the file names for those that show no key
abbrev pub anonymous_account : PolicyValue → Option AccountValue
anonymous_account file = option_and_then (account_named file) file.counter.anonymous

abbrev pub policy_named : PolicyValue → List ℕ → Option TsaPolicyValue
policy_named file name = find (λ p. bytes_eq p.name name) file.policies

abbrev pub policy_of_oid : PolicyValue → List ℕ → Option TsaPolicyValue
policy_of_oid file content = find (λ p. bytes_eq (oid_content p.oid) content) file.policies

-- the policy of the first of the names
abbrev pub policy_of_first : PolicyValue → List (List ℕ) → Option TsaPolicyValue
policy_of_first file [] = None
policy_of_first file (name ∷ names) = policy_named file name

-- an account's default policy is its first
abbrev pub default_policy : PolicyValue → AccountValue → Option TsaPolicyValue
default_policy file account = policy_of_first file account.policies

abbrev pub algorithm_of_oid : PolicyValue → List ℕ → Option AlgorithmValue
algorithm_of_oid file content = find (λ a. bytes_eq (oid_content a.oid) content) file.algorithms

abbrev pub extension_of_oid : PolicyValue → List ℕ → Option ExtensionValue
extension_of_oid file content = find (λ e. bytes_eq (oid_content e.oid) content) file.extensions

abbrev pub group_named : PolicyValue → List ℕ → Option GroupValue
group_named file name = find (λ g. bytes_eq g.name name) file.groups

-- an account is a member of a group
abbrev pub has_member : GroupValue → List ℕ → Bool
has_member group account = is_among group.members account

-- the names of the groups that an account is a member of, in the file's order
abbrev pub groups_of : PolicyValue → List ℕ → List (List ℕ)
groups_of file account = map (λ g. g.name) (filter (λ g. has_member g account) file.groups)
