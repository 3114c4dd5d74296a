-- The definitions, computed on tables.
use Rattle.std.proofs.Common.{◌≡◌, ℕ, pos, true, false, codes, List, [], ◌∷◌, refl, Some, None, Ok, Err}
use Rattle.der.specs.{ObjectIdentifier.decimal, ObjectIdentifier.subidentifier_octets, OidText.oid_of_text}
use Rattle.toml.specs.Data.{Data, Items, no_items, item, Members, no_members, member, string, integer, array, table}
use Rattle.policy.specs.{HashAlgorithms.hash_algorithms, Record.PolicyValue, Meaning.group_of, Meaning.policy_in}
use Rattle.policy.specs.Kinds.{number_in, is_name, name_in, some_name_in, oid_in, new_name_in, new_oid_in, listed}
use Rattle.policy.specs.Kinds.{values_in, names_in, tables_in, entry_in, array_in}
use Rattle.policy.specs.Meaning.{counter_of, counter_in, algorithm_of, extension_of, tsa_policy_of, account_of}
use Rattle.policy.specs.declared.fault.PolicyFault.TheVariants.{BadValue, Duplicate, Missing, UnknownName}
use Rattle.policy.specs.declared.field.Field.TheVariants as field

abbrev number : ℕ → Data
number n = integer (pos n)

abbrev counter : ℕ → Members
counter accuracy =
    member (codes "accuracy_us") (number accuracy)
    (member (codes "anonymous") (string (codes "guest"))
    (member (codes "drift_ppb") (number 50)
    (member (codes "fraction_digits") (number 6) (member (codes "max_age_us") (number 86400000000) no_members))))

abbrev algorithm : List ℕ → Data
algorithm name =
    table (member (codes "length") (number 32)
    (member (codes "name") (string name) (member (codes "oid") (string (codes "2.16.840.1.101.3.4.2.1")) no_members)))

-- a policy that lists these algorithms
abbrev tsa_policy : Items → Data
tsa_policy algorithms =
    table (member (codes "algorithms") (array algorithms)
    (member (codes "name") (string (codes "open")) (member (codes "oid") (string (codes "2.999.1")) no_members)))

abbrev account : List ℕ → Data
account name =
    table (member (codes "daily_quota") (number 2)
    (member (codes "name") (string name) (member (codes "policies")
    (array (item (string (codes "open")) no_items)) no_members)))

-- a group with these members
abbrev group : Items → Data
group members = table (member (codes "members") (array members) (member (codes "name") (string (codes "staff")) no_members))

abbrev file_with : Members → Items → Items → List ℕ → Items → Members
file_with counter algorithms listed name groups =
    member (codes "account") (array (item (account name) no_items))
    (member (codes "algorithm") (array algorithms)
    (member (codes "counter") (table counter)
    (member (codes "group") (array groups)
    (member (codes "policy") (array (item (tsa_policy listed) no_items)) no_members))))

abbrev file : Members → Items → Items → List ℕ → Members
file counter algorithms listed name =
    file_with counter algorithms listed name (item (group (item (string name) no_items)) no_items)

abbrev sha_256 : Items
sha_256 = item (string (codes "sha256")) no_items

abbrev grouped : Items → Members
grouped = file_with (counter 1000) (item (algorithm (codes "sha256")) no_items) sha_256 (codes "guest")

abbrev meant : PolicyValue
meant = record {
  counter = record {
    accuracy_us = 1000;
    fraction_digits = 6;
    ordering = false;
    drift_ppb = 50;
    max_age_us = 86400000000;
    anonymous = Some (codes "guest");
    tsa_name = false;
  };
  algorithms = record { name = codes "sha256"; oid = 96 ∷ 840 ∷ 1 ∷ 101 ∷ 3 ∷ 4 ∷ 2 ∷ 1 ∷ []; length = 32 } ∷ [];
  extensions = [];
  policies =
      record {
        name = codes "open";
        oid = 1079 ∷ 1 ∷ [];
        algorithms = codes "sha256" ∷ [];
        extensions =
            [];
        certificate = true;
      }
      ∷ [];
  accounts =
      record {
        name = codes "guest";
        key_sha256 = None;
        active = true;
        auditor = false;
        operator = false;
        policies =
            codes "open" ∷ [];
        daily_quota = 2;
      }
      ∷ [];
  groups = record { name = codes "staff"; members = codes "guest" ∷ [] } ∷ [];
}

file_is_meant : policy_in (file (counter 1000) (item (algorithm (codes "sha256")) no_items) sha_256 (codes "guest"))
    ≡ Ok meant
unfolding number_in is_name name_in some_name_in oid_in new_name_in new_oid_in listed values_in names_in tables_in
    entry_in array_in counter_of counter_in algorithm_of extension_of tsa_policy_of account_of group_of policy_in oid_of_text
    hash_algorithms decimal subidentifier_octets
file_is_meant = refl

no_counter_is_missing : policy_in no_members ≡ Err (Missing field.Counter)
unfolding policy_in
no_counter_is_missing = refl

-- the first of three faults
accuracy_is_judged_first : policy_in (file (counter 0) (item (algorithm (codes "SHA")) no_items) no_items
    (codes "guest")) ≡ Err (BadValue field.CounterAccuracyUs)
unfolding number_in counter_of counter_in policy_in
accuracy_is_judged_first = refl

oid_is_a_duplicate : policy_in (file (counter 1000)
    (item (algorithm (codes "sha256")) (item (algorithm (codes "other")) no_items)) sha_256 (codes "guest"))
    ≡ Err (Duplicate field.AlgorithmOid)
unfolding number_in is_name name_in some_name_in oid_in new_name_in new_oid_in listed values_in names_in tables_in
    entry_in array_in counter_of counter_in algorithm_of extension_of tsa_policy_of account_of group_of policy_in oid_of_text
    hash_algorithms decimal subidentifier_octets
oid_is_a_duplicate = refl

anonymous_is_unknown : policy_in (file (counter 1000) (item (algorithm (codes "sha256")) no_items) sha_256
    (codes "other")) ≡ Err (UnknownName field.CounterAnonymous)
unfolding number_in is_name name_in some_name_in oid_in new_name_in new_oid_in listed values_in names_in tables_in
    entry_in array_in counter_of counter_in algorithm_of extension_of tsa_policy_of account_of group_of policy_in oid_of_text
    hash_algorithms decimal subidentifier_octets
anonymous_is_unknown = refl

-- a member that is no account, one that stands twice, and none; two groups of one name
member_is_unknown : policy_in (grouped (item (group (item (string (codes "other")) no_items)) no_items))
    ≡ Err (UnknownName field.GroupMembers)
unfolding number_in is_name name_in some_name_in oid_in new_name_in new_oid_in listed values_in names_in tables_in
    entry_in array_in counter_of counter_in algorithm_of extension_of tsa_policy_of account_of group_of policy_in
    oid_of_text hash_algorithms decimal subidentifier_octets
member_is_unknown = refl

member_is_a_duplicate : policy_in (grouped
    (item (group (item (string (codes "other")) (item (string (codes "other")) no_items))) no_items))
    ≡ Err (Duplicate field.GroupMembers)
unfolding number_in is_name name_in some_name_in oid_in new_name_in new_oid_in listed values_in names_in tables_in
    entry_in array_in counter_of counter_in algorithm_of extension_of tsa_policy_of account_of group_of policy_in
    oid_of_text hash_algorithms decimal subidentifier_octets
member_is_a_duplicate = refl

no_member_is_bad : policy_in (grouped (item (group no_items) no_items)) ≡ Err (BadValue field.GroupMembers)
unfolding number_in is_name name_in some_name_in oid_in new_name_in new_oid_in listed values_in names_in tables_in
    entry_in array_in counter_of counter_in algorithm_of extension_of tsa_policy_of account_of group_of policy_in
    oid_of_text hash_algorithms decimal subidentifier_octets
no_member_is_bad = refl

group_is_a_duplicate : policy_in (grouped (item (group (item (string (codes "guest")) no_items))
    (item (group (item (string (codes "guest")) no_items)) no_items))) ≡ Err (Duplicate field.GroupName)
unfolding number_in is_name name_in some_name_in oid_in new_name_in new_oid_in listed values_in names_in tables_in
    entry_in array_in counter_of counter_in algorithm_of extension_of tsa_policy_of account_of group_of policy_in
    oid_of_text hash_algorithms decimal subidentifier_octets
group_is_a_duplicate = refl
