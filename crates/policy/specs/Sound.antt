-- What holds of each record that a policy file means.
use Rattle.std.specs.Prelude.{◌≡◌, ℕ, ◌≤◌, Bool, true, false, not, ◌&&◌, List, [], ◌∷◌, length, map, Option, Some, None}
use Rattle.std.specs.{Prelude.IfSome, Str.bytes_eq, List.AllByRecursion, List.list_all, List.list_any}
use Rattle.der.specs.ObjectIdentifier.{IsOid, oid_content}
use Rattle.policy.specs.Kinds.{is_among, is_hash, is_name, are_distinct}
use Rattle.policy.specs.{Meaning.lengths_of, Meaning.is_none_or_among, Record.PolicyValue}
use Rattle.policy.specs.Record.{AlgorithmValue, ExtensionValue, TsaPolicyValue, AccountValue, GroupValue, CounterValue}

-- no two are the same
abbrev pub are_apart : {A : Type 0} → (A → A → Bool) → List A → Bool
are_apart same [] = true
are_apart same (x ∷ xs) = not (list_any (same x) xs) && are_apart same xs

-- two key hashes are there and the same
abbrev pub same_hash : Option (List ℕ) → Option (List ℕ) → Bool
same_hash first None = false
same_hash first (Some hash) = is_hash hash first

-- a list of at least so many names, each once, all of which exist
pub record AreListed (least : ℕ) (existing names : List (List ℕ)) : Type 0 where
  pub enough : least ≤ length names
  pub distinct : are_distinct names ≡ true
  pub exist : list_all (is_among existing) names ≡ true

pub record IsCounter (counter : CounterValue) : Type 0 where
  pub accuracy_some : 1 ≤ counter.accuracy_us
  pub accuracy : counter.accuracy_us ≤ 1000000
  pub fraction_digits : counter.fraction_digits ≤ 6
  pub drift : counter.drift_ppb ≤ 1000000
  pub age_some : 1 ≤ counter.max_age_us
  pub age : counter.max_age_us ≤ 31536000000000

pub record IsAlgorithm (algorithm : AlgorithmValue) : Type 0 where
  pub name : is_name algorithm.name ≡ true
  pub oid : IsOid algorithm.oid
  pub least : (lengths_of (oid_content algorithm.oid)).0 ≤ algorithm.length
  pub greatest : algorithm.length ≤ (lengths_of (oid_content algorithm.oid)).1

pub record IsExtension (extension : ExtensionValue) : Type 0 where
  pub name : is_name extension.name ≡ true
  pub oid : IsOid extension.oid
  pub max_length : extension.max_length ≤ 4096

pub record IsTsaPolicy (algorithm_names extension_names : List (List ℕ)) (policy : TsaPolicyValue) : Type 0 where
  pub name : is_name policy.name ≡ true
  pub oid : IsOid policy.oid
  pub algorithms : AreListed 1 algorithm_names policy.algorithms
  pub extensions : AreListed 0 extension_names policy.extensions

pub record IsAccount (policy_names : List (List ℕ)) (account : AccountValue) : Type 0 where
  pub name : is_name account.name ≡ true
  -- the 32 octets of a SHA-256
  pub key_sha256 : IfSome account.key_sha256 (λ hash. length hash ≡ 32)
  pub policies : AreListed 1 policy_names account.policies
  pub daily_quota : account.daily_quota ≤ 1000000000

pub record IsGroup (account_names : List (List ℕ)) (group : GroupValue) : Type 0 where
  pub name : is_name group.name ≡ true
  pub members : AreListed 1 account_names group.members

-- entries whose names and object identifiers differ
pub record AreEntries {A : Type 0} (name oid : A → List ℕ) (IsEntry : A → Type 0) (entries : List A) : Type 0 where
  pub names : are_apart bytes_eq (map name entries) ≡ true
  pub oids : are_apart bytes_eq (map oid entries) ≡ true
  pub each : AllByRecursion IsEntry entries

-- accounts whose names and key hashes differ
pub record AreAccounts (policy_names : List (List ℕ)) (accounts : List AccountValue) : Type 0 where
  pub names : are_apart bytes_eq (map (λ e. e.name) accounts) ≡ true
  pub hashes : are_apart same_hash (map (λ e. e.key_sha256) accounts) ≡ true
  pub each : AllByRecursion (IsAccount policy_names) accounts

-- groups whose names differ
pub record AreGroups (account_names : List (List ℕ)) (groups : List GroupValue) : Type 0 where
  pub names : are_apart bytes_eq (map (λ e. e.name) groups) ≡ true
  pub each : AllByRecursion (IsGroup account_names) groups

-- no array has more entries than it may
pub record HasFewEntries (p : PolicyValue) : Type 0 where
  pub algorithms : length p.algorithms ≤ 8
  pub extensions : length p.extensions ≤ 32
  pub policies : length p.policies ≤ 16
  pub accounts : length p.accounts ≤ 64
  pub groups : length p.groups ≤ 16

pub record IsSound (p : PolicyValue) : Type 0 where
  pub few : HasFewEntries p
  pub counter : IsCounter p.counter
  pub algorithms : AreEntries (λ e. e.name) (λ e. oid_content e.oid) IsAlgorithm p.algorithms
  pub extensions : AreEntries (λ e. e.name) (λ e. oid_content e.oid) IsExtension p.extensions
  pub policies : AreEntries (λ e. e.name) (λ e. oid_content e.oid)
      (IsTsaPolicy (map (λ e. e.name) p.algorithms) (map (λ e. e.name) p.extensions)) p.policies
  pub accounts : AreAccounts (map (λ e. e.name) p.policies) p.accounts
  pub groups : AreGroups (map (λ e. e.name) p.accounts) p.groups
  pub anonymous : is_none_or_among (map (λ e. e.name) p.accounts) p.counter.anonymous ≡ true
