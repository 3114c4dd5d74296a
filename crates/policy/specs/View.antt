-- What the types stand for.
use Rattle.std.specs.Prelude.{ℕ, List, option_map, map, String, Vec, string_bytes}
use Rattle.std.specs.declared.alloc.Global.{Global}
use Rattle.policy.specs.Record.{AlgorithmValue, ExtensionValue, TsaPolicyValue, AccountValue, GroupValue, CounterValue}
use Rattle.policy.specs.Record.{PolicyValue}
use Rattle.policy.specs.declared.entries.{Algorithm.Algorithm, Counter.Counter, Account.Account, Group.Group}
use Rattle.policy.specs.declared.{entries.Extension.Extension, entries.TsaPolicy.TsaPolicy, policy.Policy.Policy}

abbrev pub names_view : Vec (String Global) Global → List (List ℕ)
names_view names = map string_bytes names.items

abbrev pub counter_view : Counter → CounterValue
counter_view counter = record {
  accuracy_us = counter.accuracy_us;
  fraction_digits = counter.fraction_digits;
  ordering = counter.ordering;
  drift_ppb = counter.drift_ppb;
  max_age_us = counter.max_age_us;
  anonymous = option_map string_bytes counter.anonymous;
  tsa_name = counter.tsa_name;
}

abbrev pub algorithm_view : Algorithm → AlgorithmValue
algorithm_view algorithm = record { name = string_bytes algorithm.name; oid = algorithm.oid; length = algorithm.length }

abbrev pub extension_view : Extension → ExtensionValue
extension_view extension = record {
  name = string_bytes extension.name;
  oid = extension.oid;
  max_length = extension.max_length;
}

abbrev pub tsa_policy_view : TsaPolicy → TsaPolicyValue
tsa_policy_view policy = record {
  name = string_bytes policy.name;
  oid = policy.oid;
  algorithms = names_view policy.algorithms;
  extensions = names_view policy.extensions;
  certificate = policy.certificate;
}

abbrev pub account_view : Account → AccountValue
account_view account = record {
  name = string_bytes account.name;
  key_sha256 = account.key_sha256;
  active = account.active;
  auditor = account.auditor;
  operator = account.operator;
  policies = names_view account.policies;
  daily_quota = account.daily_quota;
}

abbrev pub group_view : Group → GroupValue
group_view group = record { name = string_bytes group.name; members = names_view group.members }

abbrev pub policy_view : Policy → PolicyValue
policy_view policy = record {
  counter = counter_view policy.counter;
  algorithms = map algorithm_view policy.algorithms.items;
  extensions = map extension_view policy.extensions.items;
  policies = map tsa_policy_view policy.policies.items;
  accounts = map account_view policy.accounts.items;
  groups = map group_view policy.groups.items;
}
