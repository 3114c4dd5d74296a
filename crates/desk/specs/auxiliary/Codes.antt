-- How proofs tell the values of desks apart: no definitions.
use Rattle.std.specs.Prelude.{ℕ, Bool, List, Option, refl}
use Rattle.std.specs.Coded.{Coded, code_by, coded×, coded_ℕ, coded_bool, coded_list, coded_option}
use Rattle.policy.specs.Record.{AlgorithmValue, ExtensionValue, TsaPolicyValue, AccountValue, GroupValue}
use Rattle.policy.specs.Record.{CounterValue, PolicyValue}
use Rattle.cms.specs.Identity.{IdentityValue}
use Rattle.desk.specs.{CallContract.DeskValue, Command.InForce, Command.Setting}

abbrev octets : Coded (List ℕ)
octets = coded_list coded_ℕ

abbrev names : Coded (List (List ℕ))
names = coded_list octets

abbrev algorithm_code : Coded AlgorithmValue
algorithm_code =
    code_by (List ℕ × (List ℕ × ℕ)) (coded× octets (coded× octets coded_ℕ)) (λ a. (a.name, (a.oid, a.length)))
    (λ p. record { name = p.0; oid = p.1.0; length = p.1.1 }) (λ _. refl)

abbrev extension_code : Coded ExtensionValue
extension_code =
    code_by (List ℕ × (List ℕ × ℕ)) (coded× octets (coded× octets coded_ℕ)) (λ e. (e.name, (e.oid, e.max_length)))
    (λ p. record { name = p.0; oid = p.1.0; max_length = p.1.1 }) (λ _. refl)

abbrev tsa_policy_code : Coded TsaPolicyValue
tsa_policy_code =
    code_by (List ℕ × (List ℕ × (List (List ℕ) × (List (List ℕ) × Bool))))
    (coded× octets (coded× octets (coded× names (coded× names coded_bool))))
    (λ p. (p.name, (p.oid, (p.algorithms, (p.extensions, p.certificate)))))
    (λ p. record { name = p.0; oid = p.1.0; algorithms = p.1.1.0; extensions = p.1.1.1.0; certificate = p.1.1.1.1 })
    (λ _. refl)

abbrev account_code : Coded AccountValue
account_code =
    code_by (List ℕ × (Option (List ℕ) × (Bool × (Bool × (Bool × (List (List ℕ) × ℕ))))))
    (coded× octets (coded× (coded_option octets) (coded× coded_bool (coded× coded_bool (coded× coded_bool
    (coded× names coded_ℕ))))))
    (λ a. (a.name, (a.key_sha256, (a.active, (a.auditor, (a.operator, (a.policies, a.daily_quota)))))))
    (λ p. record {
      name = p.0;
      key_sha256 = p.1.0;
      active = p.1.1.0;
      auditor = p.1.1.1.0;
      operator = p.1.1.1.1.0;
      policies = p.1.1.1.1.1.0;
      daily_quota = p.1.1.1.1.1.1;
    }) (λ _. refl)

abbrev group_code : Coded GroupValue
group_code =
    code_by (List ℕ × List (List ℕ)) (coded× octets names) (λ g. (g.name, g.members))
    (λ p. record { name = p.0; members = p.1 }) (λ _. refl)

abbrev counter_code : Coded CounterValue
counter_code =
    code_by (ℕ × (ℕ × (Bool × (ℕ × (ℕ × (Option (List ℕ) × Bool))))))
    (coded× coded_ℕ (coded× coded_ℕ (coded× coded_bool (coded× coded_ℕ (coded× coded_ℕ (coded× (coded_option octets)
    coded_bool))))))
    (λ c. (c.accuracy_us, (c.fraction_digits, (c.ordering, (c.drift_ppb, (c.max_age_us, (c.anonymous, c.tsa_name)))))))
    (λ p. record {
      accuracy_us = p.0;
      fraction_digits = p.1.0;
      ordering = p.1.1.0;
      drift_ppb = p.1.1.1.0;
      max_age_us = p.1.1.1.1.0;
      anonymous = p.1.1.1.1.1.0;
      tsa_name = p.1.1.1.1.1.1;
    }) (λ _. refl)

abbrev file_code : Coded PolicyValue
file_code =
    code_by (CounterValue × (List AlgorithmValue × (List ExtensionValue × (List TsaPolicyValue
    × (List AccountValue × List GroupValue)))))
    (coded× counter_code (coded× (coded_list algorithm_code) (coded× (coded_list extension_code)
    (coded× (coded_list tsa_policy_code) (coded× (coded_list account_code) (coded_list group_code))))))
    (λ f. (f.counter, (f.algorithms, (f.extensions, (f.policies, (f.accounts, f.groups))))))
    (λ p. record {
      counter = p.0;
      algorithms = p.1.0;
      extensions = p.1.1.0;
      policies = p.1.1.1.0;
      accounts = p.1.1.1.1.0;
      groups = p.1.1.1.1.1;
    }) (λ _. refl)

abbrev identity_code : Coded IdentityValue
identity_code =
    code_by (List ℕ × (List ℕ × (List ℕ × (List ℕ × (List ℕ × List ℕ)))))
    (coded× octets (coded× octets (coded× octets (coded× octets (coded× octets octets)))))
    (λ i. (i.certificate, (i.chain, (i.certificates, (i.issuer, (i.serial, i.subject))))))
    (λ p. record {
      certificate = p.0;
      chain = p.1.0;
      certificates = p.1.1.0;
      issuer = p.1.1.1.0;
      serial = p.1.1.1.1.0;
      subject = p.1.1.1.1.1;
    }) (λ _. refl)

abbrev in_force_code : Coded InForce
in_force_code =
    code_by (IdentityValue × List ℕ) (coded× identity_code octets) (λ k. (k.identity, k.algorithm))
    (λ p. record { identity = p.0; algorithm = p.1 }) (λ _. refl)

abbrev setting_code : Coded Setting
setting_code =
    code_by (PolicyValue × InForce) (coded× file_code in_force_code) (λ s. (s.file, s.in_force))
    (λ p. record { file = p.0; in_force = p.1 }) (λ _. refl)

abbrev pub desk_code : {B : Type 0} → Coded B → Coded (DeskValue B)
desk_code {B} store =
    code_by (Setting × B) (coded× setting_code store) (λ d. (d.setting, d.store))
    (λ p. record { setting = p.0; store = p.1 }) (λ _. refl)
