-- What the counter tells an account of itself: lines of a word and what it names, of the policy file and of a look at
-- the store.
use Rattle.std.specs.Prelude.{◌≡◌, ℕ, Bool, List, [], ◌++◌, codes, Option, Some, None, if◌then◌else◌}
use Rattle.std.specs.{Fmt.decimal, List.flat_map}
use Rattle.der.specs.ObjectIdentifier.{oid_text}
use Rattle.policy.specs.Record.{AccountValue, AlgorithmValue, CounterValue, ExtensionValue, PolicyValue, TsaPolicyValue}
use Rattle.policy.specs.{Kinds.is_among, LookUp.groups_of, LookUp.policy_named}
use Rattle.book.specs.History.{History, count_of_day, day_of}
use Rattle.decide.specs.{Clock.IsGood, declared.facts.ClockFacts.ClockFacts}
use Rattle.service.specs.Status.{named, or_none, yes_or_no}

-- a word, a name and its object identifier on a line
abbrev pub identified : List ℕ → List ℕ → List ℕ → List ℕ
identified word name oid = named word (name ++ codes " " ++ oid_text oid)

-- such a line of what a policy lists by its name, and nothing of what it doesn't
abbrev pub listed_line : List ℕ → List (List ℕ) → List ℕ → List ℕ → List ℕ
listed_line word names name oid = if is_among names name then identified word name oid else []

abbrev pub algorithm_line : List (List ℕ) → AlgorithmValue → List ℕ
algorithm_line names a = listed_line (codes "algorithm") names a.name a.oid

abbrev pub extension_line : List (List ℕ) → ExtensionValue → List ℕ
extension_line names e = listed_line (codes "extension") names e.name e.oid

-- a policy, and behind it the algorithms and extensions of the file that it lists, in the file's order
abbrev pub policy_lines : PolicyValue → TsaPolicyValue → List ℕ
policy_lines file p =
    identified (codes "policy") p.name p.oid ++ flat_map (algorithm_line p.algorithms) file.algorithms
    ++ flat_map (extension_line p.extensions) file.extensions

abbrev pub found_policy_lines : PolicyValue → Option TsaPolicyValue → List ℕ
found_policy_lines file None = []
found_policy_lines file (Some p) = policy_lines file p

-- those of the policy of a name; in a policy file each name that an account lists is one's
abbrev pub named_policy_lines : PolicyValue → List ℕ → List ℕ
named_policy_lines file name = found_policy_lines file (policy_named file name)

-- how many stamps the account may have on a day, and how many it has
abbrev pub quota_lines : ℕ → Option ℕ → List ℕ
quota_lines quota used = named (codes "quota") (decimal quota) ++ named (codes "used") (or_none decimal used)

-- whether it is an auditor's, and whether it is an operator's
abbrev pub right_lines : Bool → Bool → List ℕ
right_lines auditor operator =
    named (codes "auditor") (yes_or_no auditor) ++ named (codes "operator") (yes_or_no operator)

abbrev pub group_line : List ℕ → List ℕ
group_line name = named (codes "group") name

abbrev pub account_text : PolicyValue → AccountValue → Option ℕ → List ℕ
account_text file account used =
    named (codes "name") account.name ++ flat_map (named_policy_lines file) account.policies
    ++ quota_lines account.daily_quota used ++ right_lines account.auditor account.operator
    ++ flat_map group_line (groups_of file account.name)

-- how many stamps the account of a name has on the UTC day of now, which is known where the clock is good
abbrev pub IsUsedAt : CounterValue → ClockFacts → List ℕ → History → Option ℕ → Type 0
IsUsedAt counter clock name b None = IsGood counter clock → ⊥
IsUsedAt counter clock name b (Some count) =
    (good : IsGood counter clock) × (count ≡ count_of_day name (day_of good.now) b)
