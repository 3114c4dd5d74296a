-- The reply to a request where no account, policy file or clock is asked: the TSTInfo of the request, or the rejection
-- by the first rule that fails (RFC 3161 2.4.2).
use Rattle.std.specs.Prelude.{◌≡◌, ℕ, ◌⊎◌, List, Option, None, IfSome, unwrap_or}
use Rattle.der.specs.{Node.encoding, Node.IsLawful, declared.fault.DerFault.TheVariants.BadValue}
use Rattle.gentime.specs.GenTime.{round_down}
use Rattle.tsp.specs.Rules.{HoldsOfOctets, HasVersionOne, HasKnownAlgorithm, HasAlgorithmLength, IsFirstFailing}
use Rattle.tsp.specs.Tst.{TstValue, IsTst, IsTsaName, tst_info}
use Rattle.tsp.specs.declared.rule.Rule.TheVariants.{Spelling, Version, Account, Algorithm, HashLength, Policy}
use Rattle.tsp.specs.declared.rule.Rule.TheVariants.{PolicyAlgorithm, Extensions, Certificate, Clock, Quota, System}
use Rattle.tsp.specs.{Request.RequestValue, Request.Spells, Rejection.rejection, declared.rule.Rule.Rule}
use Rattle.tsp.specs.declared.fault.TspFault.TheVariants as tsp
use Rattle.command_line.specs.declared.words.TstWords.{TstWords}
use Rattle.console.specs.Hexadecimal.{IsHexadecimal, line}
use Rattle.console.specs.declared.fault.Fault.TheVariants.{Der, Tsp, Input}
use Rattle.console.specs.declared.fault.InputFault.TheVariants.{Failed, Memory, NotHexadecimal}
use Rattle.console.specs.{Known.five_algorithms, Settings.SettingsValue, Settings.States, declared.fault.Fault.Fault}

-- the TSTInfo of a request: its policy is the request's where it states one, its genTime the moment rounded down, and
-- it names no authority
abbrev pub tst_of : SettingsValue → RequestValue → TstValue
tst_of settings r = record {
  policy = unwrap_or r.policy settings.policy;
  imprint = r.imprint;
  serial = settings.serial;
  gen_time = round_down settings.digits settings.moment;
  accuracy = settings.accuracy;
  ordering = settings.ordering;
  nonce = r.nonce;
  tsa = None;
  extensions = r.extensions;
}

-- each TSTInfo with the request's imprint, nonce and extensions is a lawful value, unless its tsa leaves no room
abbrev pub HasLawfulAnswers : RequestValue → Type 0
HasLawfulAnswers r =
    (t : TstValue) → IsTst t → t.imprint ≡ r.imprint → t.nonce ≡ r.nonce → t.extensions ≡ r.extensions
    → IfSome t.tsa IsTsaName → IsLawful (tst_info t)

-- Which rules hold of a request. Those that speak of the request and of hash algorithms alone are judged; the others
-- hold here.
abbrev pub HoldsOf : RequestValue → Rule → Type 0
HoldsOf r Spelling = Unit {0}
HoldsOf r Version = HasVersionOne r
HoldsOf r Account = Unit {0}
HoldsOf r Algorithm = HasKnownAlgorithm five_algorithms r
HoldsOf r HashLength = HasAlgorithmLength five_algorithms r
HoldsOf r Policy = Unit {0}
HoldsOf r PolicyAlgorithm = Unit {0}
HoldsOf r Extensions = Unit {0}
HoldsOf r Certificate = Unit {0}
HoldsOf r Clock = Unit {0}
HoldsOf r Quota = Unit {0}
HoldsOf r System = Unit {0}

-- Which rules hold of octets: that they are a request, and what holds of each request that they spell.
abbrev pub Holds : List ℕ → Rule → Type 0
Holds = HoldsOfOctets HoldsOf

-- each rule holds, and the reply is the TSTInfo of the request that the octets spell
pub record IsGranted (settings : SettingsValue) (query octets : List ℕ) : Type 0 where
  pub holds : (rule : Rule) → Holds query rule
  pub info : (r : RequestValue) → Spells query r → octets ≡ encoding (tst_info (tst_of settings r))

-- the reply is the rejection by the first rule that fails
pub record IsRejected (query octets : List ℕ) : Type 0 where
  pub rule : Rule
  pub first : IsFirstFailing (Holds query) rule
  pub text : octets ≡ encoding (rejection rule)

abbrev pub IsReply : SettingsValue → List ℕ → List ℕ → Type 0
IsReply settings query octets = IsGranted settings query octets ⊎ IsRejected query octets

-- Memory is wanting for a reply: of a TSTInfo, where each rule holds, or of the program's own.
abbrev pub IsReplyFault : List ℕ → Fault → Type 0
IsReplyFault query fault = (fault ≡ Input Memory) ⊎ ((fault ≡ Tsp tsp.Memory) × ((rule : Rule) → Holds query rule))

-- Why nothing is replied to an input: the words' policy is no object identifier's text; the text of the input spells no
-- octets; a stream fails; memory is wanting, of a TSTInfo only where each rule holds of the octets.
abbrev pub IsTstFault : Option (List ℕ) → Fault → Type 0
IsTstFault input fault =
    (fault ≡ Der BadValue)
    ⊎ (((fault ≡ Input NotHexadecimal) × IfSome input (λ text. (octets : List ℕ) → IsHexadecimal text octets → ⊥))
    ⊎ ((fault ≡ Input Failed)
    ⊎ ((fault ≡ Input Memory)
    ⊎ ((fault ≡ Tsp tsp.Memory) × IfSome input (λ text. (query : List ℕ) × IsHexadecimal text query
    × ((rule : Rule) → Holds query rule))))))

-- The text spells a request's octets, the words state settings, and what is written is the line of a reply to the one
-- by the other.
pub record Answers (words : TstWords) (text written : List ℕ) : Type 0 where
  pub settings : SettingsValue
  pub stated : States words settings
  pub query : List ℕ
  pub spelled : IsHexadecimal text query
  pub reply : List ℕ
  pub replied : IsReply settings query reply
  pub digits : written ≡ line reply
