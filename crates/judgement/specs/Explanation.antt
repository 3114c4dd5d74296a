-- How a stamp is explained: lines of a name and a value, of its row and its request, of the rules, of the clock, of who
-- signs, and of how it is judged.
use Rattle.std.specs.Prelude.{◌≡◌, ℕ, ◌+◌, ◌-◌, ◌<◌, ◌≤◌, ◌==◌, ℤ, ◌-ℤ◌, nat_le, if◌then◌else◌, Bool, true, false, List}
use Rattle.std.specs.Prelude.{[], ◌∷◌}
use Rattle.std.specs.Prelude.{◌++◌, codes, length, take, drop, Option, Some, None, option_map, IfSome, map}
use Rattle.std.specs.{Fmt.decimal, Fmt.signed_decimal, List.flat_map}
use Rattle.hex.specs.Hex.{encode_lower}
use Rattle.sha2.specs.Sha256.{sha256}
use Rattle.der.specs.{Node.Node, Node.encoding, Number.number_content, ObjectIdentifier.oid_content}
use Rattle.gentime.specs.GenTime.{day_of, last_moment, text_of}
use Rattle.policy.specs.Record.{AccountValue, CounterValue}
use Rattle.tsp.specs.Request.{ExtensionValue, RequestValue, Spells}
use Rattle.tsp.specs.declared.rule.Rule.TheVariants.{Spelling, Version, Account, Algorithm, HashLength, Policy}
use Rattle.tsp.specs.declared.rule.Rule.TheVariants.{PolicyAlgorithm, Extensions, Certificate, Clock, Quota, System}
use Rattle.tsp.specs.{Rejection.number_of, declared.rule.Rule.Rule}
use Rattle.cms.specs.Certificate.{IsSubject}
use Rattle.book.specs.{Identities.identity_before, Rows.InstalledRow, Rows.StampRow}
use Rattle.audit.specs.Extract.{identifier_text, moment_text, state_text}
use Rattle.decide.specs.declared.facts.Calibration.{Calibration}
use Rattle.decide.specs.{Clock.deviation, Clock.step, declared.facts.Facts.Facts}
use Rattle.judgement.specs.Readings.{ComesFurthest, EvidenceValue, unheld}
use Rattle.judgement.specs.{Given.account_of, Judged.IsJudgedBehind, Past.before_of, Texts.judgement_text}
use Rattle.judgement.specs.{declared.judgement.Judgement.Judgement, declared.judgement.Judgement.TheVariants.Fails}

-- a name and its value on a line
abbrev pub named : List ℕ → List ℕ → List ℕ
named name value = name ++ (codes " " ++ (value ++ codes "\n"))

-- a value, or that there is none
abbrev pub or_none : {A : Type 0} → (A → List ℕ) → Option A → List ℕ
or_none text None = codes "none"
or_none text (Some a) = text a

-- ---- the row and its request

-- the extensions' object identifiers, in their order
abbrev pub extension_text : ExtensionValue → List ℕ
extension_text e = codes " " ++ identifier_text (oid_content e.identifier)

abbrev pub extensions_text : List ExtensionValue → List ℕ
extensions_text [] = codes " none"
extensions_text (first ∷ others) = flat_map extension_text (first ∷ others)

abbrev pub nonce_of : Option RequestValue → Option ℤ
nonce_of None = None
nonce_of (Some request) = request.nonce

abbrev pub extensions_of : Option RequestValue → List ExtensionValue
extensions_of None = []
extensions_of (Some request) = request.extensions

abbrev pub stamp_lines : StampRow → List ℕ
stamp_lines stamp =
    named (codes "serial") (decimal stamp.serial)
    ++ (named (codes "account") stamp.account
    ++ named (codes "state") (state_text stamp.token))

abbrev pub imprint_lines : StampRow → List ℕ
imprint_lines stamp =
    named (codes "gen-time") (moment_text stamp.gen_time)
    ++ (named (codes "algorithm") (identifier_text stamp.algorithm)
    ++ named (codes "digest") (encode_lower stamp.digest))

-- the nonce by its contents octets (X.690 8.3)
abbrev pub asked_lines : StampRow → Option RequestValue → List ℕ
asked_lines stamp asked =
    named (codes "nonce") (or_none (λ n. encode_lower (number_content n)) (nonce_of asked))
    ++ (named (codes "policy") (identifier_text stamp.policy)
    ++ (codes "extensions" ++ (extensions_text (extensions_of asked) ++ codes "\n")))

abbrev pub row_lines : StampRow → Option RequestValue → List ℕ
row_lines stamp asked = stamp_lines stamp ++ (imprint_lines stamp ++ asked_lines stamp asked)

-- ---- the rules

abbrev pub rules : List Rule
rules =
    Spelling ∷ Version ∷ Account ∷ Algorithm ∷ HashLength ∷ Policy ∷ PolicyAlgorithm ∷ Extensions ∷ Certificate ∷ Clock
    ∷ Quota ∷ System ∷ []

-- the rules are judged up to the one that the judgement names, which fails, and else all of them; none where there is
-- no judgement
abbrev pub is_judged : Option Judgement → Rule → Bool
is_judged None rule = false
is_judged (Some (Fails first)) rule = nat_le (number_of rule) (number_of first)
is_judged (Some _) rule = true

abbrev pub is_failing : Option Judgement → Rule → Bool
is_failing (Some (Fails first)) rule = number_of rule == number_of first
is_failing _ rule = false

-- a date (ISO 8601) by the genTime's text, whose year has four digits; and else the number of the day since 1970-01-01
abbrev pub dashed : List ℕ → List ℕ
dashed text = take 4 text ++ (codes "-" ++ (take 2 (drop 4 text) ++ (codes "-" ++ take 2 (drop 6 text))))

abbrev pub date_text : ℕ → List ℕ
date_text moment = if nat_le moment last_moment then dashed (text_of 6 moment) else decimal (day_of moment)

abbrev pub distance_text : ℕ → ℕ → List ℕ
distance_text distance accuracy =
    codes ": " ++ (decimal distance ++ (codes " of " ++ (decimal accuracy ++ codes " microseconds")))

-- how far the true moment may be from the genTime, of the accuracy
abbrev pub clock_value : CounterValue → ℤ → Option Calibration → List ℕ
clock_value counter reading None = []
clock_value counter reading (Some c) =
    distance_text (deviation counter reading c + (step counter - 1)) counter.accuracy_us

-- how many stamps the account had on the day, of its quota
abbrev pub quota_value : Option AccountValue → ℕ → ℕ → List ℕ
quota_value None count moment = []
quota_value (Some account) count moment =
    codes ": " ++ (decimal count ++ (codes " of " ++ (decimal account.daily_quota ++ (codes " on "
    ++ date_text moment))))

-- the value that decided, where the rule has one that no other line tells
abbrev pub rule_value : EvidenceValue → StampRow → Facts → Rule → List ℕ
rule_value e stamp facts Spelling = codes ": " ++ (decimal (length stamp.request) ++ codes " octets")
rule_value e stamp facts HashLength = codes ": " ++ (decimal (length stamp.digest) ++ codes " octets")
rule_value e stamp facts Clock = clock_value e.file.counter facts.clock.reading facts.clock.calibration
rule_value e stamp facts Quota = quota_value (account_of e stamp) facts.count stamp.gen_time
rule_value e stamp facts rule = []

-- whether it holds or fails, and that value
abbrev pub judged_text : EvidenceValue → StampRow → Facts → Option Judgement → Rule → List ℕ
judged_text e stamp facts judged rule =
    (if is_failing judged rule then codes " fails" else codes " holds") ++ rule_value e stamp facts rule

abbrev pub rule_text : EvidenceValue → StampRow → Facts → Option Judgement → Rule → List ℕ
rule_text e stamp facts judged rule =
    if is_judged judged rule then judged_text e stamp facts judged rule else codes " isn't judged"

abbrev pub rule_line : EvidenceValue → StampRow → Facts → Option Judgement → Rule → List ℕ
rule_line e stamp facts judged rule =
    codes "rule " ++ (decimal (number_of rule) ++ (rule_text e stamp facts judged rule ++ codes "\n"))

-- ---- the clock

-- the calibration by which the rules come furthest
abbrev pub found_lines : Calibration → List ℕ
found_lines c =
    named (codes "calibration-reading") (signed_decimal c.reading)
    ++ (named (codes "calibration-offset-us") (signed_decimal c.offset)
    ++ named (codes "calibration-uncertainty-us") (decimal c.uncertainty))

-- how old it was at the reading, and how far the true moment may have been from now
abbrev pub since_lines : CounterValue → ℤ → Calibration → List ℕ
since_lines counter reading c =
    named (codes "calibration-age-us") (signed_decimal (reading -ℤ c.reading))
    ++ (named (codes "reading") (signed_decimal reading)
    ++ named (codes "deviation-us") (decimal (deviation counter reading c)))

abbrev pub calibration_lines : CounterValue → ℤ → Option Calibration → List ℕ
calibration_lines counter reading None = named (codes "calibration") (codes "none")
calibration_lines counter reading (Some c) = found_lines c ++ since_lines counter reading c

abbrev pub clock_lines : CounterValue → Facts → List ℕ
clock_lines counter facts =
    calibration_lines counter facts.clock.reading facts.clock.calibration
    ++ named (codes "accuracy-us") (decimal counter.accuracy_us)

-- ---- who signs

-- the subject of the certificate, where it is one
abbrev pub IsSubjectOf : Option InstalledRow → Option Node → Type 0
IsSubjectOf None subject = subject ≡ None
IsSubjectOf (Some identity) None = (name : Node) → IsSubject identity.certificate name → ⊥
IsSubjectOf (Some identity) (Some name) = IsSubject identity.certificate name

-- the subject by its DER encoding, and certificate and token by their SHA-256 (FIPS 180-4)
abbrev pub signing_lines : Option InstalledRow → Option Node → Option (List ℕ) → List ℕ
signing_lines identity subject token =
    named (codes "subject") (or_none (λ name. encode_lower (encoding name)) subject)
    ++ (named (codes "certificate-sha256") (or_none (λ i. encode_lower (sha256 i.certificate)) identity)
    ++ named (codes "token-sha256") (or_none (λ octets. encode_lower (sha256 octets)) token))

-- ---- the whole

abbrev pub verdict_text : Option Judgement → List ℕ
verdict_text None = codes "carried on from another database"
verdict_text (Some judgement) = judgement_text judgement

-- the request that the octets spell, at most 65,536 of them
abbrev pub IsRequestOf : List ℕ → Option RequestValue → Type 0
IsRequestOf octets None = (request : RequestValue) → Spells octets request → length octets ≤ 65536 → ⊥
IsRequestOf octets (Some request) = Spells octets request × (length octets ≤ 65536)

abbrev pub explanation_text : EvidenceValue → StampRow → Option RequestValue → Facts → Option Node → Option Judgement
    → List ℕ
explanation_text e stamp asked facts subject judged =
    row_lines stamp asked
    ++ (flat_map (rule_line e stamp facts judged) rules
    ++ (clock_lines e.file.counter facts
    ++ (signing_lines (identity_before stamp.serial e.identities) subject stamp.token
    ++ named (codes "verdict") (verdict_text judged))))

-- The text explains a stamp behind the rows before it: by facts by which the rules come furthest, holds left out, and
-- as it is judged.
pub record IsExplanation (e : EvidenceValue) (before : List StampRow) (stamp : StampRow) (text : List ℕ) : Type 0 where
  pub asked : Option RequestValue
  pub spelled : IsRequestOf stamp.request asked
  pub facts : Facts
  pub furthest : ComesFurthest (unheld e) (before_of before stamp) stamp.gen_time facts
  pub subject : Option Node
  pub named : IsSubjectOf (identity_before stamp.serial e.identities) subject
  pub judged : Option Judgement
  pub judgement : IsJudgedBehind e before stamp judged
  pub lines : text ≡ explanation_text e stamp asked facts subject judged
