-- What an audit writes.
use Rattle.std.specs.Prelude.{◌≡◌, ◌≢◌, ◌⊎◌, ◌↔◌, ℕ, ◌<◌, Bool, true, false, List, [], ◌∷◌, ◌++◌, IfErr, IfOk, OnOk}
use Rattle.std.specs.Prelude.{IsTrue, MatchResult, Option, None, Some, Result, codes, if◌then◌else◌, length, map, take}
use Rattle.std.specs.{Fmt.decimal, Io.KnownBytes.Appends, List.flat_map}
use Rattle.audit.specs.{Auditor.IsMet, Consistent.IsConsistent, Fault.count_after, Intact.IsIntact}
use Rattle.audit.specs.{Extract.extract_text, Extract.lines_text, declared.fault.ExtractFault.ExtractFault}
use Rattle.audit.specs.Inquiries as inquiry
use Rattle.audit.specs.declared.fault.ExtractFault.TheVariants as extract
use Rattle.policy.specs.View.{policy_view}
use Rattle.book.specs.Fault as book
use Rattle.book.specs.declared.fault.StoreFault.TheVariants as store
use Rattle.book.specs.History.{History, stamps_between}
use Rattle.book.specs.{declared.standing.Standing.Ghosts, Identities.identities, Rights.deposit_with_stamp}
use Rattle.book.specs.{Rows.StampRow, Stands.OnlyLooks, Stands.Stands, Values.identity_view}
use Rattle.judgement.specs.{Judged.IsJudgedBehind, Readings.evidence_in, Texts.judgement_text}
use Rattle.judgement.specs.{declared.judgement.Judgement.Judgement, declared.judgement.Judgement.TheVariants.Given}
use Rattle.operations.specs.{Kept.IsKept, Kept.rows_before, declared.audits.Examination.Examination}
use Rattle.operations.specs.{declared.kept.Kept.Kept}
use Rattle.operations.specs.{declared.audits.AuditFault.AuditFault, declared.audits.Findings.Findings}
use Rattle.operations.specs.declared.audits.AuditFault.TheVariants as fault

-- stamps are looked at more closely than their extract wants
abbrev pub IsExamining : Examination → Type 0
IsExamining asked = (asked.check ≡ true) ⊎ (asked.judge ≡ true)

-- what fails: the row of a serial number, or the deposit of that number; or how the row is judged, which isn't given by
-- the rules
pub data Failure : Type 0 where
  Row : ℕ → Failure
  Deposit : ℕ → Failure
  Judged : ℕ → Judgement → Failure

-- the line that tells of one
abbrev pub failing_line : Failure → List ℕ
failing_line (Row serial) = codes "row " ++ (decimal serial ++ codes " fails\n")
failing_line (Deposit number) = codes "deposit " ++ (decimal number ++ codes " fails\n")
failing_line (Judged serial judgement) =
    codes "row " ++ (decimal serial ++ (codes " " ++ (judgement_text judgement ++ codes "\n")))

abbrev pub failing_lines : List Failure → List ℕ
failing_lines failures = flat_map failing_line failures

-- one of a serial number whose row is judged so, unless it is given by the rules, or taken as it stands
abbrev pub judged_of : ℕ → Option Judgement → List Failure
judged_of serial None = []
judged_of serial (Some Given) = []
judged_of serial (Some judgement) = Judged serial judgement ∷ []

-- those of a serial number, by what is found of it
abbrev pub failures_of : ℕ → Findings → List Failure
failures_of serial found =
    (if found.row then [] else Row serial ∷ [])
    ++ ((if found.deposit then [] else Deposit serial ∷ []) ++ judged_of serial found.judged)

-- What is found of a stamp behind the rows before it. Where stamps are checked, its row passes if its octets say what
-- it and the identities say, and its deposit if that is intact, or isn't there. Where they are judged, it is judged by
-- the rules of the policy file.
pub record IsFound (asked : Examination) (b : History) (before : List StampRow) (stamp : StampRow) (found : Findings)
    : Type 0 where
  pub row : asked.check ≡ true → IsTrue found.row ↔ IsConsistent stamp (identities b)
  pub deposit : asked.check ≡ true → IsTrue found.deposit ↔ IsIntact (deposit_with_stamp stamp.serial b)
  pub unchecked : asked.check ≡ false → (found.row ≡ true) × (found.deposit ≡ true)
  pub judged : asked.judge ≡ true
      → IsJudgedBehind (evidence_in (policy_view asked.inquiry.policy.now) b) before stamp found.judged
  pub unjudged : asked.judge ≡ false → found.judged ≡ None

-- these are the failures of stamps behind the rows before them, in their order
abbrev pub AreFailing : Examination → History → (before stamps : List StampRow) → List Failure → Type 0
AreFailing asked b before [] failures = failures ≡ []
AreFailing asked b before (stamp ∷ stamps) failures =
    (found : Findings)
    × IsFound asked b before stamp found
    × ((others : List Failure)
    × (failures ≡ failures_of stamp.serial found ++ others)
    × AreFailing asked b (before ++ stamp ∷ []) stamps others)

-- a beginning of the text was written, and not all of it
abbrev pub IsCutOff : Option (List ℕ) → Option (List ℕ) → List ℕ → Type 0
IsCutOff old new text = (n : ℕ) × (n < length text) × Appends old new (take n text)

-- Each stamp of the range was looked at behind these rows, as far as that is asked, and what fails is told; but where a
-- write fails the stamps after it aren't looked at.
pub record ExaminesBehind (asked : Examination) (b : History) (before : List StampRow) (old new : Option (List ℕ))
    (agree : Bool) : Type 0 where
  pub examined : List StampRow
  pub left : List StampRow
  pub parts : stamps_between asked.inquiry.from asked.inquiry.to b ≡ examined ++ left
  pub failures : List Failure
  pub failing : AreFailing asked b before examined failures
  pub told : ((left ≡ []) × Appends old new (failing_lines failures)) ⊎ IsCutOff old new (failing_lines failures)
  pub agreed : agree ≡ true → (failures ≡ []) × (left ≡ [])
  pub failed : agree ≡ false → failures ≢ []

-- behind all rows with lower serial numbers
abbrev pub Examines : Examination → History → (old new : Option (List ℕ)) → Bool → Type 0
Examines asked b old new agree = ExaminesBehind asked b (rows_before asked.inquiry.from b) old new agree

-- the lines of some failures were written, of none maybe
abbrev pub TellsFailing : Option (List ℕ) → Option (List ℕ) → Type 0
TellsFailing old new = (failures : List Failure) × Appends old new (failing_lines failures)

-- the lines of one failure and maybe others were written, or a beginning of them
abbrev pub TellsSome : Option (List ℕ) → Option (List ℕ) → Type 0
TellsSome old new =
    (first : Failure) × (others : List Failure) × (n : ℕ) × Appends old new (take n (failing_lines (first ∷ others)))

-- an extract was written, of whatever stamps the database told
abbrev pub WritesExtract : Option (List ℕ) → Option (List ℕ) → Type 0
WritesExtract old new = (stamps : List StampRow) × Appends old new (lines_text stamps)

-- a beginning of one was written
abbrev pub BeginsExtract : Option (List ℕ) → Option (List ℕ) → Type 0
BeginsExtract old new = (stamps : List StampRow) × (n : ℕ) × Appends old new (take n (lines_text stamps))

-- the extract was refused on the way
abbrev pub IsExtractFault : AuditFault → Type 0
IsExtractFault refused = (refusal : ExtractFault) × IsMet refusal × (refused ≡ fault.Extract refusal)

-- the stamps can't be looked at
abbrev pub IsCheckFault : AuditFault → Type 0
IsCheckFault refused = (refused ≡ fault.Extract extract.Memory) ⊎ (refused ≡ fault.Store store.Database)

-- the book's count of its faults after that is refused so
abbrev pub CountsFaults : {A : Type 0} → Result A ExtractFault → ℕ → ℕ → Type 0
CountsFaults done before after = MatchResult done (λ _. after ≡ before) (λ refusal. after ≡ count_after refusal before)

-- and after an audit
abbrev pub count_after_audit : AuditFault → ℕ → ℕ
count_after_audit (fault.Store refusal) n = book.count_after refusal n
count_after_audit (fault.Extract refusal) n = count_after refusal n

abbrev pub CountsAudit : {A : Type 0} → Result A AuditFault → ℕ → ℕ → Type 0
CountsAudit done before after =
    MatchResult done (λ _. after ≡ before) (λ refused. after ≡ count_after_audit refused before)

-- an auditor asks, and for a range
abbrev pub Allows : Examination → Type 0
Allows asked = inquiry.Allows asked.inquiry

-- where each refusal of an extract comes
abbrev pub ComesWhere : Examination → AuditFault → Type 0
ComesWhere asked refused =
    (refusal : ExtractFault) → refused ≡ fault.Extract refusal → inquiry.ComesFor asked.inquiry refusal

-- What a refused audit leaves of its output and of what it tells: nothing; a beginning of an extract; or a whole one,
-- and the lines of what failed before the stamps couldn't be looked at.
abbrev pub Leaves : Examination → (out out' told told' : Option (List ℕ)) → AuditFault → Type 0
Leaves asked out out' told told' refused =
    ((out' ≡ out) × (told' ≡ told))
    ⊎ ((IsExtractFault refused × Allows asked × BeginsExtract out out' × (told' ≡ told))
    ⊎ (IsExamining asked
    × IsCheckFault refused
    × Allows asked
    × WritesExtract out out'
    × TellsFailing told told'))

-- What is known of an audit and its answer: whether nothing fails, or the refusal.
abbrev pub IsAudited : Examination → (out out' told told' : Option (List ℕ)) → Result Bool AuditFault → Type 0
IsAudited asked out out' told told' done =
    IfOk done (λ agree. Allows asked
    × WritesExtract out out'
    × (agree ≡ true → told' ≡ told)
    × (agree ≡ false → IsExamining asked × TellsSome told told'))
    × IfErr done (λ refused. ComesWhere asked refused × Leaves asked out out' told told' refused)

-- An audit of a book: it changes nowhere but in its count of faults, and while it returns what was written, an answer
-- comes with the extract of each history that it stood for, and, where that is asked, with what fails of its stamps.
pub record IsAuditOf {B : Type 0} (g : Ghosts B) (asked : Examination) (old new : B)
    (out out' told told' : Option (List ℕ)) (done : Result Bool AuditFault) : Type 0 where
  pub looks : OnlyLooks g old new
  pub whole : g.honest new → (b : History) → Stands g b old
      → OnOk done (Appends out out' (extract_text asked.inquiry.from asked.inquiry.to b))
  pub examined : g.honest new → (b : History) → Stands g b old → IsExamining asked
      → IfOk done (Examines asked b told told')
  pub faults : CountsAudit done (g.fault_count old) (g.fault_count new)

-- ---- on the way

-- what is kept is the history's, as far as the asked needs it, with what these rows say
pub record Knows (asked : Examination) (b : History) (rows : List StampRow) (kept : Kept) : Type 0 where
  pub installed : map identity_view kept.identities.items ≡ identities b
  pub kept_is : asked.judge ≡ true → IsKept b rows kept
