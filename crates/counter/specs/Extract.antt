-- What `audit` does: an extract of the stamps is written for an auditor, and checked where that is asked.
use Rattle.std.specs.Prelude.{◌≡◌, ◌⊎◌, ℕ, Bool, true, List, Option, Ok, Some}
use Rattle.std.specs.Io.KnownBytes.{Appends}
use Rattle.audit.specs.{Auditor.IsAllowed, Auditor.IsMet, Extract.lines_text, declared.fault.ExtractFault.ExtractFault}
use Rattle.audit.specs.declared.fault.ExtractFault.TheVariants as extract
use Rattle.book.specs.Rows.{StampRow}
use Rattle.book.specs.declared.fault.StoreFault.TheVariants as store
use Rattle.command_line.specs.declared.words.AuditWords.{AuditWords}
use Rattle.connections.specs.Clock.{Reading}
use Rattle.console.specs.{Files.ReadsText, Files.Source, Writes.Begins, declared.fault.Fault.Fault}
use Rattle.console.specs.declared.fault.Fault.TheVariants as program
use Rattle.operations.specs.Audits.{Failure, failing_lines}
use Rattle.operations.specs.{Machine.Machine, OverFiles.IsAuditedOver, declared.audits.Examination.Examination}
use Rattle.policy.specs.Record.{AccountValue, PolicyValue}
use Rattle.policy.specs.{LookUp.account_named, Meaning.meaning_of, View.account_view, View.policy_view}

-- stamps are to be checked or judged
abbrev pub IsExamining : AuditWords → Type 0
IsExamining words = (words.check ≡ true) ⊎ (words.judge ≡ true)

-- want of memory, or the database's refusal, stops a check
abbrev pub StopsCheck : Fault → Type 0
StopsCheck stop = (stop ≡ program.Audit extract.Memory) ⊎ (stop ≡ program.Store store.Database)

-- An extract, and whether nothing fails of its stamps and their deposits, where these are checked.
pub record Extracts {D X C S F : Type 0} (m : Machine D X C Reading) (files : Source S F) (words : AuditWords)
    (out out' err err' : Option (List ℕ)) (agree : Bool) (IsWritten : List ℕ → Type 0) : Type 0 where
  -- the text of the policy file
  pub rules : List ℕ
  pub rules_read : ReadsText files words.rules.now (Ok rules)
  -- by the policy that it means, the account of the name that the words state asks for the stamps from their first to
  -- their last serial number, and for a check and a judgement of each where they do
  pub asked : Examination
  pub meant : meaning_of rules ≡ Ok (policy_view asked.inquiry.policy.now)
  pub named : account_named (policy_view asked.inquiry.policy.now) words.account.now
      ≡ Some (account_view asked.inquiry.account.now)
  pub first : asked.inquiry.from ≡ words.from
  pub last : asked.inquiry.to ≡ words.to
  pub check : asked.check ≡ words.check
  pub judge : asked.judge ≡ words.judge
  -- the account is an auditor's, and asks for a range
  pub allowed : IsAllowed (policy_view asked.inquiry.policy.now) (account_view asked.inquiry.account.now) words.from
      words.to
  -- the store of the database is only looked at; the stamps of that range are extracted, and checked where that is
  -- asked
  pub audited : IsAuditedOver m.disk m.held asked out out' err err' (Ok agree)
  -- what is written is the extract of stamps
  pub stamps : List StampRow
  pub written : IsWritten (lines_text stamps)

-- An extract that is refused on the way, or whose check is. Which stamps the database holds no clause says then.
pub record CutsExtract {S F : Type 0} (files : Source S F) (words : AuditWords) (IsWritten : List ℕ → Type 0)
    : Type 0 where
  -- the text of the policy file means this policy
  pub rules : List ℕ
  pub rules_read : ReadsText files words.rules.now (Ok rules)
  pub policy : PolicyValue
  pub meant : meaning_of rules ≡ Ok policy
  -- the account of the name that the words state is an auditor's, and asks for a range
  pub account : AccountValue
  pub named : account_named policy words.account.now ≡ Some account
  pub allowed : IsAllowed policy account words.from words.to
  -- what is written is the extract of stamps
  pub stamps : List StampRow
  pub written : IsWritten (lines_text stamps)

-- What a refused audit leaves: nothing is written; or a beginning of the extract is; or the whole of it, and lines of
-- what failed before its check was refused.
pub data LeavesAudit {S F : Type 0} (files : Source S F) (words : AuditWords) (out out' err err' : Option (List ℕ))
    (fault : Fault) : Type 0 where
  nothing : out' ≡ out → err' ≡ err → LeavesAudit files words out out' err err' fault
  in_extract : CutsExtract files words (Begins out out') → (refusal : ExtractFault) → IsMet refusal
      → fault ≡ program.Audit refusal → err' ≡ err → LeavesAudit files words out out' err err' fault
  in_check : CutsExtract files words (Appends out out') → IsExamining words → StopsCheck fault
      → (failures : List Failure) → Appends err err' (failing_lines failures)
      → LeavesAudit files words out out' err err' fault
