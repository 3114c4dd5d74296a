-- What a refused audit leaves, out of what the operation says of it.
use Rattle.std.proofs.Common.{◌≡◌, ◌⊎◌, ℕ, true, List, Option, Ok, Some, ap, inl, inr}
use Rattle.std.specs.Io.KnownBytes.{Appends}
use Rattle.audit.specs.{Auditor.IsAllowed, Extract.lines_text}
use Rattle.command_line.specs.declared.words.AuditWords.{AuditWords}
use Rattle.operations.specs.Audits as operation
use Rattle.operations.specs.declared.audits.AuditFault.{AuditFault}
use Rattle.policy.specs.{LookUp.account_named, Meaning.meaning_of, Record.AccountValue, Record.PolicyValue}
use Rattle.book.specs.Rows.{StampRow}
use Rattle.console.specs.{Files.ReadsText, Files.Source, Writes.Begins}
use Rattle.counter.specs.Extract.{IsExamining, CutsExtract, LeavesAudit, StopsCheck, nothing, in_extract, in_check}
use Rattle.counter.specs.Fault.{fault_of_audit}

-- what the operation says of a refused audit, where what is asked is what the words and the files state
abbrev pub LeavesBy : AuditWords → PolicyValue → AccountValue → (out out' err err' : Option (List ℕ)) → AuditFault
    → Type 0
LeavesBy words policy account out out' err err' fault =
    ((out' ≡ out) × (err' ≡ err))
    ⊎ ((operation.IsExtractFault fault
    × IsAllowed policy account words.from words.to
    × operation.BeginsExtract out out'
    × (err' ≡ err))
    ⊎ (IsExamining words
    × operation.IsCheckFault fault
    × IsAllowed policy account words.from words.to
    × operation.WritesExtract out out'
    × operation.TellsFailing err err'))

stops : (f : AuditFault) → operation.IsCheckFault f → StopsCheck (fault_of_audit f)
stops f (inl memory) = inl (ap fault_of_audit memory)
stops f (inr database) = inr (ap fault_of_audit database)

module _ {S F : Type 0} (files : Source S F) (words : AuditWords) (policy : PolicyValue) (account : AccountValue)
    (read : (text : List ℕ) × ReadsText files words.rules.now (Ok text) × (meaning_of text ≡ Ok policy))
    (named : account_named policy words.account.now ≡ Some account) where
  cuts : (IsWritten : List ℕ → Type 0) (stamps : List StampRow) → IsAllowed policy account words.from words.to
      → IsWritten (lines_text stamps) → CutsExtract files words IsWritten
  cuts IsWritten stamps allowed written = record {
    rules = read.0;
    rules_read = read.1;
    policy = policy;
    meant = read.2;
    account = account;
    named = named;
    allowed = allowed;
    stamps = stamps;
    written = written;
  }

  -- a refused operation over a database, as the program leaves it
  pub leaves : (out out' err err' : Option (List ℕ)) (fault : AuditFault)
      → LeavesBy words policy account out out' err err' fault
      → LeavesAudit files words out out' err err' (fault_of_audit fault)
  leaves out out' err err' fault (inl same) = nothing same.0 same.1
  leaves out out' err err' fault (inr (inl cut)) =
      let begun = cut.2 in
      in_extract (cuts (Begins out out') begun.0 cut.1 (begun.1, begun.2)) cut.0.0 cut.0.1
      (ap fault_of_audit cut.0.2) cut.3
  leaves out out' err err' fault (inr (inr stopped)) =
      let written = stopped.3 in
      let told = stopped.4 in
      in_check (cuts (Appends out out') written.0 stopped.2 written.1) stopped.0 (stops fault stopped.1) told.0 told.1
