-- What is done over the files at a path of this machine, whatever they held: what is known there of what is opened,
-- closed, reached and left.
use Rattle.std.specs.Prelude.{◌≡◌, ℕ, Bool, List, [], IfOk, Option, Result}
use Rattle.sqlite_disk.specs.{declared.Disk.Ghosts, declared.Files.Files}
use Rattle.sqlite_store.specs.declared.store.FileStore.{FileStore}
use Rattle.sqlite_wal.specs.{Reads.AreClean, Recovery.Image}
use Rattle.sqlite.specs.{Files.file_state, Files.over_files, State.HasCleanDisk}
use Rattle.cms.specs.declared.signer.Signer.{Ghosts as Signs}
use Rattle.book.specs.{declared.fault.StoreFault.StoreFault, declared.standing.Standing.Ghosts as Book}
use Rattle.book.specs.{Entries.FitInTurn, Entries.with_all, History.Entry, History.History, Stands.Stands}
use Rattle.tables.specs.Base.{BaseValue, IsHonest, IsOpen}
use Rattle.store.specs.Files.{HasClosed, HoldsTables, LeavesFiles, OpensFound}
pub use Rattle.store.specs.Files.{IsFreeAt, MigratesFound}
use Rattle.store.specs.Stands.{Stands as StandsOver, over_tables}
use Rattle.desk.specs.{Command.Setting, MachineRuns.Journey, MachineRuns.Told}
use Rattle.operations.specs.Continuation.{Continues, GoesOver, IsRefused}
use Rattle.operations.specs.declared.fault.ContinuationFault.TheVariants.{Unopened}
use Rattle.operations.specs.{Audits.IsAuditOf, declared.audits.AuditFault.AuditFault}
use Rattle.operations.specs.{declared.audits.Examination.Examination}
use Rattle.operations.specs.{declared.fault.ContinuationFault.ContinuationFault, declared.void_stamp.Floor.Floor}

-- nothing more is known of it
abbrev pub IsAny : {X : Type 0} → X → Type 0
IsAny _ = Unit {0}

-- a signer of that algorithm was reached, which has counted no fault yet
pub record IsReached {X : Type 0} (signs : Signs X) (algorithm : List ℕ) (signer : X) : Type 0 where
  pub signs_so : signs.algorithm_octets signer ≡ algorithm
  pub unused : signs.fault_count signer ≡ 0

-- A store over files was closed so: as its connection was. Where that isn't refused it left these files, which hold
-- each history that the store stood for, as they read and after any crash.
pub record IsClosedAs {D : Type 0} (disk : Ghosts D) (store : BaseValue (FileStore D disk))
    (done : Result (Files D) StoreFault) : Type 0 where
  pub closed : HasClosed store.conn done
  pub copied : IfOk done (λ files. AreClean disk files.log files.db
      → (b : History) → StandsOver over_files b store → LeavesFiles disk b files)

-- it was closed
abbrev pub ClosesFiles : {D : Type 0} (disk : Ghosts D) → BaseValue (FileStore D disk) → Type 0
ClosesFiles {D} disk store = (done : Result (Files D) StoreFault) × IsClosedAs disk store done

-- none was opened, by the refusal
abbrev pub IsUnopenedAs : {E : Type 0} → (StoreFault → E) → (StoreFault → Type 0) → E → Type 0
IsUnopenedAs as_fault Refuses fault = (refusal : StoreFault) × (fault ≡ as_fault refusal) × Refuses refusal

module _ {D : Type 0} (disk : Ghosts D) where
  -- a store over files was left so, and closed
  abbrev pub IsLeftOver : (BaseValue (FileStore D disk) → Type 0) → Type 0
  IsLeftOver Is = (left : BaseValue (FileStore D disk)) × Is left × ClosesFiles disk left

  -- one was made over files with these entries, and is open; it stands for their history where they fit in turn, and it
  -- was closed as it was made
  abbrev pub IsMadeOver : List Entry → Type 0
  IsMadeOver entries =
      (made : BaseValue (FileStore D disk))
      × (FitInTurn entries [] → Stands (over_tables over_files) (with_all entries []) made)
      × (IsHonest over_files made → IsOpen over_files made)
      × ClosesFiles disk made

module _ {D : Type 0} (disk : Ghosts D) (held : Image) where
  -- a store was opened over what the files held
  abbrev pub IsOpenedOver : BaseValue (FileStore D disk) → Type 0
  IsOpenedOver store = HasCleanDisk (file_state store.conn) → OpensFound held store

  -- one was, this was done to it, by what is known of it as a book, and what that left was closed
  abbrev pub IsDoneOver : (Book (BaseValue (FileStore D disk)) → (opened left : BaseValue (FileStore D disk)) → Type 0)
      → Type 0
  IsDoneOver Does =
      (opened : BaseValue (FileStore D disk))
      × IsOpenedOver opened
      × IsLeftOver disk (Does (over_tables over_files) opened)

  -- its stamps were extracted and checked
  abbrev pub IsAuditedOver : Examination → (out out' told told' : Option (List ℕ)) → Result Bool AuditFault → Type 0
  IsAuditedOver asked out out' told told' done =
      IsDoneOver (λ g opened left. IsAuditOf g asked opened left out out' told told' done)

  -- its history goes on in one that was made over other files, and closed as it was made
  abbrev pub IsContinuedOver : {E : Type 0} → Ghosts E → Option Floor → Type 0
  IsContinuedOver {E} other floor =
      IsDoneOver (λ g opened left. (made : BaseValue (FileStore E other))
      × Continues g (over_tables over_files) floor opened left made × ClosesFiles other made)

  -- so each journey to a history whose tables these files held goes over, while the disk returns what was written
  abbrev pub TakesJourneys : {E : Type 0} → Ghosts E → Type 0
  TakesJourneys {E} other =
      IsDoneOver (λ g opened left. (made : BaseValue (FileStore E other)) × ClosesFiles other made
      × (IsHonest over_files left → (b : History) (x : Option Setting) (w : List Told) → Journey b x w
      → HoldsTables b held → GoesOver g (over_tables over_files) b left made))

  -- none was opened, by an opening's refusal, or it isn't closed for tokens, by the refusal
  abbrev pub IsRefusedBy : (StoreFault → Type 0) → Option Floor → ContinuationFault → Type 0
  IsRefusedBy Refuses floor (Unopened fault) = Refuses fault
  IsRefusedBy Refuses floor fault = IsDoneOver (λ g opened left. IsRefused g floor opened left fault)
