-- What refusals of the operations over the database are to the program.
use Rattle.std.specs.Prelude.{◌≡◌, ◌⊎◌}
use Rattle.console.specs.declared.fault.Fault.TheVariants.{Store, Desk, Audit, Input}
use Rattle.console.specs.declared.fault.InputFault.TheVariants.{Failed, Address, Signer, NotAfter}
use Rattle.console.specs.{Fault.IsSettingFault, declared.fault.Fault.Fault}
use Rattle.operations.specs.declared.fault.ContinuationFault.{ContinuationFault}
use Rattle.operations.specs.declared.fault.OperationFault.{OperationFault}
use Rattle.operations.specs.{DatabaseFaults.IsServingFault, declared.audits.AuditFault.AuditFault}
use Rattle.operations.specs.declared.audits.AuditFault.TheVariants as auditing
use Rattle.operations.specs.declared.fault.ContinuationFault.TheVariants as continuation
use Rattle.operations.specs.declared.fault.OperationFault.TheVariants as operation

-- what a refused audit is to the program
abbrev pub fault_of_audit : AuditFault → Fault
fault_of_audit (auditing.Store fault) = Store fault
fault_of_audit (auditing.Extract fault) = Audit fault

-- what a refusal of an operation over the database is to the program
abbrev pub fault_of_operation : OperationFault → Fault
fault_of_operation (operation.Store fault) = Store fault
fault_of_operation (operation.Desk fault) = Desk fault
fault_of_operation operation.Unreached = Input Signer
fault_of_operation operation.Unheard = Input Address
fault_of_operation operation.Clock = Input Failed

-- what a history that doesn't go on is to the program
abbrev pub fault_of_continuation : ContinuationFault → Fault
fault_of_continuation (continuation.Unopened fault) = Store fault
fault_of_continuation (continuation.Unclosed fault) = Store fault
fault_of_continuation continuation.NotAfter = Input NotAfter
fault_of_continuation (continuation.Unfinished fault) = Store fault

-- such a file was refused, or the database, the key holder, the address or the clock failed
abbrev pub IsServeFault : Fault → Type 0
IsServeFault fault = IsSettingFault fault
    ⊎ ((refusal : OperationFault) × IsServingFault refusal × (fault ≡ fault_of_operation refusal))
