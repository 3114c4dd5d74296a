-- How the opening of a database, and what comes after it, can be refused.
use Rattle.std.specs.Prelude.{◌≡◌, ◌⊎◌}
use Rattle.book.specs.declared.fault.StoreFault.{StoreFault}
use Rattle.book.specs.declared.fault.StoreFault.TheVariants.{Memory, Database, NotOurs}
use Rattle.desk.specs.declared.fault.Fault.{Fault}
use Rattle.desk.specs.declared.fault.Fault.TheVariants as desk
use Rattle.operations.specs.declared.fault.OperationFault.{OperationFault}
use Rattle.operations.specs.declared.fault.OperationFault.TheVariants as operation

abbrev pub IsOpeningFault : StoreFault → Type 0
IsOpeningFault fault = (fault ≡ Memory) ⊎ ((fault ≡ Database) ⊎ (fault ≡ NotOurs))

-- how the identity can't be installed
abbrev pub IsDeskFault : Fault → Type 0
IsDeskFault fault = (fault ≡ desk.Memory) ⊎ (fault ≡ desk.Store)

-- the database can't be opened, the key holder not reached, or the identity not installed
abbrev pub IsStartingFault : OperationFault → Type 0
IsStartingFault (operation.Store fault) = IsOpeningFault fault
IsStartingFault (operation.Desk fault) = IsDeskFault fault
IsStartingFault operation.Unreached = Unit {0}
IsStartingFault _ = ⊥

-- nor the address listened on, nor the clock read
abbrev pub IsServingFault : OperationFault → Type 0
IsServingFault (operation.Store fault) = IsOpeningFault fault
IsServingFault (operation.Desk fault) = IsDeskFault fault
IsServingFault _ = Unit {0}

-- the key holder can't be reached, or the identity not installed
abbrev pub IsUnready : OperationFault → Type 0
IsUnready (operation.Desk fault) = IsDeskFault fault
IsUnready operation.Unreached = Unit {0}
IsUnready _ = ⊥

-- the key holder can't be reached
abbrev pub IsUnreached : OperationFault → Type 0
IsUnreached fault = fault ≡ operation.Unreached

-- the address can't be listened on
abbrev pub IsUnheard : OperationFault → Type 0
IsUnheard fault = fault ≡ operation.Unheard
