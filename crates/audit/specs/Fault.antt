-- The refusals: their numbers, what becomes of a store's, and its count of those that it gave for another
-- cause than memory.
use Rattle.std.specs.{Prelude.ℕ, Hash.DefaultHasher.wrapping_add}
use Rattle.book.specs.declared.fault.StoreFault.{StoreFault}
use Rattle.book.specs.declared.fault.StoreFault.TheVariants as store
use Rattle.audit.specs.declared.fault.ExtractFault.{ExtractFault}
use Rattle.audit.specs.declared.fault.ExtractFault.TheVariants.{NotAuditor, Range, Memory, Store, Write}

abbrev pub number_of : ExtractFault → ℕ
number_of NotAuditor = 1
number_of Range = 2
number_of Memory = 3
number_of Store = 4
number_of Write = 5

abbrev pub fault_of : StoreFault → ExtractFault
fault_of store.Memory = Memory
fault_of store.Database = Store
fault_of store.NotOurs = Store
fault_of store.Full = Store
fault_of store.Backwards = Store

-- the store's count of faults: one more after its refusal, else the same
abbrev pub count_after : ExtractFault → ℕ → ℕ
count_after NotAuditor n = n
count_after Range n = n
count_after Memory n = n
count_after Store n = wrapping_add n 1
count_after Write n = n
