-- The database's errors as refusals of calls on the tables, and these as those of a book.
use Rattle.sqlite.specs.declared.error.Error.{Error}
use Rattle.sqlite.specs.declared.error.Error.TheVariants.{SqliteFailure, SqlInputError}
use Rattle.sqlite.specs.declared.error.ErrorCode.TheVariants as code
use Rattle.tables.specs.declared.fault.TableFault.{TableFault}
use Rattle.tables.specs.{declared.fault.OpenFault.OpenFault, declared.fault.Task.Task}
use Rattle.tables.specs.declared.fault.TableFault.TheVariants as table
use Rattle.tables.specs.declared.fault.OpenFault.TheVariants as opening
use Rattle.tables.specs.declared.fault.Task.TheVariants as task
use Rattle.book.specs.declared.fault.StoreFault.{StoreFault}
use Rattle.book.specs.declared.fault.StoreFault.TheVariants.{Memory, Database, NotOurs}

abbrev pub fault_of : TableFault → StoreFault
fault_of table.Memory = Memory
fault_of table.Database = Database

abbrev pub opening_fault_of : OpenFault → StoreFault
opening_fault_of opening.Memory = Memory
opening_fault_of opening.Database = Database
opening_fault_of opening.NotOurs = NotOurs

-- an error as a refusal, by what was done: want of memory is told of the database's own alone; files that hold no
-- database are another's, and so are a name that is taken and a statement that isn't understood where tables are made
abbrev pub told : Error → Task → OpenFault
told (SqliteFailure code.OutOfMemory) _ = opening.Memory
told (SqliteFailure code.NotADatabase) task.Open = opening.NotOurs
told (SqliteFailure code.NameTaken) task.Make = opening.NotOurs
told (SqlInputError f) task.Make = opening.NotOurs
told _ _ = opening.Database

-- where tables are used there are no others
abbrev pub used : OpenFault → TableFault
used opening.Memory = table.Memory
used _ = table.Database

abbrev pub told_using : Error → TableFault
told_using error = used (told error task.Use)
