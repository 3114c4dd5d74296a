-- From one opening to the next: after a stop at any moment, and after a closing.
use Rattle.sqlite_disk.specs.declared.Disk.{Ghosts}
use Rattle.sqlite_wal.specs.Recovery.{Image}
use Rattle.sqlite_store.specs.declared.store.FileStore.{FileStore}
use Rattle.sqlite.specs.Files.{over_files}
use Rattle.tables.specs.Base.{BaseValue}
use Rattle.book.specs.{History.History, Sound.IsSound}
use Rattle.store.specs.{Files.OpensFound, Files.HoldsTables, Stands.Stands}

-- Whatever left the files as they are: a store that is opened over them stands for each sound history whose tables they
-- hold.
abbrev pub FindsWhatIsHeld : {D : Type 0} → Ghosts D → Type 0
FindsWhatIsHeld {D} files =
    (b : History) → IsSound b → (held : Image) → HoldsTables b held
    → (opened : BaseValue (FileStore D files)) → OpensFound held opened → Stands over_files b opened
