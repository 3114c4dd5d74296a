-- A store over files, as a book.
use Rattle.sqlite_disk.specs.declared.Disk.{Ghosts as Disk}
use Rattle.sqlite_store.specs.declared.store.FileStore.{FileStore}
use Rattle.sqlite.specs.Files.{over_files}
use Rattle.tables.specs.Base.{BaseValue}
use Rattle.store.specs.Stands.{over_tables, Stands as StoreStands}
use Rattle.book.specs.{History.History, Stands.Stands}

-- one that stands for a history is a book that does
pub stands_as_book : {D : Type 0} (disk : Disk D) (b : History) (store : BaseValue (FileStore D disk))
    → StoreStands over_files b store → Stands (over_tables over_files) b store
stands_as_book disk b store s = record {
  sound = s.sound;
  kept = s.kept;
  settled = λ honest is_open left leaves. (s.kept honest is_open).leaves left leaves;
}
