-- What a closed store leaves in its files.
use Rattle.sqlite_catalog.specs.Listing.{IsSound}
use Rattle.sqlite.specs.{Closing.HoldsAlone, Closing.IsCopied, Held.Held}
use Rattle.sqlite_disk.specs.declared.Disk.{Ghosts}
use Rattle.sqlite_store.specs.declared.store.FileStore.{FileStore}
use Rattle.sqlite_wal.specs.Reads.{AreClean}
use Rattle.store.proofs.Words.{BaseValue, Database, Err, Files, History, IfOk, Image, IsStored, Ok, Result, StoreFault}
use Rattle.store.proofs.Words.{Trees, file_state, over_files, subst, ◌≡◌}
use Rattle.store.specs.{Files.HasClosed, Files.KeepsAlone, Files.LeavesFiles, Stands.Stands, TablesOf.tables_of}

alone : (b : History) {db : Trees} {image : Image} → IsStored (tables_of b) db → HoldsAlone image db
    → KeepsAlone b image
alone b {db} stored held = ((db, stored, held.both), (db, stored, held.alone))

pub leaves_files : {D : Type 0} {g : Ghosts D} (store : BaseValue (FileStore D g)) (files : Files D) (b : History)
    → IsCopied store.conn files → Stands over_files b store
    → LeavesFiles g b files
leaves_files store files b copied s =
    let kept = s.kept copied.was_clean copied.was_open in
    let listed = subst (λ schema. IsSound schema (file_state store.conn).now.trees) kept.database.schema kept.sound in
    let holds = subst (λ (d : Database). IsStored (tables_of b) d.trees) kept.settled
    (record { holds = kept.database.holds; listed = listed }) in
    record {
      seen = alone b holds copied.seen;
      left = λ image may. alone b holds (copied.left image may);
    }

pub copied_of : {D : Type 0} {g : Ghosts D} (store : BaseValue (FileStore D g)) (conn : Held (FileStore D g))
    → conn ≡ store.conn → (done : Result (Files D) StoreFault) → HasClosed conn done
    → IfOk done (λ files. AreClean g files.log files.db → (b : History) → Stands over_files b store → LeavesFiles g b files)
copied_of store conn same (Ok files) closed =
    λ clean b s. leaves_files store files b (subst (λ c. IsCopied c files) same (closed clean)) s
copied_of store conn same (Err fault) closed = tt
