-- What an opening finds in its files.
use Rattle.std.proofs.Math.Logic.{∥∥₁_elim}
use Rattle.sqlite_trees.specs.Props.{Trees-set}
use Rattle.sqlite_disk.specs.declared.Disk.{Ghosts}
use Rattle.store.proofs.Words.{Database, IsDatabase, IsDatabaseOf, IsStored, Tables, ap, file_state, subst, sym, ◌∙◌}
use Rattle.store.proofs.Words.{◌≡◌}
use Rattle.store.specs.{Stops.FindsWhatIsHeld, TablesOf.tables_of}

pub finds_what_is_held : {D : Type 0} (files : Ghosts D)
    → ((t : Tables) (d : Database) → IsDatabase d → IsStored t d.trees → IsDatabaseOf t d) → FindsWhatIsHeld files
finds_what_is_held files found b sound held (db, stored, holds) opened opens =
    let s = file_state opens.was in
    let fresh = opens.opened.0 in
    let live = (opens.opened.1 fresh.is_open).0 in
    let reads : s.committed.trees ≡ db = ∥∥₁_elim holds (Trees-set _ _) (opens.found.holds db) in
    let same : s.now.trees ≡ db = ap (λ (d : Database). d.trees) fresh.clean ∙ reads in
    opens.stands b sound
    (found (tables_of b) s.now live (subst (IsStored (tables_of b)) (sym same) stored), fresh.clean, live)
