-- Which histories a store stands for, and what its calls leave, said of the tables; and the store as a book.
use Rattle.sqlite_trees.specs.{Tree.Trees, declared.store.Store.Ghosts}
use Rattle.tables.specs.Base.{BaseValue, IsHonest, IsOpen, Keeps, Recovers, IsStored}
use Rattle.book.specs.{declared.standing.Standing.Ghosts as Standing, History.History, Sound.IsSound}
use Rattle.store.specs.TablesOf.{tables_of}

-- the history is sound, and while the connection is open and its disk returns what was written, the database holds its
-- tables and a crash leaves nothing else
pub record Stands {S : Type 0} (g : Ghosts S) (b : History) (store : BaseValue S) : Type 0 where
  pub sound : IsSound b
  pub kept : Keeps g (tables_of b) store

-- a look-up: the store stands for what it stood for, and a crash leaves what it could leave before
pub record OnlyLooks {S : Type 0} (g : Ghosts S) (old new : BaseValue S) : Type 0 where
  pub honest : IsHonest g new → IsHonest g old
  pub stands : (b : History) → Stands g b old → Stands g b new
  pub leaves : IsHonest g new → (db : Trees) → Recovers g new db → Recovers g old db

-- what is known of the store as a book
abbrev pub over_tables : {S : Type 0} → Ghosts S → Standing (BaseValue S)
over_tables g = record {
  honest = IsHonest g;
  is_open = IsOpen g;
  keeps = λ store b. Keeps g (tables_of b) store;
  Left = Trees;
  leaves = Recovers g;
  holds = λ db b. IsStored (tables_of b) db;
  fault_count = λ store. store.faults;
}
