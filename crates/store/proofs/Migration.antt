-- A migration of the tables, as the store tells it.
use Rattle.book.specs.declared.fault.StoreFault.TheVariants.{Database, NotOurs}
use Rattle.store.proofs.Words.{Err, Ok, Result, State, inl, inr, opening_fault_of, refl, ◌≡◌}
use Rattle.tables.specs.{Migration.Migrates, declared.fault.OpenFault.OpenFault}
use Rattle.store.specs.{Files.LeavesOrMigrates, TablesOf.tables_of}
use Rattle.tables.specs.declared.fault.OpenFault.TheVariants as opening

pub migrated_as : {E F : Type 0} (old new : State) → Migrates {E = E} old new (Ok tt) → Migrates {E = F} old new (Ok tt)
migrated_as old new m = record {
  clean = m.clean;
  reopens = m.reopens;
  opened = m.opened;
  ok = m.ok;
  done = m.done;
  err = m.err;
  crash = m.crash;
  same = m.same;
  usable = m.usable;
}

pub refused_as : {E F : Type 0} (e : E) (f : F) (old new : State) → Migrates {E = E} old new (Err e)
    → Migrates {E = F} old new (Err f)
refused_as e f old new m = record {
  clean = m.clean;
  reopens = m.reopens;
  opened = m.opened;
  ok = m.ok;
  done = m.done;
  err = m.err;
  crash = m.crash;
  same = m.same;
  usable = m.usable;
}

-- what a stop may leave of the tables of a history
pub histories_left : {E : Type 0} (old new : State) (r : Result (Unit {0}) E) → Migrates old new r
    → LeavesOrMigrates old new
histories_left old new r m clean db may = elim (m.crash clean db may) [
  | inl before ↦ inl before
  | inr now ↦ inr (λ v b found. now v (tables_of b) found)
]

pub told_not_ours : (fault : OpenFault) → opening_fault_of fault ≡ NotOurs → fault ≡ opening.NotOurs
told_not_ours opening.Memory is = absurd (let apart = is in cc)
told_not_ours opening.Database is = absurd (let apart = is in cc)
told_not_ours opening.NotOurs is = refl

pub told_database : (fault : OpenFault) → opening_fault_of fault ≡ Database → fault ≡ opening.Database
told_database opening.Memory is = absurd (let apart = is in cc)
told_database opening.Database is = refl
told_database opening.NotOurs is = absurd (let apart = is in cc)
