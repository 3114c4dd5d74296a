-- What a commit makes of a connection that keeps tables.
use Rattle.book.specs.History.{Entry}
use Rattle.tables.proofs.Words.{Database, Err, Error, Ghosts, HasCleanDisk, Held, IsDatabase, IsTrue, List, Ok, OnErr}
use Rattle.tables.proofs.Words.{OnOk, Result, Trees, ap, false, inl, inr, state, subst, sym, ◌∙◌, ◌≡◌, ◌⊎◌}
use Rattle.tables.proofs.CommitLemmas.{stored}
use Rattle.tables.specs.Layout.{IsDatabaseOf, IsStored}
use Rattle.tables.specs.{Base.StandsFor, Changes.applied_all, QueryAnswers.Looks, Schema.no_schema, Tables.Tables}
use Rattle.tables.specs.{Tables.no_rows, Transaction.Commits, Versions.Creates, Versions.IsFound}

-- a crash leaves the last commit of an open store
abbrev pub IsSettled : {S : Type 0} → Ghosts S → Type 0
IsSettled {S} g = (s : S) (db : Trees) → IsTrue (g.view s).is_open → g.recovers s db → db ≡ (g.view s).committed

pub stands : {S : Type 0} (g : Ghosts S) → IsSettled g → (h : Held S) (t : Tables) → h.in_transaction ≡ false
    → IsTrue (state g h).is_open → (state g h).now ≡ (state g h).committed
    → IsDatabaseOf t (state g h).now → IsDatabase (state g h).now → StandsFor t (state g h)
stands g settled h t closed is_open same d sound = record {
  database = d;
  sound = sound;
  settled = same;
  autocommit = closed;
  leaves = λ db may. subst (IsStored t) (ap (λ (x : Database). x.trees) same ∙ sym (settled h.store db is_open may))
      (stored t (state g h).now d sound);
}

module _ {S X : Type 0} (g : Ghosts S) (settled : IsSettled g) (step : Tables → Tables) (old new : Held S)
    (closed : new.in_transaction ≡ false) (t : Tables)
    (keeps : HasCleanDisk (state g old) → IsTrue (state g old).is_open → StandsFor t (state g old)) where
  pub keeps_on : (r : Result X Error) → Commits step (state g old) (state g new) r
      → OnOk r (HasCleanDisk (state g new) → IsTrue (state g new).is_open → StandsFor (step t) (state g new))
  keeps_on (Err e) c = tt
  keeps_on (Ok x) c = λ clean is_open.
      let s = keeps (c.clean clean) (c.opened clean).0 in
      let now = c.ok clean t (record { database = s.database; sound = s.sound }) in
      stands g settled new (step t) closed is_open now.1 now.0 now.2

  pub keeps_still : (r : Result X Error) → Commits step (state g old) (state g new) r
      → OnErr r (HasCleanDisk (state g new) → IsTrue (state g new).is_open → StandsFor t (state g new))
  keeps_still (Ok x) c = tt
  keeps_still (Err e) c = λ clean is_open.
      let s = keeps (c.clean clean) (c.reopens clean is_open) in
      let now = c.err clean is_open s.settled in
      stands g settled new t closed is_open now.1 (subst (IsDatabaseOf t) (sym now.0) s.database)
      (subst IsDatabase (sym now.0) s.sound)

pub crash_leaves : {S X : Type 0} (g : Ghosts S) (step : Tables → Tables) (old new : Held S) (r : Result X Error)
    → Commits step (state g old) (state g new) r → HasCleanDisk (state g new)
    → (db : Trees) → (state g new).may_leave db
    → (state g old).may_leave db
    ⊎ ((t : Tables) → (HasCleanDisk (state g old) → IsTrue (state g old).is_open → StandsFor t (state g old))
    → IsStored (step t) db)
crash_leaves g step old new r c clean db may = elim (c.crash clean db may) [
  | inl before ↦ inl before
  | inr now ↦ inr (λ t keeps. let s = keeps (c.clean clean) (now.0 tt) in
      now.1 t (record { database = s.database; sound = s.sound }))
]

pub created_keeps : {S : Type 0} (g : Ghosts S) → IsSettled g → (entries : List Entry) (old new : Held S)
    → new.in_transaction ≡ false
    → Creates entries (state g old) (state g new) (Ok tt) → (state g old).now.schema ≡ no_schema
    → HasCleanDisk (state g new) → IsTrue (state g new).is_open
    → StandsFor (applied_all entries no_rows) (state g new)
created_keeps g settled entries old new closed c has clean is_open = let now = c.ok clean no_rows has in
    stands g settled new (applied_all entries no_rows) closed is_open now.1 now.0 now.2

pub adopted_keeps : {S : Type 0} (g : Ghosts S) → IsSettled g → (old new : Held S) → new.in_transaction ≡ false
    → Looks (state g old) (state g new) → (t : Tables) → IsFound t (state g old)
    → HasCleanDisk (state g new) → IsTrue (state g new).is_open → StandsFor t (state g new)
adopted_keeps g settled old new closed looks t found clean is_open =
    let now = looks.kept clean is_open found.1 in
    stands g settled new t closed is_open now.1 (subst (IsDatabaseOf t) (sym now.0) found.0)
    (subst IsDatabase (sym now.0) found.2)
