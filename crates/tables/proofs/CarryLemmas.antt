-- A statement that is run inside a transaction, from what it makes of the tables.
use Rattle.tables.proofs.Words.{Command, Database, Does, Err, Error, ExecutesInside, HasCleanDisk, IsDatabase, IsPlain}
use Rattle.tables.proofs.Words.{IsRolledBack, IsTrue, IsUnchanged, KeepsCommit, List, None, Ok, OnOk, Option, Result}
use Rattle.tables.proofs.Words.{Row, Runs, State, Survives, Tally, Trees, Writes, command_of, inl, inr, runs_as}
use Rattle.tables.proofs.Words.{statement_of, subst, understood, unwrap_or, ℕ, ◌≡◌}
use Rattle.tables.proofs.WriteLemmas.{plain_mode}
use Rattle.tables.specs.Transaction.{Carries, Goes}
use Rattle.tables.specs.{Layout.Holds, Layout.IsDatabaseOf, Schema.the_schema, Tables.Tables}

pub keeps_unchanged : (old new : State) → IsUnchanged old new → KeepsCommit old new
keeps_unchanged old new h = record { was_open = λ _. h.0.was_open; committed = λ _. h.0.committed_is }

pub keeps_undone : (old new : State) → IsRolledBack old new → KeepsCommit old new
keeps_undone old new h = record { was_open = h.was_open; committed = λ is_open. (h.undone is_open).1 }

pub kept_inside : (sql : List ℕ) (params : Row) (old new : State) (result : Result ℕ Error)
    → ExecutesInside 0 sql params old new result → KeepsCommit old new
kept_inside sql params old new (Ok count) h = record { was_open = λ _. h.1.was_open; committed = λ _. h.1.committed_is }
kept_inside sql params old new (Err e) (inl (ran, inl same)) = keeps_unchanged old new same
kept_inside sql params old new (Err e) (inl (ran, inr undone)) = keeps_undone old new undone
kept_inside sql params old new (Err e) (inr h) = keeps_unchanged old new h.2

-- what a command makes of the tables, however it came to be run
abbrev pub Makes : Command → Row → (Tables → Tables) → Type 0
Makes command params step =
    (limit : Option ℕ) (text : List ℕ) (t : Tables) (db : Trees) (out : Tally × Database) → Holds t db
    → Does limit plain_mode params (record { schema = the_schema; trees = db }) text None command (Ok out)
    → IsDatabaseOf (step t) out.1

-- a statement, as our schema has its text
pub record Says (sql : List ℕ) (command : Command) : Type 0 where
  pub is : command_of (understood the_schema sql) ≡ command
  pub plain : IsPlain (understood the_schema sql)

-- a statement with these parameters takes a step, wherever it is run inside a transaction
abbrev pub Steps : List ℕ → Row → (Tables → Tables) → Type 1
Steps sql params step =
    (old new : State) (result : Result ℕ Error) → Survives old new (λ _. ⊥) → (given : Row) → given ≡ params
    → (HasCleanDisk new → IsTrue old.in_transaction → ExecutesInside 0 sql given old new result)
    → Carries step old new result

module _ {sql : List ℕ} {command : Command} (says : Says sql command) (params : Row)
    (writes : (old new : State) (text : List ℕ) (count : ℕ) → Runs old new None command text params count
    → Writes old new None command text params count) where
  -- what it did, under the schema
  pub did : (old new : State) (count : ℕ) → old.now.schema ≡ the_schema → ExecutesInside 0 sql params old new (Ok count)
      → (tally : Tally) × (text : List ℕ)
      × Does old.step_limit plain_mode params (record { schema = the_schema; trees = old.now.trees }) text None command
      (Ok (tally, new.now)) × (count ≡ unwrap_or tally.rows 0) × IsDatabase new.now
  did old new count has h =
      let text = statement_of sql (understood the_schema sql) in
      let w = writes old new text count
      (runs_as sql params old new the_schema has command says.is says.plain count h.0) in (
        w.tally,
        text,
        subst (λ s. Does old.step_limit plain_mode params (record { schema = s; trees = old.now.trees })
            text None command (Ok (w.tally, new.now))) has w.changed,
        w.counted,
        w.sound,
      )

  pub carried : (step : Tables → Tables) → Makes command params step → Steps sql params step
  carried step makes old new result survives given same ran = record {
    survives = survives;
    kept = λ clean inside. kept_inside sql params old new result (runs clean inside);
    ok = λ clean inside. went result (runs clean inside);
  }
    where
      runs : HasCleanDisk new → IsTrue old.in_transaction → ExecutesInside 0 sql params old new result
      runs = subst (λ ps. HasCleanDisk new → IsTrue old.in_transaction → ExecutesInside 0 sql ps old new result) same
          ran

      went : (r : Result ℕ Error) → ExecutesInside 0 sql params old new r → OnOk r (Goes step old new)
      went (Err e) h = tt
      went (Ok count) h = record {
        was_open = λ _. h.1.was_open;
        inside = h.1.mode;
        goes = λ t d. let it = did old new count d.database.schema h in
            makes old.step_limit it.1 t old.now.trees (it.0, new.now) d.database.holds it.2;
        sound = λ t d. (did old new count d.database.schema h).4;
      }
