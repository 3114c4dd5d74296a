-- The step of each statement, of which an entry may take several.
use Rattle.std.specs.Prelude.{◌≡◌, false, ℕ, List, ◌∷◌, map, Result, OnOk, IfErr, IsTrue}
use Rattle.sqlite.specs.State.{State, HasCleanDisk, Survives, KeepsCommit}
use Rattle.sqlite.specs.{Effect.Database, Effect.IsDatabase, declared.error.Error.Error}
use Rattle.book.specs.Readers.{Reader}
use Rattle.tables.specs.Versions.{tells_taken}
use Rattle.tables.specs.Tables.{Tables, StampRow, raised_row, with_one_more, changed_right}

abbrev pub with_stamp_alone : StampRow → Tables → Tables
with_stamp_alone row t = record t { stamps = row ∷ t.stamps }

abbrev pub with_raised : List ℕ → ℕ → Tables → Tables
with_raised account day t = record t { tallies = map (raised_row account day) t.tallies }

abbrev pub with_first_tally : List ℕ → ℕ → Tables → Tables
with_first_tally account day t = record t { tallies = record { account = account; day = day; count = 1 } ∷ t.tallies }

abbrev pub with_count : List ℕ → ℕ → Tables → Tables
with_count account day t = record t { tallies = with_one_more account day t.tallies }

abbrev pub with_right_alone : ℕ → Reader → Tables → Tables
with_right_alone serial reader t =
    changed_right reader (λ name rows. record { serial = serial; name = name } ∷ rows) t

-- ---- a step of a migration, from what is known of the tables before to what is known of them then

module _ (Before After : Tables → Database → Type 0) where
  pub record IsLed (old new : State) : Type 0 where
    pub was_open : IsTrue old.is_open
    pub inside : IsTrue new.in_transaction
    pub goes : (t : Tables) → Before t old.now → After t new.now
    pub sound : (t : Tables) → Before t old.now → IsDatabase new.now

  pub record LeadsOn {X : Type 0} (old new : State) (result : Result X Error) : Type 0 where
    pub survives : Survives old new (λ _. ⊥)
    pub kept : HasCleanDisk new → IsTrue old.in_transaction → KeepsCommit old new
    pub ok : HasCleanDisk new → IsTrue old.in_transaction → OnOk result (IsLed old new)
    -- it isn't refused for a name
    pub untaken : HasCleanDisk new → IsTrue old.in_transaction
        → IfErr result (λ e. (t : Tables) → Before t old.now → tells_taken e ≡ false)
