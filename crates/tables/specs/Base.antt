-- What a connection with the count of its faults holds, and the words under which it keeps tables.
use Rattle.std.specs.Prelude.{◌≡◌, ℕ, false, IsTrue}
use Rattle.std.specs.Coded.{Coded, code_by, coded×, coded_ℕ}
use Rattle.std.proofs.Common.{refl}
use Rattle.sqlite.specs.{Held.Held, Held.held_code, Held.state, Effect.IsDatabase, State.State, State.HasCleanDisk}
use Rattle.sqlite_trees.specs.{Tree.Trees, declared.store.Store.Ghosts}
use Rattle.tables.specs.Tables.{Tables}
pub use Rattle.tables.specs.Layout.{IsStored, IsDatabaseOf}

pub record BaseValue (S : Type 0) : Type 0 where
  pub conn : Held S
  pub faults : ℕ

abbrev pub base_code : {S : Type 0} → Coded S → Coded (BaseValue S)
base_code {S} store =
    code_by (Held S × ℕ) (coded× (held_code store) coded_ℕ) (λ b. (b.conn, b.faults))
    (λ p. record { conn = p.0; faults = p.1 }) (λ _. refl)

-- what is seen and what was committed are these tables, and a crash leaves nothing else
pub record StandsFor (t : Tables) (s : State) : Type 0 where
  pub database : IsDatabaseOf t s.now
  pub sound : IsDatabase s.now
  pub settled : s.now ≡ s.committed
  pub autocommit : s.in_transaction ≡ false
  pub leaves : (db : Trees) → s.may_leave db → IsStored t db

-- the disk has returned what was written
abbrev pub IsHonest : {S : Type 0} → Ghosts S → BaseValue S → Type 0
IsHonest g k = HasCleanDisk (state g k.conn)

abbrev pub IsOpen : {S : Type 0} → Ghosts S → BaseValue S → Type 0
IsOpen g k = IsTrue (state g k.conn).is_open

abbrev pub Keeps : {S : Type 0} → Ghosts S → Tables → BaseValue S → Type 0
Keeps g t k = IsHonest g k → IsOpen g k → StandsFor t (state g k.conn)

-- what an opening after a crash at this moment may find
abbrev pub Recovers : {S : Type 0} → Ghosts S → BaseValue S → Trees → Type 0
Recovers g k = (state g k.conn).may_leave
