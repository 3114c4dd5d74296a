-- What is said of an answer, where there is a refusal: nothing.
use Rattle.tables.proofs.Words.{Err, Error, IfOk, IsErr, KeepsCommit, Ok, OnOk, Result, State, Survives, Trees, arith}
use Rattle.tables.proofs.Words.{inl, refl}
use Rattle.tables.specs.{Tables.Tables, Transaction.Carries}

pub no_answer : {A E : Type 0} (r : Result A E) (P : A → Type 0) → IsErr r → IfOk r P
no_answer (Ok a) P refused = absurd cc
no_answer (Err e) P refused = tt

pub no_success : {A E : Type 0} (r : Result A E) (P : Type 0) → IsErr r → OnOk r P
no_success (Ok a) P refused = absurd cc
no_success (Err e) P refused = tt

-- a statement that is refused takes any step
pub refused_carries : {X Y : Type 0} (step other : Tables → Tables) (old new : State) (r : Result X Error)
    (refused : Result Y Error) → Carries other old new r → IsErr refused → Carries step old new refused
refused_carries step other old new r (Ok y) c isnt = absurd cc
refused_carries step other old new r (Err e) c is =
    record { survives = c.survives; kept = c.kept; ok = λ clean inside. tt }

-- what is read of an answer changes nothing
pub read_carries : {X Y : Type 0} (step : Tables → Tables) (old new : State) (x : X) (r : Result Y Error)
    → Carries step old new (Ok x) → Carries step old new r
read_carries step old new x (Ok y) c = record { survives = c.survives; kept = c.kept; ok = c.ok }
read_carries step old new x (Err e) c = record { survives = c.survives; kept = c.kept; ok = λ clean inside. tt }

-- where nothing is run

pub survives_same : (s : State) (Commits : Trees → Type 0) → Survives s s Commits
survives_same s Commits = record {
  clean = omega arith;
  shield = λ shielded. shielded;
  counts = omega arith;
  limit = refl;
  closes = λ clean is_open. inl is_open;
  crash = λ clean db may. inl may;
}

pub keeps_same : (s : State) → KeepsCommit s s
keeps_same s = record { was_open = λ is_open. is_open; committed = λ is_open. refl }
