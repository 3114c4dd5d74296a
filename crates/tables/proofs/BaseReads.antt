-- What a query makes of a connection that keeps tables, and what a look-up tells by it.
use Rattle.tables.proofs.Words.{Err, Ghosts, IfOk, IsDatabase, IsErrAnd, Ok, Result, arith, false, inl, refl, state}
use Rattle.tables.proofs.{Words.subst, Words.sym, Words.◌≡◌, UsableLemmas.usable_in_turn}
use Rattle.tables.specs.{Base.BaseValue, Changes.IsCounted, Layout.IsDatabaseOf, Queries.LooksUp, Queries.OnlyReads}
use Rattle.tables.specs.{QueryAnswers.Looks, Tables.Tables, declared.fault.TableFault.TableFault}

-- it leaves what the tables are
pub reads_only : {S : Type 0} (g : Ghosts S) (old new : BaseValue S) → new.conn.in_transaction ≡ false
    → Looks (state g old.conn) (state g new.conn) → OnlyReads g old new
reads_only g old new closed looks = record {
  honest = looks.clean;
  kept = λ t keeps clean is_open.
      let s = keeps (looks.clean clean) (looks.reopens clean is_open) in
      let same = looks.kept clean is_open s.settled in
      record {
        database = subst (IsDatabaseOf t) (sym same.0) s.database;
        sound = subst IsDatabase (sym same.0) s.sound;
        settled = same.1;
        autocommit = closed;
        leaves = λ db may. s.leaves db (looks.leaves clean db may);
      };
  leaves = looks.leaves;
  usable = looks.usable;
}

module _ {S : Type 0} (g : Ghosts S) where
  pub reads_then : (old mid new : BaseValue S) → OnlyReads g old mid → OnlyReads g mid new → OnlyReads g old new
  reads_then old mid new first then = record {
    honest = λ honest. first.honest (then.honest honest);
    kept = λ t keeps. then.kept t (first.kept t keeps);
    leaves = λ honest db may. first.leaves (then.honest honest) db (then.leaves honest db may);
    usable = usable_in_turn (state g old.conn) (state g mid.conn) (state g new.conn) then.honest first.usable
        then.usable;
  }

  -- a connection that isn't asked
  reads_same : (old new : BaseValue S) → new.conn ≡ old.conn → OnlyReads g old new
  reads_same old new same = record {
    honest = rw same (λ honest. honest);
    kept = λ t. rw same (λ keeps. keeps);
    leaves = rw same (λ honest db may. may);
    usable = rw same (record { counts = omega arith; stays = λ honest is_open. inl is_open; limit = refl });
  }

  -- a fault after reading, or in place of it
  pub fault_told : {X : Type 0} (Tells : Tables → X → Type 0) (old mid new : BaseValue S) (e : TableFault)
      → OnlyReads g old mid → mid.faults ≡ old.faults → new.conn ≡ mid.conn → IsCounted e mid.faults new.faults
      → LooksUp g Tells old new (Err e)
  fault_told Tells old mid new e reads uncounted same counted = record {
    reads = reads_then old mid new reads (reads_same mid new same);
    opened = λ honest. tt;
    value = λ honest t keeps. tt;
    counted = subst (λ faults. IsCounted e faults new.faults) uncounted counted;
    uncounted = tt;
  }

  -- a refusal that is handed on
  handed_on : {X : Type 0} (Tells : Tables → X → Type 0) (old new : BaseValue S) (e : TableFault)
      (r : Result X TableFault) → IsErrAnd r (λ x. x ≡ e) → LooksUp g Tells old new (Err e) → LooksUp g Tells old new r
  handed_on Tells old new e (Ok x) same l = absurd same
  handed_on Tells old new e (Err x) same l = rw same l

  pub fault_alone : {X : Type 0} (Tells : Tables → X → Type 0) (old new : BaseValue S) (e : TableFault)
      (r : Result X TableFault) → IsErrAnd r (λ x. x ≡ e) → new.conn ≡ old.conn → IsCounted e old.faults new.faults
      → LooksUp g Tells old new r
  fault_alone Tells old new e r same unasked counted =
      handed_on Tells old new e r same
      (fault_told Tells old old new e (reads_same old old refl) refl unasked counted)

  -- a look-up tells something else
  pub retold : {X : Type 0} (Tells Says : Tables → X → Type 0) (old new : BaseValue S) (r : Result X TableFault)
      → ((t : Tables) (x : X) → Tells t x → Says t x) → LooksUp g Tells old new r → LooksUp g Says old new r
  retold {X} Tells Says old new r says l = record {
    reads = l.reads;
    opened = l.opened;
    value = λ honest t keeps. told r t (l.value honest t keeps);
    counted = l.counted;
    uncounted = l.uncounted;
  }
    where
      told : (r : Result X TableFault) (t : Tables) → IfOk r (Tells t) → IfOk r (Says t)
      told (Ok x) t is = says t x is
      told (Err e) t is = tt

  -- and of what it found something is read
  pub read_on : {X Y : Type 0} (Tells : Tables → X → Type 0) (Says : Tables → Y → Type 0) (old new : BaseValue S) (x : X)
      (y : Y) → ((t : Tables) → Tells t x → Says t y) → LooksUp g Tells old new (Ok x) → LooksUp g Says old new (Ok y)
  read_on Tells Says old new x y says l = record {
    reads = l.reads;
    opened = l.opened;
    value = λ honest t keeps. says t (l.value honest t keeps);
    counted = tt;
    uncounted = l.uncounted;
  }

  pub refused_too : {X Y : Type 0} (Tells : Tables → X → Type 0) (Says : Tables → Y → Type 0) (old new : BaseValue S)
      (e : TableFault) (r : Result Y TableFault) → IsErrAnd r (λ x. x ≡ e) → LooksUp g Tells old new (Err e)
      → LooksUp g Says old new r
  refused_too Tells Says old new e r same l = handed_on Says old new e r same (record {
    reads = l.reads;
    opened = λ honest. tt;
    value = λ honest t keeps. tt;
    counted = l.counted;
    uncounted = tt;
  })
