-- From the clauses of the tables to those of a book.
use Rattle.store.proofs.Words.{Appends, BaseValue, Entry, Err, FitInTurn, Ghosts, History, IfOk, IfOk-weaker, IsErr}
use Rattle.store.proofs.Words.{IsHonest, IsOpen, IsSound, IsStored, Keeps, LeavesOrAddsAll, List, LooksUp, Ok}
use Rattle.store.proofs.Words.{OnlyLooks, OnlyReads, Recovers, Result, Stands, StoreFault, TableFault, Tables, Trees}
use Rattle.store.proofs.Words.{[], ap, applied_all, count_after, inl, inr, refl, sound_all, subst, sym, with_all, ◌∙◌}
use Rattle.store.proofs.{Words.◌∷◌, Words.◌≡◌, Words.◌⊎◌, Replayed.replayed_is}
use Rattle.store.specs.{Stands.over_tables, TablesOf.tables_of, auxiliary.Replay.replayed}

-- a store that keeps the tables of a sound history
pub stands_for : {S : Type 0} (g : Ghosts S) (b : History) (store : BaseValue S) → IsSound b
    → Keeps g (tables_of b) store → Stands (over_tables g) b store
stands_for g b store sound kept = record {
  sound = sound;
  kept = kept;
  settled = λ honest is_open left leaves. (kept honest is_open).leaves left leaves;
}

pub looks : {S : Type 0} (g : Ghosts S) (old new : BaseValue S) → OnlyReads g old new
    → OnlyLooks (over_tables g) old new
looks g old new reads = record {
  honest = reads.honest;
  stands = λ b s. stands_for g b new s.sound (reads.kept (tables_of b) s.kept);
  leaves = reads.leaves;
}

-- what a store's own field says is said of the store
pub looks_now : {S : Type 0} (g : Ghosts S) (seen old new : BaseValue S) → seen ≡ old → OnlyReads g seen new
    → OnlyLooks (over_tables g) old new
looks_now g seen old new e reads = subst (λ v. OnlyLooks (over_tables g) v new) e (looks g seen new reads)

-- two look-ups, one after the other
pub looks_twice : {S : Type 0} (g : Ghosts S) (seen old mid new : BaseValue S) → seen ≡ old → OnlyReads g seen mid
    → OnlyReads g mid new → OnlyLooks (over_tables g) old new
looks_twice g seen old mid new e first second =
    let one = looks_now g seen old mid e first in
    let two = looks g mid new second in record {
      honest = λ h. one.honest (two.honest h);
      stands = λ b s. two.stands b (one.stands b s);
      leaves = λ h db r. one.leaves (two.honest h) db (two.leaves h db r);
    }

kept_now : {S : Type 0} (g : Ghosts S) (seen old : BaseValue S) (b : History) → seen ≡ old
    → Stands (over_tables g) b old
    → Keeps g (tables_of b) seen
kept_now g seen old b e s = subst (λ v. Keeps g (tables_of b) v) (sym e) s.kept

-- the same, as the look-ups' lemmas have the tables
pub kept_seen : {S : Type 0} (g : Ghosts S) (seen old : BaseValue S) (b : History) → seen ≡ old
    → Stands (over_tables g) b old
    → Keeps g (replayed b) seen
kept_seen g seen old b e s = subst (λ t. Keeps g t seen) (sym (replayed_is b s.sound)) (kept_now g seen old b e s)

-- what is said of an answer, said otherwise
pub looks_up_as : {S X : Type 0} (g : Ghosts S) (P Q : Tables → X → Type 0) (old new : BaseValue S)
    (result : Result X TableFault) → ((t : Tables) (x : X) → P t x → Q t x) → LooksUp g P old new result
    → LooksUp g Q old new result
looks_up_as g P Q old new result says looks = record {
  reads = looks.reads;
  opened = looks.opened;
  value = λ honest t kept. IfOk-weaker result _ _ (says t) (looks.value honest t kept);
  counted = looks.counted;
  uncounted = looks.uncounted;
}

-- of what is made of the answer
pub looks_up_with : {S X Y : Type 0} (g : Ghosts S) (P : Tables → X → Type 0) (Q : Tables → Y → Type 0)
    (old new : BaseValue S) (x : X) (y : Y) → ((t : Tables) → P t x → Q t y) → LooksUp g P old new (Ok x)
    → LooksUp g Q old new (Ok y)
looks_up_with g P Q old new x y says looks = record {
  reads = looks.reads;
  opened = looks.opened;
  value = λ honest t kept. says t (looks.value honest t kept);
  counted = tt;
  uncounted = looks.uncounted;
}

-- a refusal is no answer
pub no_answer : {A E : Type 0} (r : Result A E) (P : A → Type 0) → IsErr r → IfOk r P
no_answer (Ok a) P refused = absurd cc
no_answer (Err e) P refused = tt

-- entries in turn lead from the tables of one history to those of the next
applied_replayed : (entries : List Entry) (b : History)
    → applied_all entries (replayed b) ≡ replayed (with_all entries b)
applied_replayed [] b = refl
applied_replayed (entry ∷ entries) b = applied_replayed entries (entry ∷ b)

pub tables_step : (entries : List Entry) (b : History) → IsSound b → FitInTurn entries b
    → applied_all entries (tables_of b) ≡ tables_of (with_all entries b)
tables_step entries b sound fit =
    ap (applied_all entries) (sym (replayed_is b sound)) ∙ applied_replayed entries b
    ∙ replayed_is (with_all entries b) (sound_all entries b sound fit)

-- what a commit of the tables may leave is what one of entries may
module _ {S : Type 0} (g : Ghosts S) (entries : List Entry) (seen old new : BaseValue S) (e : seen ≡ old)
    (honest : IsHonest g new → IsHonest g seen)
    (crash : IsHonest g new → (db : Trees) → Recovers g new db → Recovers g seen db
    ⊎ ((t : Tables) → Keeps g t seen → IsStored (applied_all entries t) db)) where
  leaves_all : LeavesOrAddsAll (over_tables g) entries seen new
  leaves_all h db r = elim (crash h db r) [
    | inl before ↦ inl before
    | inr adds ↦ inr (λ b s fit. subst (λ t. IsStored t db) (tables_step entries b s.sound fit)
        (adds (tables_of b) s.kept))
  ]

  pub appends : (IsHonest g new → IsOpen g seen × IsOpen g new)
      → ((t : Tables) → Keeps g t seen → Keeps g (applied_all entries t) new) → new.faults ≡ seen.faults
      → Appends {A = Unit {0}} (over_tables g) entries old new (Ok tt)
  appends opened ok faults = subst (λ v. Appends {A = Unit {0}} (over_tables g) entries v new (Ok tt)) e (record {
    honest = honest;
    opened = opened;
    ok = λ b s fit. stands_for g (with_all entries b) new (sound_all entries b s.sound fit)
        (subst (λ t. Keeps g t new) (tables_step entries b s.sound fit) (ok (tables_of b) s.kept));
    err = λ b s. tt;
    crash = leaves_all;
    faults = faults;
  })

  pub refused : (f : StoreFault) → ((t : Tables) → Keeps g t seen → Keeps g t new)
      → new.faults ≡ count_after f seen.faults → Appends {A = Unit {0}} (over_tables g) entries old new (Err f)
  refused f err faults = subst (λ v. Appends {A = Unit {0}} (over_tables g) entries v new (Err f)) e (record {
    honest = honest;
    opened = λ h. tt;
    ok = λ b s fit. tt;
    err = λ b s. stands_for g b new s.sound (err (tables_of b) s.kept);
    crash = leaves_all;
    faults = faults;
  })
