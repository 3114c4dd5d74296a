-- A transaction that ends in a commit.
use Rattle.tables.proofs.Words.{Database, Err, Error, FailsToCommit, Ghosts, HasCleanDisk, Held, IfErr, IsDatabase}
use Rattle.tables.proofs.Words.{IsSound, IsTrue, KeepsCommit, KeepsCounts, Ok, OnErr, OnOk, Result, Shows, State}
use Rattle.tables.proofs.Words.{Survives, [], arith, false, inl, inr, refl, state, subst, sym, true, ◌∙◌, ◌≡◌}
use Rattle.tables.proofs.UsableLemmas.{survivor_usable, usable_in_turn}
use Rattle.tables.specs.Transaction.{CarriesFrom, CommitsFrom, GoesFrom}
use Rattle.tables.specs.{Layout.IsDatabaseOf, Layout.IsStored, QueryAnswers.StaysUsable, Tables.Tables}

-- a sound database of the tables lists our schema
pub stored : (t : Tables) (d : Database) → IsDatabaseOf t d → IsDatabase d → IsStored t d.trees
stored t d is sound = record { holds = is.holds; listed = subst (λ s. IsSound s d.trees) is.schema sound }

-- how a commit ends
abbrev pub EndsWell : State → State → Result (Unit {0}) Error → Type 0
EndsWell mid last r =
    OnOk r (IsTrue mid.in_transaction × Shows mid last mid.now mid.now false × KeepsCounts mid last × (last.marks ≡ []))

module _ {S X : Type 0} (g : Ghosts S) (Before : Tables → Database → Type 0) (Known : Type 0) (step : Tables → Tables)
    (old mid last : Held S) (x : X)
    (carries : CarriesFrom Before Known step (state g (record old { in_transaction = true })) (state g mid)
    (Ok x)) where
  module _ (survives : Survives (state g mid) (state g last) (λ db. db ≡ (state g mid).now.trees)) where
    middle : HasCleanDisk (state g last) → HasCleanDisk (state g mid)
    middle clean = omega (arith, survives.clean)

    went : HasCleanDisk (state g last)
        → GoesFrom Before Known step (state g (record old { in_transaction = true })) (state g mid)
    went clean = carries.ok (middle clean) refl

    kept : HasCleanDisk (state g last) → KeepsCommit (state g (record old { in_transaction = true })) (state g mid)
    kept clean = carries.kept (middle clean) refl

    reopened : (r : Result (Unit {0}) Error) → EndsWell (state g mid) (state g last) r
        → IfErr r (FailsToCommit (state g mid) (state g last)) → IsTrue (state g last).is_open
        → IsTrue (state g mid).is_open
    reopened (Ok u) ok err is_open = ok.1.was_open
    reopened (Err e) ok (inl fails) is_open = fails.3.was_open is_open
    reopened (Err e) ok (inr late) is_open = late.2.0.was_open

    opened : (r : Result (Unit {0}) Error) → HasCleanDisk (state g last) → EndsWell (state g mid) (state g last) r
        → OnOk r (IsTrue (state g old).is_open × IsTrue (state g last).is_open)
    opened (Ok u) clean ok = ((kept clean).was_open ok.1.was_open, ok.1.is_open)
    opened (Err e) clean ok = tt

    stepped : (r : Result (Unit {0}) Error) → HasCleanDisk (state g last) → EndsWell (state g mid) (state g last) r
        → (t : Tables) → Before t (state g old).now
        → OnOk r (IsDatabaseOf (step t) (state g last).now × ((state g last).now ≡ (state g last).committed)
        × IsDatabase (state g last).now)
    stepped (Ok u) clean ok t d = (
      subst (IsDatabaseOf (step t)) (sym ok.1.now_is) ((went clean).goes t d),
      ok.1.now_is ∙ sym ok.1.committed_is,
      subst IsDatabase (sym ok.1.now_is) ((went clean).sound t d),
    )
    stepped (Err e) clean ok t d = tt

    undone : (r : Result (Unit {0}) Error) → HasCleanDisk (state g last)
        → IfErr r (FailsToCommit (state g mid) (state g last)) → IsTrue (state g last).is_open
        → (state g old).now ≡ (state g old).committed
        → OnErr r (((state g last).now ≡ (state g old).now) × ((state g last).now ≡ (state g last).committed))
    undone (Ok u) clean err is_open settled = tt
    undone (Err e) clean (inl fails) is_open settled =
        let back = fails.3.undone is_open in
        let first = (kept clean).committed (fails.3.was_open is_open) in
        (back.0 ∙ first ∙ sym settled, back.0 ∙ sym back.1)
    undone (Err e) clean (inr late) is_open settled = absurd (let inside = (went clean).inside in
        let e' = sym inside ∙ late.1 in cc)

    usable : StaysUsable (state g (record old { in_transaction = true })) (state g last)
    usable =
        usable_in_turn _ (state g mid) (state g last) middle (survivor_usable _ (state g mid) _ carries.survives)
        (survivor_usable (state g mid) (state g last) _ survives)

    pub committed : (r : Result (Unit {0}) Error)
        → (HasCleanDisk (state g last) → EndsWell (state g mid) (state g last) r)
        → (HasCleanDisk (state g last) → IfErr r (FailsToCommit (state g mid) (state g last)))
        → CommitsFrom Before Known step (state g old) (state g last) r
    committed r ok err = record {
      clean = λ clean. omega (arith, survives.clean, carries.survives.clean);
      reopens = λ clean is_open. (kept clean).was_open (reopened r (ok clean) (err clean) is_open);
      opened = λ clean. opened r clean (ok clean);
      ok = λ clean t d. stepped r clean (ok clean) t d;
      err = λ clean is_open settled. undone r clean (err clean) is_open settled;
      crash = λ clean db leaves. elim (survives.crash clean db leaves) [
        | inl before ↦ elim (carries.survives.crash (middle clean) db before)
            [ inl first ↦ inl first | inr none ↦ absurd none ]
        | inr now ↦ inr (
          (went clean).was_open,
          λ t d. subst (IsStored (step t)) (sym now)
              (stored (step t) (state g mid).now ((went clean).goes t d) ((went clean).sound t d)),
        )
      ];
      usable = record { counts = usable.counts; stays = usable.stays; limit = usable.limit };
    }
