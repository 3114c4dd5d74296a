-- A query in a transaction, which goes on or is undone.
use Rattle.std.specs.Prelude.{Option}
use Rattle.tables.proofs.Words.{Compiled, Err, Error, Fails, FailsToQuery, FailsToShow, Ghosts, HasCleanDisk, Held}
use Rattle.tables.proofs.Words.{IfErr, IfOk, IsDatabase, IsNotRun, IsPlain, IsRolledBack, IsSome, IsTooLate, IsTrue}
use Rattle.tables.proofs.Words.{KeepsCommit, List, None, Ok, OnOk, Reads, RefusesToRead, Result, Returning, Row, Shown}
use Rattle.tables.proofs.Words.{ShowsRows, Some, SqliteFailure, State, Survives, ap, append-nil, arith, command_of, inl}
use Rattle.tables.proofs.Words.{inr, reads_as, refl, state, subst, sym, true, understood, ℕ, ◌∙◌, ◌≡◌, ◌≢◌, ◌≤◌, ◌⊎◌}
use Rattle.tables.proofs.CarryLemmas.{keeps_unchanged, keeps_undone}
use Rattle.tables.proofs.UsableLemmas.{survivor_usable, usable_in_turn}
use Rattle.tables.specs.QueryAnswers.{Answers, AsksInside, IsPlainIn, IsQueryText, Looks, StaysUsable, TellsRows}
use Rattle.tables.specs.Transaction.{Carries, Goes, IsSoundOf}
use Rattle.tables.specs.Versions.{HasFailed, IsRefused, IsUnanswered, IsUnderstood}
use Rattle.tables.specs.{Layout.IsDatabaseOf, Schema.the_schema, Tables.Tables}
use Rattle.sqlite.specs.declared.error.ErrorCode.TheVariants as code
use Rattle.sqlite_trees.specs.declared.error.StoreError.TheVariants as stored

-- a store that fails for another cause than memory was shut, or its disk failed or refused
pub fails_so : (old new : State) (e : Error) → e ≢ SqliteFailure code.OutOfMemory → Fails old new ⊥ e
    → HasFailed old new
fails_so old new e other (stored.OutOfMemory, is, why, back, tells) = absurd (other is)
fails_so old new e other (stored.Io, is, why, back, tells) = inr why
fails_so old new e other (stored.Corrupt, is, why, back, tells) = inr why
fails_so old new e other (stored.Full, is, why, back, tells) = inr why
fails_so old new e other (stored.Broken, is, why, back, tells) = inl why
fails_so old new e other (stored.Unstorable, is, why, back, tells) = absurd why

-- what failed before a later moment failed before that
pub failed_later : (old mid new : State) → mid.faults ≤ new.faults → HasFailed old mid → HasFailed old new
failed_later old mid new more (inl shut) = inl shut
failed_later old mid new more (inr failed) = inr (omega (arith, more, failed))

module _ (sql : List ℕ) (params : Row) (old new : State) where
  shows_keeps : (c : Compiled) (given : Row) (rows : List Row) (returning : Option Returning)
      → old.in_transaction ≡ true → ShowsRows old new sql c given rows returning
      → KeepsCommit old new
  shows_keeps c given rows None inside h = keeps_unchanged old new h.3
  shows_keeps c given rows (Some what) inside h =
      let is = h.1.shown.committed_is in
      record { was_open = λ _. h.1.shown.was_open; committed = λ _. rw inside at is }

  shows_opens : (c : Compiled) (given : Row) (rows : List Row) (returning : Option Returning)
      → ShowsRows old new sql c given rows returning → IsTrue old.is_open
  shows_opens c given rows None h = h.3.0.was_open
  shows_opens c given rows (Some what) h = h.1.shown.was_open

  shows_inside : (c : Compiled) (given : Row) (rows : List Row) (returning : Option Returning)
      → ShowsRows old new sql c given rows returning → new.in_transaction ≡ old.in_transaction
  shows_inside c given rows None h = h.3.0.mode
  shows_inside c given rows (Some what) h = h.1.shown.mode

  fails_shows : (c : Compiled) (given : Row) (e : Error) (returning : Option Returning)
      → FailsToShow old new sql c given e returning → KeepsCommit old new
  fails_shows c given e None h = keeps_unchanged old new h.3
  fails_shows c given e (Some what) (inl h) = keeps_unchanged old new h.1
  fails_shows c given e (Some what) (inr fails) = keeps_undone old new fails.3

  pub shown_keeps : (rows : List Row) → old.in_transaction ≡ true → Shown sql params old new rows → KeepsCommit old new
  unfolding Shown
  shown_keeps rows inside h = shows_keeps h.0 _ rows h.0.returning inside h.2

  pub shown_opens : (rows : List Row) → Shown sql params old new rows → IsTrue old.is_open
  unfolding Shown
  shown_opens rows h = shows_opens h.0 _ rows h.0.returning h.2

  pub shown_inside : (rows : List Row) → Shown sql params old new rows → new.in_transaction ≡ old.in_transaction
  unfolding Shown
  shown_inside rows h = shows_inside h.0 _ rows h.0.returning h.2

  pub shown_same : IsQueryText sql → old.now.schema ≡ the_schema → (rows : List Row) → Shown sql params old new rows
      → new.now ≡ old.now
  unfolding Shown
  shown_same text has rows h =
      let known = sym h.1.is ∙ ap (λ s. understood s sql) has in
      let bare = subst IsPlain (sym known) text.plain in
      (rw bare.0 at h.2).3.0.now_is

  pub fails_keeps : (e : Error) → FailsToQuery sql params old new e → KeepsCommit old new
  unfolding FailsToQuery IsNotRun
  fails_keeps e (inl (inl none)) = keeps_unchanged old new none.1
  fails_keeps e (inl (inr fails)) = keeps_undone old new fails.3
  fails_keeps e (inr h) = fails_shows h.0 _ e h.0.returning h.2

  pub late_keeps : (e : Error) → IsTooLate sql params old new e → KeepsCommit old new
  late_keeps e h = keeps_unchanged old new h.5

  pub shown_tells : IsQueryText sql → old.now.schema ≡ the_schema → (rows : List Row) → Shown sql params old new rows
      → TellsRows sql params old.now.trees rows
  shown_tells text has rows h =
      let it = reads_as sql params old new the_schema has (command_of (understood the_schema sql)) refl text.plain
      text.unlisted rows h in
      subst (λ s. Reads (command_of (understood the_schema sql)) (record { schema = s; trees = old.now.trees }) params
      rows) has it

  pub shown_answers : IsPlainIn old.now.schema sql → (rows : List Row) → Shown sql params old new rows
      → Answers sql params old.now rows
  unfolding Shown
  shown_answers plain rows h =
      let bare = plain h.0 h.1.is in
      let it = rw (bare.0, bare.1, append-nil params) at h.2 in
      (h.0, h.1.is, it.0, it.1, it.2)

  refuses : (plain : IsPlainIn old.now.schema sql) (e : Error) (c : Compiled) (given : Row)
      → understood old.now.schema sql ≡ Ok c → given ≡ params → (returning : Option Returning) → returning ≡ None
      → FailsToShow old new sql c given e returning → IsRefused sql params old
  refuses plain e c given is same None none h =
      (c, is, h.0, h.1, e, subst (λ p. RefusesToRead old.step_limit c.command h.0 p e) same h.2)
  refuses plain e c given is same (Some what) none h = absurd (let apart = none in cc)

  -- a query that fails for another cause than memory
  pub fails_unanswered : IsPlainIn old.now.schema sql → (e : Error) → e ≢ SqliteFailure code.OutOfMemory
      → FailsToQuery sql params old new e → IsUnanswered sql params old new
  unfolding FailsToQuery IsNotRun
  fails_unanswered plain e other (inl (inl (inl fault, same))) =
      inr (inl (λ known. subst IsUnderstood fault.1 known))
  fails_unanswered plain e other (inl (inl (inr (c, is, inl many), same))) = inr (inr (inl (c, is, inl many.0)))
  fails_unanswered plain e other (inl (inl (inr (c, is, inr (inl count)), same))) =
      inr (inr (inl (c, is, inr (inl count.0))))
  fails_unanswered plain e other (inl (inl (inr (c, is, inr (inr clock)), same))) =
      inr (inr (inl (c, is, inr (inr clock.0))))
  fails_unanswered plain e other (inl (inr fails)) = inl (fails_so old new e other fails)
  fails_unanswered plain e other (inr h) =
      let bare = plain h.0 h.1.is in
      inr (inr (inr (refuses plain e h.0 _ h.1.is (rw bare.1 (append-nil params)) h.0.returning bare.0 h.2)))

  pub late_unanswered : {X : Type 0} → IsPlainIn old.now.schema sql → (e : Error) → IsTooLate sql params old new e → X
  late_unanswered plain e (c, it, some, out, is, same) =
      absurd (let none = (plain c it.is).0 in let there = subst IsSome none some in cc)

-- a query in a transaction that goes on
module _ {R : Type 0} (items : R → List Row) (sql : List ℕ) (params : Row) (old new : State) (result : Result R Error)
    (ok : HasCleanDisk new → IfOk result (λ rows. Shown sql params old new (items rows)))
    (err : HasCleanDisk new → IfErr result (λ e. FailsToQuery sql params old new e ⊎ IsTooLate sql params old new e)) where
  keeps : (r : Result R Error) → old.in_transaction ≡ true → IfOk r (λ rows. Shown sql params old new (items rows))
      → IfErr r (λ e. FailsToQuery sql params old new e ⊎ IsTooLate sql params old new e) → KeepsCommit old new
  keeps (Ok rows) inside ok err = shown_keeps sql params old new (items rows) inside ok
  keeps (Err e) inside ok (inl fails) = fails_keeps sql params old new e fails
  keeps (Err e) inside ok (inr late) = late_keeps sql params old new e late

  opens : (r : Result R Error) → IfOk r (λ rows. Shown sql params old new (items rows)) → OnOk r (IsTrue old.is_open)
  opens (Ok rows) ok = shown_opens sql params old new (items rows) ok
  opens (Err e) ok = tt

  pub asked_inside : Survives old new (λ _. ⊥) → AsksInside old new result
  asked_inside survives = record {
    survives = survives;
    kept = λ clean inside. keeps result inside (ok clean) (err clean);
    opened = λ clean inside. opens result (ok clean);
  }

  went : IsQueryText sql → (r : Result R Error) → old.in_transaction ≡ true
      → IfOk r (λ rows. Shown sql params old new (items rows)) → OnOk r (Goes (λ t. t) old new)
  went text (Err e) inside ok = tt
  went text (Ok rows) inside shown =
      let same = λ (t : Tables) (d : IsSoundOf t old.now).
      shown_same sql params old new text d.database.schema (items rows) shown in
      record {
        was_open = λ _. shown_opens sql params old new (items rows) shown;
        inside = shown_inside sql params old new (items rows) shown ∙ inside;
        goes = λ t d. subst (IsDatabaseOf t) (sym (same t d)) d.database;
        sound = λ t d. subst IsDatabase (sym (same t d)) d.sound;
      }

  pub asked_carries : Survives old new (λ _. ⊥) → IsQueryText sql → Carries (λ t. t) old new result
  asked_carries survives text = record {
    survives = survives;
    kept = λ clean inside. keeps result inside (ok clean) (err clean);
    ok = λ clean inside. went text result inside (ok clean);
  }

  tells : IsQueryText sql → (r : Result R Error) → old.now.schema ≡ the_schema
      → IfOk r (λ rows. Shown sql params old new (items rows))
      → IfOk r (λ rows. TellsRows sql params old.now.trees (items rows))
  tells text (Ok rows) has ok = shown_tells sql params old new text has (items rows) ok
  tells text (Err e) has ok = tt

  pub asked_told : IsQueryText sql → HasCleanDisk new → old.now.schema ≡ the_schema
      → IfOk result (λ rows. TellsRows sql params old.now.trees (items rows))
  asked_told text clean has = tells text result has (ok clean)

  answers : (r : Result R Error) → IsPlainIn old.now.schema sql
      → IfOk r (λ rows. Shown sql params old new (items rows))
      → IfOk r (λ rows. Answers sql params old.now (items rows))
  answers (Ok rows) plain ok = shown_answers sql params old new plain (items rows) ok
  answers (Err e) plain ok = tt

  pub asked_answered : HasCleanDisk new → IsPlainIn old.now.schema sql
      → IfOk result (λ rows. Answers sql params old.now (items rows))
  asked_answered clean plain = answers result plain (ok clean)

  misses : (r : Result R Error) → IsPlainIn old.now.schema sql
      → IfErr r (λ e. FailsToQuery sql params old new e ⊎ IsTooLate sql params old new e)
      → IfErr r (λ e. e ≢ SqliteFailure code.OutOfMemory → IsUnanswered sql params old new)
  misses (Ok rows) plain err = tt
  misses (Err e) plain (inl fails) = λ other. fails_unanswered sql params old new plain e other fails
  misses (Err e) plain (inr late) = late_unanswered sql params old new plain e late

  pub asked_unanswered : HasCleanDisk new → IsPlainIn old.now.schema sql
      → IfErr result (λ e. e ≢ SqliteFailure code.OutOfMemory → IsUnanswered sql params old new)
  asked_unanswered clean plain = misses result plain (err clean)

-- one that is undone
module _ {S R : Type 0} (g : Ghosts S) (old mid last : Held S) (sql : List ℕ) (params : Row) (result : Result R Error)
    (first : AsksInside (state g (record old { in_transaction = true })) (state g mid) result)
    (then : Survives (state g mid) (state g last) (λ _. ⊥))
    (undone : HasCleanDisk (state g last) → IsRolledBack (state g mid) (state g last)) where
  middle : HasCleanDisk (state g last) → HasCleanDisk (state g mid)
  middle clean = omega (arith, then.clean)

  usable : StaysUsable (state g (record old { in_transaction = true })) (state g last)
  usable =
      usable_in_turn _ (state g mid) (state g last) middle (survivor_usable _ (state g mid) _ first.survives)
      (survivor_usable (state g mid) (state g last) _ then)

  pub looked : Looks (state g old) (state g last)
  looked = record {
    clean = λ clean. omega (arith, then.clean, first.survives.clean);
    reopens = λ clean is_open. (first.kept (middle clean) refl).was_open ((undone clean).was_open is_open);
    kept = λ clean is_open settled.
        let back = (undone clean).undone is_open in
        let before = (first.kept (middle clean) refl).committed ((undone clean).was_open is_open) in
        (back.0 ∙ before ∙ sym settled, back.0 ∙ sym back.1);
    leaves = λ clean db leaves. elim (then.crash clean db leaves) [
      | inl before ↦ elim (first.survives.crash (middle clean) db before) [
        | inl start ↦ start
        | inr none ↦ absurd none
      ]
      | inr none ↦ absurd none
    ];
    usable = record { counts = usable.counts; stays = usable.stays; limit = usable.limit };
  }

  pub was_opened : HasCleanDisk (state g last) → OnOk result (IsTrue (state g old).is_open)
  was_opened clean = first.opened (middle clean) refl

  later : IsUnanswered sql params (state g old) (state g mid) → IsUnanswered sql params (state g old) (state g last)
  later (inl failed) = inl (failed_later (state g old) (state g mid) (state g last) then.counts failed)
  later (inr why) = inr why

  missed : (r : Result R Error)
      → IfErr r (λ e. e ≢ SqliteFailure code.OutOfMemory → IsUnanswered sql params (state g old) (state g mid))
      → IfErr r (λ e. e ≢ SqliteFailure code.OutOfMemory → IsUnanswered sql params (state g old) (state g last))
  missed (Ok rows) why = tt
  missed (Err e) why = λ other. later (why other)

  pub still_unanswered : (HasCleanDisk (state g mid) → IsPlainIn (state g old).now.schema sql
      → IfErr result (λ e. e ≢ SqliteFailure code.OutOfMemory → IsUnanswered sql params (state g old) (state g mid)))
      → HasCleanDisk (state g last) → IsPlainIn (state g old).now.schema sql
      → IfErr result (λ e. e ≢ SqliteFailure code.OutOfMemory → IsUnanswered sql params (state g old) (state g last))
  still_unanswered why clean plain = missed result (why (middle clean) plain)
