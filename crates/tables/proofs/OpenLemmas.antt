-- Whether tables are ours, and of which version.
use Rattle.sqlite_resolve.specs.Compile.{timed}
use Rattle.sqlite.specs.Outline.{Outline}
use Rattle.tables.proofs.Words.{Bool, Broken, Checked, Command, CompileError, Compiled, Corrupt, Database, Err, Error}
use Rattle.tables.proofs.Words.{Full, HasCleanDisk, IfErr, IfOk, Int, Io, IsNotRun, IsSourceOf, IsTrue, IsUnchanged}
use Rattle.tables.proofs.Words.{List, NoSuchTable, None, Ok, Option, OutOfMemory, Outlines, Parsed, Reads}
use Rattle.tables.proofs.Words.{RefusesToRead, Result, Returning, Row, Schema, Select, Some, SqlInputError}
use Rattle.tables.proofs.Words.{SqliteFailure, State, StoreError, Survives, Unstorable, [], and_then, ap, arith}
use Rattle.tables.proofs.Words.{cases_Bool, codes, col, command_of, compiled, everything, false, first, if_select, inl}
use Rattle.tables.proofs.Words.{inr, length, listing_schema, meaning, nat_le, one_permutation, planned, pos}
use Rattle.tables.proofs.Words.{reads_listing, refl, returning, small, store_error, subst, sym, true, understood}
use Rattle.tables.proofs.Words.{with_command, ℕ, ◌+◌, ◌↔◌, ◌∙◌, ◌∷◌, ◌≡◌, ◌≢◌, ◌≤◌}
use Rattle.tables.proofs.ReadLemmas.{answered, no_limit, passes, program_of, shows}
use Rattle.tables.proofs.{AskLemmas.fails_so, ChangeLemmas.found_are, UsableLemmas.survivor_usable, WriteLemmas.before}
use Rattle.tables.specs.Layout.{AreRows, IsDatabaseIn, version_cells}
use Rattle.tables.specs.QueryAnswers.{Answers, IsPlainIn, Looks, StaysUsable}
use Rattle.tables.specs.Versions.{HasFailed, IsKnownAs, IsRefused, IsUnanswered, IsUnderstood, IsUnfit, IsUnprepared}
use Rattle.tables.specs.Versions.{IsVersion, LooksForeign, TellsVersion, number_of, version_query}
use Rattle.tables.specs.{Schema.schema_of, Tables.Tables, auxiliary.Told.TellsColumns, declared.version.Version.Version}
use Rattle.sqlite.specs.declared.error.ErrorCode.TheVariants as code
use Rattle.tables.specs.declared.version.Version.TheVariants as version
use Rattle.tables.specs.Names as name

unchanged_now : (old new : State) → IsUnchanged old new → old.now ≡ old.committed
    → (new.now ≡ old.now) × (new.now ≡ new.committed)
unchanged_now old new h settled = (h.0.now_is, h.0.now_is ∙ settled ∙ sym h.0.committed_is)

-- a text that is prepared changes nothing
pub prepared_looks : (old new : State) → Survives old new (λ _. ⊥) → (HasCleanDisk new → IsUnchanged old new)
    → Looks old new
prepared_looks old new s same = record {
  clean = λ clean. omega (arith, s.clean);
  reopens = λ clean _. (same clean).0.was_open;
  kept = λ clean _ settled. unchanged_now old new (same clean) settled;
  leaves = λ clean db may. elim (s.crash clean db may) [ inl before ↦ before | inr none ↦ absurd none ];
  usable = survivor_usable old new _ s;
}

pub unprepared_looks : (old new : State) (sql : List ℕ) (e : Error) → Survives old new (λ _. ⊥)
    → (HasCleanDisk new → IsNotRun old new sql [] e) → Looks old new
unfolding IsNotRun
unprepared_looks old new sql e s err = record {
  clean = λ clean. omega (arith, s.clean);
  reopens = λ clean is_open. elim (err clean) [ inl none ↦ none.1.0.was_open | inr fails ↦ fails.3.was_open is_open ];
  kept = λ clean is_open settled. elim (err clean) [
    | inl none ↦ unchanged_now old new none.1 settled
    | inr fails ↦ let back = fails.3.undone is_open in
        (back.0 ∙ sym settled, back.0 ∙ sym back.1)
  ];
  leaves = λ clean db may. elim (s.crash clean db may) [ inl before ↦ before | inr none ↦ absurd none ];
  usable = survivor_usable old new _ s;
}

-- each version's schema knows its own columns, and not those of a later one
own : (v : Version) → IsKnownAs (Some v) (schema_of (number_of v))
unfolding understood everything listing_schema
own version.Current = tt
own v = assumption

known_in : (v : Version) (found : Option Version) → IsKnownAs found (schema_of (number_of v)) → found ≡ Some v
known_in version.First None known = absurd (known.2 (own version.First).2)
known_in version.First (Some version.First) known = refl
known_in version.First (Some version.Second) known = absurd ((own version.First).1 known.1)
known_in version.First (Some version.Current) known = absurd ((own version.First).0 known)
known_in version.Second None known = absurd (known.1 (own version.Second).1)
known_in version.Second (Some version.First) known = absurd (known.1 (own version.Second).1)
known_in version.Second (Some version.Second) known = refl
known_in version.Second (Some version.Current) known = absurd ((own version.Second).0 known)
known_in version.Current None known = absurd (known.0 (own version.Current))
known_in version.Current (Some version.First) known = absurd (known.0 (own version.Current))
known_in version.Current (Some version.Second) known = absurd (known.0 (own version.Current))
known_in version.Current (Some version.Current) known = refl

-- tables are known as those of their own version
pub known_as : (v : Version) (t : Tables) (d : Database) → IsDatabaseIn (number_of v) t d → (found : Option Version)
    → IsKnownAs found d.schema → found ≡ Some v
known_as v t d is found known = known_in v found (subst (IsKnownAs found) is.schema known)

-- a text that isn't prepared, for another cause than memory, and than that it isn't understood
pub unprepared : (old new : State) (sql : List ℕ) (e : Error) → e ≢ SqliteFailure code.OutOfMemory
    → ((f : CompileError) → e ≢ SqlInputError f) → IsNotRun old new sql [] e → IsUnprepared sql old new
unfolding IsNotRun
unprepared old new sql e other read (inl (inl fault, same)) = absurd (read fault.0 fault.2)
unprepared old new sql e other read (inl (inr (c, is, inl many), same)) = inr (c, is, inl many.0)
unprepared old new sql e other read (inl (inr (c, is, inr (inl count)), same)) = inr (c, is, inr (inl count.0))
unprepared old new sql e other read (inl (inr (c, is, inr (inr clock)), same)) = inr (c, is, inr (inr clock.0))
unprepared old new sql e other read (inr fails) = inl (fails_so old new e other fails)

-- what failed after a look at a connection that was open failed since that
module _ (old mid new : State) (usable : StaysUsable old mid) (clean : HasCleanDisk mid) (is_open : IsTrue old.is_open)
    (counts : mid.faults ≤ new.faults) (same : mid.now ≡ old.now) where
  failed_since : HasFailed mid new → HasFailed old new
  failed_since (inl shut) = elim (usable.stays clean is_open) [
    | inl still ↦ absurd (let apart = still in cc)
    | inr failed ↦ inr (omega (arith, counts, failed))
  ]
  failed_since (inr failed) = let more = usable.counts in inr (omega (arith, more, failed))

  pub unprepared_since : (sql : List ℕ) → IsUnprepared sql mid new → IsUnprepared sql old new
  unprepared_since sql (inl failed) = inl (failed_since failed)
  unprepared_since sql (inr unfit) = inr (subst (λ (d : Database). IsUnfit sql 0 d.schema) same unfit)

  source_since : (sql : List ℕ) (params : Row) → mid.step_limit ≡ old.step_limit → IsRefused sql params mid
      → IsRefused sql params old
  source_since sql params limit refused =
      subst (λ (d : Database). (c : Compiled) × (understood d.schema sql ≡ Ok c) × (source : Database)
      × IsSourceOf (reads_listing d.schema sql) d source × (error : Error)
      × RefusesToRead old.step_limit c.command source params error) same
      (subst (λ limit. (c : Compiled) × (understood mid.now.schema sql ≡ Ok c) × (source : Database)
      × IsSourceOf (reads_listing mid.now.schema sql) mid.now source × (error : Error)
      × RefusesToRead limit c.command source params error) limit refused)

  pub unanswered_since : (sql : List ℕ) (params : Row) → IsUnanswered sql params mid new
      → IsUnanswered sql params old new
  unanswered_since sql params (inl failed) = inl (failed_since failed)
  unanswered_since sql params (inr (inl unknown)) =
      inr (inl (subst (λ (d : Database). ¬ IsUnderstood (understood d.schema sql)) same unknown))
  unanswered_since sql params (inr (inr (inl unfit))) =
      inr (inr (inl (subst (λ (d : Database). IsUnfit sql (length params) d.schema) same unfit)))
  unanswered_since sql params (inr (inr (inr refused))) =
      inr (inr (inr (source_since sql params usable.limit refused)))

no_input_error : (cause : StoreError) (f : CompileError) → ¬ (SqlInputError f ≡ store_error cause)
no_input_error OutOfMemory f e = cc
no_input_error Io f e = cc
no_input_error Corrupt f e = cc
no_input_error Full f e = cc
no_input_error Broken f e = cc
no_input_error Unstorable f e = cc

-- a text that is refused so isn't understood
pub never_known : (old new : State) (sql : List ℕ) (f : CompileError) → IsNotRun old new sql [] (SqlInputError f)
    → ¬ IsUnderstood (understood old.now.schema sql)
unfolding IsNotRun
never_known old new sql f (inl (inl fault, same)) known = subst IsUnderstood fault.1 known
never_known old new sql f (inl (inr (c, is, inl many), same)) known = cc
never_known old new sql f (inl (inr (c, is, inr (inl count)), same)) known = cc
never_known old new sql f (inl (inr (c, is, inr (inr clock)), same)) known = cc
never_known old new sql f (inr fails) known = no_input_error fails.0 f fails.1

-- nor is anything changed then, on a connection that is open
pub unknown_same : (old new : State) (sql : List ℕ) (f : CompileError) → IsNotRun old new sql [] (SqlInputError f)
    → (new.now ≡ old.now) × IsTrue old.is_open
unfolding IsNotRun
unknown_same old new sql f (inl none) = (none.1.0.now_is, none.1.0.was_open)
unknown_same old new sql f (inr fails) = absurd (no_input_error fails.0 f fails.1)

-- what is answered to an error of a text that is prepared
module _ (old new : State) (sql : List ℕ) (error : Error) (not_run : IsNotRun old new sql [] error) where
  abbrev pub IsKnown : Bool → Type 0
  IsKnown found = (found ≡ false) × ((f : CompileError) × (error ≡ SqlInputError f))

  pub read_told : (r : Result Bool Error) → IfOk r IsKnown → IfOk r (TellsColumns sql old new)
  read_told (Ok found) (answer, (f, is)) =
      let it = subst (IsNotRun old new sql []) is not_run in
      let same = unknown_same old new sql f it in
      (same.1, same.0, ((λ y. absurd (let apart = y in cc)), (λ known. absurd (never_known old new sql f it known))))
  read_told (Err e) known = tt

  pub read_unprepared : (r : Result Bool Error)
      → IfErr r (λ e. (e ≡ error) × ((f : CompileError) → error ≢ SqlInputError f))
      → IfErr r (λ e. e ≢ SqliteFailure code.OutOfMemory → IsUnprepared sql old new)
  read_unprepared (Ok found) read = tt
  read_unprepared (Err e) (same, read) =
      λ other. unprepared old new sql error (λ memory. other (same ∙ memory)) read not_run

-- ---- the row of `meta`

abbrev version_select : Command
version_select = Select (program_of 0 [] (col 1 1 ∷ []) [] no_limit) (codes "version" ∷ [])

asks_version : (v : Version) → let s = schema_of (number_of v) in
    (command_of (understood s version_query) ≡ version_select) × (reads_listing s version_query ≡ false)
    × IsTrue (nat_le 1 (number_of v))
unfolding understood everything
asks_version version.Current = (refl, refl, refl)
asks_version v = (refl, refl, refl)

-- its rows are the one row that it holds
version_row : (s : Schema) → command_of (understood s version_query) ≡ version_select
    → reads_listing s version_query ≡ false → (version : ℕ) (d : Database) → d.schema ≡ s
    → AreRows false version_cells (version ∷ []) (d.trees 0) → (rows : List Row) → Answers version_query [] d rows
    → IsVersion version rows
version_row s is unlisted version d has held rows (c, known, source, from, reads) =
    let command : c.command ≡ version_select =
    ap command_of (sym known) ∙ ap (λ s. command_of (understood s version_query)) has ∙ is in
    let same : source ≡ d =
    subst (λ b. IsSourceOf b d source) (ap (λ s. reads_listing s version_query) has ∙ unlisted) from in
    let answer = subst (λ k. Reads k d [] rows) command
    (subst (λ (x : Database). Reads c.command x [] rows) same reads) in
    let shown = answered d.schema d.trees [] 0 [] (col 1 1 ∷ []) rows answer in
    let one = one_permutation (Int (pos version) ∷ []) rows
    (found_are version_cells (λ x e. cc) false (version ∷ []) (d.trees 0) held (passes [] []) (λ _. true)
    (λ y. refl) (shows (col 1 1 ∷ []) []) version_cells (λ y. refl) rows shown) in
    (Int (pos version) ∷ [], one, refl)

pub version_of : (v : Version) (t : Tables) (d : Database) → IsDatabaseIn (number_of v) t d → (rows : List Row)
    → Answers version_query [] d rows → IsVersion (number_of v) rows
version_of v t d is =
    let asks = asks_version v in
    version_row (schema_of (number_of v)) asks.0 asks.1 (number_of v) d is.schema (is.holds.rows name.Meta asks.2)

-- ---- what was told

pub unknown_if : (asked : List ℕ) (old new : State) (found : Bool) → TellsColumns asked old new found → found ≡ false
    → ¬ IsUnderstood (understood old.now.schema asked)
unknown_if asked old new found told isnt known = let y = told.2.1 known in cc

-- what is told after a query that isn't understood, of the connection as it was before
pub told_after : (asked later : List ℕ) (old mid new : State) (found next : Bool) → TellsColumns asked old mid found
    → found ≡ false → TellsColumns later mid new next
    → (¬ IsUnderstood (understood old.now.schema asked)) × TellsColumns later old new next
told_after asked later old mid new found next first isnt then = (
  unknown_if asked old mid found first isnt,
  (
    first.0,
    then.1 ∙ first.1,
    subst (λ (d : Database). IsTrue next ↔ IsUnderstood (understood d.schema later)) first.1 then.2,
  ),
)

abbrev pub TellsNumber : ℕ → Database → Bool → Type 0
TellsNumber number d found = (rows : List Row) × Answers version_query [] d rows × (IsTrue found ↔ IsVersion number rows)

-- a version that is known, and that `meta` says
pub shown_as : (v : Version) (s : State) → IsKnownAs (Some v) s.now.schema → (found : Bool)
    → TellsNumber (number_of v) s.now found → found ≡ true → TellsVersion (Some v) s
shown_as version.First s known found (rows, answer, told) y =
    (record { columns = known.2; version = (rows, answer, told.0 y) }, inl known.0)
shown_as version.Second s known found (rows, answer, told) y =
    (record { columns = known.1; version = (rows, answer, told.0 y) }, inl known.0)
shown_as version.Current s known found (rows, answer, told) y =
    record { columns = known; version = (rows, answer, told.0 y) }

-- one that it doesn't say
pub shown_foreign : (v : Version) (s : State) → IsKnownAs (Some v) s.now.schema → (found : Bool)
    → TellsNumber (number_of v) s.now found → found ≡ false → LooksForeign s
shown_foreign version.Current s known found (rows, answer, told) n =
    inr (rows, answer, (λ is. let y = told.1 is in cc))
shown_foreign v s known found told n = inl known.0

-- tables of a version have `meta` say it
said : (v : Version) (t : Tables) (d : Database) → IsDatabaseIn (number_of v) t d → (found : Bool)
    → TellsNumber (number_of v) d found → found ≡ true
said v t d is found (rows, answer, told) = told.1 (version_of v t d is rows answer)

-- so a version that is known and that `meta` doesn't say is none of theirs
pub not_said : (v version : Version) (t : Tables) (old mid : Database) → mid ≡ old → IsDatabaseIn (number_of v) t old
    → (found : Option Version) → IsKnownAs found old.schema → found ≡ Some version → (found_it : Bool)
    → TellsNumber (number_of version) mid found_it → found_it ≡ false → ⊥
not_said v version t old mid same is found known some found_it told unsaid =
    let both : Some version ≡ Some v = sym some ∙ known_as v t old is found known in
    let one : version ≡ v = cc in
    let here = subst (λ w. TellsNumber (number_of w) old found_it) one
    (subst (λ d. TellsNumber (number_of version) d found_it) same told) in
    let it = said v t old is found_it here in cc

pub outlined : (r : Result Compiled CompileError) (s : Outline) → Outlines r s → IsUnderstood r
outlined (Ok c) s h = tt
outlined (Err e) s h = h

pub prepare_looks : {X : Type 0} (P : X → Type 0) (old new : State) (sql : List ℕ) (r : Result X Error)
    → Survives old new (λ _. ⊥) → (HasCleanDisk new → IfOk r (λ s. P s × IsUnchanged old new))
    → (HasCleanDisk new → IfErr r (λ e. (params : Row) → IsNotRun old new sql params e)) → Looks old new
prepare_looks P old new sql (Ok s) survives ok err = prepared_looks old new survives (λ clean. (ok clean).1)
prepare_looks P old new sql (Err e) survives ok err = unprepared_looks old new sql e survives (λ clean. err clean [])

-- ---- the text has the same outline in each schema

abbrev returned_in : Schema → Checked Parsed → Checked (Option Returning)
returned_in s (Ok p) = returning s (small p.names + small (timed s p.formats p.statement)) p.statement
returned_in s (Err e) = Err e

abbrev timed_in : Schema → Checked Parsed → List (List ℕ)
timed_in s (Ok p) = timed s p.formats p.statement
timed_in s (Err e) = []

outline : (p : Parsed) (shown : Checked (Option Returning)) (k : Checked Command) (formats : List (List ℕ))
    (c : Compiled)
    → and_then (and_then (and_then shown (λ shown. and_then k (λ c. Ok (c, shown)))) (λ found. Ok (formats, found)))
    (λ plan. Ok (with_command p plan)) ≡ Ok c
    → shown ≡ Ok None → formats ≡ [] → (c.returning ≡ None) × (c.formats ≡ [])
outline p (Err e) k formats c is none empty = absurd (let apart = is in cc)
outline p (Ok shown) (Err e) formats c is none empty = absurd (let apart = is in cc)
outline p (Ok shown) (Ok k) formats c is none empty =
    let same : with_command p (formats, (k, shown)) ≡ c = cc in
    let no_shown : shown ≡ None = cc in
    (subst (λ (x : Compiled). x.returning ≡ None) same no_shown, subst (λ (x : Compiled). x.formats ≡ []) same empty)

compiled_plain : (s : Schema) (sql : List ℕ) (r : Checked Parsed) (c : Compiled)
    → and_then r (λ p. and_then (planned s p) (λ plan. Ok (with_command p plan))) ≡ Ok c
    → returned_in s r ≡ Ok None → timed_in s r ≡ [] → (c.returning ≡ None) × (c.formats ≡ [])
unfolding planned meaning
compiled_plain s sql (Err e) c is none empty = absurd (let apart = is in cc)
compiled_plain s sql (Ok p) c is none empty = outline p _ _ _ c is none empty

not_listed : if_select (compiled listing_schema version_query) ≡ Err NoSuchTable
unfolding everything listing_schema
not_listed = refl

version_outline : (s : Schema)
    → (returned_in s (first version_query) ≡ Ok None) × (timed_in s (first version_query) ≡ [])
unfolding everything
version_outline s = (refl, refl)

pub version_plain : (s : Schema) → IsPlainIn s version_query
unfolding understood compiled
version_plain s c is = elim (cases_Bool (reads_listing s version_query)) [
  | inl missed ↦ absurd (let apart = sym not_listed ∙ rw missed at is in cc)
  | inr found ↦ compiled_plain s version_query (first version_query) c (rw found at is) (version_outline s).0
      (version_outline s).1
]
