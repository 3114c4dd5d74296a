-- The making of tables is refused for a name only where one of theirs is used.
use Rattle.sqlite_catalog.specs.Calls.{RefusesTable}
use Rattle.sqlite_rules.specs.declared.error.Refusal.{Refusal}
use Rattle.sqlite_rules.specs.declared.error.Refusal.TheVariants.{BadReference, Mismatch, NoRowid, TooDeep, Violates}
use Rattle.tables.proofs.Words.{AllByRecursion, Bool, Broken, Command, CompileError, Compiled, Concludes, Corrupt}
use Rattle.tables.proofs.Words.{CreateTable, Database, Does, Edit, Edited, Err, Error, ExecutesAllInside, ExecutesIn}
use Rattle.tables.proofs.Words.{Full, Ghosts, Gives, Has, Held, IfErr, IfOk, Index, Insert, Inserts, Io, IsNotRun}
use Rattle.tables.proofs.Words.{IsPlain, IsStatement, List, MakesSequence, MakesTable, Mode, None, Ok, OnRows, Option}
use Rattle.tables.proofs.Words.{OutOfMemory, Part, Program, Queried, Result, RunsAlone, Schema, Some, Sourced, State}
use Rattle.tables.proofs.Words.{Stops, StoreError, Table, Task, Trees, Unstorable, Update, Updates, Values, Written, []}
use Rattle.tables.proofs.Words.{alter_error, ap, automatics, cases_Bool, command_of, created, drop, edit_error}
use Rattle.tables.proofs.Words.{everything, false, inl, inr, is_used, lacks_sequence, list_any, map, mode_of, next_tree}
use Rattle.tables.proofs.Words.{refl, shows_rows, slice_get, stamped, state, statement_of, store_error, subst, subst₂}
use Rattle.tables.proofs.Words.{sym, table_defined_by, timed, true, understood, ℕ, ◌++◌, ◌∙◌, ◌∷◌, ◌≡◌, ◌⊎◌}
use Rattle.tables.proofs.BatchLemmas.{AreCut, Goes, Turns, are_cut, cut_last, ended, in_turn, turn}
use Rattle.tables.proofs.CreateLemmas.{MakesIn, begun, makes_in, makes_table, schema_with, version_terms}
use Rattle.tables.proofs.FreeLemmas.{AreFree, HasMeta, clashes, lacks_still, made_meta, stay_free, still_meta}
use Rattle.tables.proofs.NameLemmas.{makes, names_free}
use Rattle.tables.proofs.{FillLemmas.fill_facts, FillLemmas.fills, WriteLemmas.plain_mode}
use Rattle.tables.specs.Versions.{IsInTheWay, IsUnderstood, takes_index, takes_name, tells_taken}
use Rattle.tables.specs.auxiliary.Creation.{insert_version, joined, make_all, text_for}
use Rattle.tables.specs.{Names.Name, Names.names, Schema.meta, Schema.placed, Schema.table_for, Schema.the_schema}
use Rattle.sqlite_catalog.specs.declared.error.Refusal as alter
use Rattle.sqlite_catalog.specs.declared.error.Refusal.TheVariants as why

-- an error of another kind, or a row that can't be stored
abbrev IsSpared : Option Error → Type 0
IsSpared None = Unit {0}
IsSpared (Some e) = tells_taken e ≡ false

abbrev NeverTaken : {A : Type 0} → Part A → Type 0
NeverTaken P = (stop : Option Error) → P (Err stop) → IsSpared stop

same_err : {A E : Type 0} {a b : E} → ◌≡◌ {A = Result A E} (Err a) (Err b) → a ≡ b
same_err e = cc

gives_never : {A : Type 0} (a : A) → NeverTaken (Gives a)
gives_never a stop e = absurd (let apart = e in cc)

store_never : (cause : StoreError) → tells_taken (store_error cause) ≡ false
store_never OutOfMemory = refl
store_never Io = refl
store_never Corrupt = refl
store_never Full = refl
store_never Broken = refl
store_never Unstorable = refl

edit_never : (r : Refusal) → tells_taken (edit_error r) ≡ false
edit_never (Violates rule) = refl
edit_never Mismatch = refl
edit_never BadReference = refl
edit_never NoRowid = refl
edit_never TooDeep = refl

-- a text that is understood is refused for a name only by its command
module _ (sql : List ℕ) (old new : State) (schema : Schema) (has : old.now.schema ≡ schema) (command : Command)
    (is : command_of (understood schema sql) ≡ command) (plain : IsPlain (understood schema sql))
    (known : IsUnderstood (understood schema sql)) (in_batch : Bool) where
  module _ (e : Error) (spared : Does old.step_limit (mode_of old) [] old.now (statement_of sql (understood schema sql))
      None command (Err (Some e)) → tells_taken e ≡ false) where
    not_run : IsNotRun old new sql [] e → tells_taken e ≡ false
    unfolding IsNotRun
    not_run (inl (inl fault, same)) =
        absurd (subst IsUnderstood (ap (λ s. understood s sql) (sym has) ∙ fault.1) known)
    not_run (inl (inr (c, it, inl many), same)) = ap tells_taken many.1
    not_run (inl (inr (c, it, inr (inl count)), same)) = ap tells_taken count.1
    not_run (inl (inr (c, it, inr (inr clock)), same)) = ap tells_taken clock.1
    not_run (inr fails) = ap tells_taken fails.1 ∙ store_never fails.0

    alone : (c : Compiled) (it : IsStatement old sql [] c)
        → RunsAlone in_batch old new sql c (timed [] c.formats it.now) (Err e) → tells_taken e ≡ false
    alone c it h =
        let same = sym it.is ∙ ap (λ s. understood s sql) has in
        let bare = subst IsPlain (sym same) plain in
        elim (cases_Bool (shows_rows in_batch c)) [
          | inl shows ↦ (let e' = (rw shows at h).0 in ap tells_taken (same_err e'))
          | inr runs ↦ elim (rw runs at h) [
            | inl (inl misplaced, same_state) ↦ elim misplaced [
              | inl state_error ↦ ap tells_taken state_error.0
              | inr name_error ↦ ap tells_taken name_error.0
            ]
            | inl (inr (change, does), same_state) ↦
                let P = λ (k : Command) (t : List ℕ). Does old.step_limit (mode_of old) [] old.now t None k
                (Err (Some e)) in
                spared (subst₂ P (ap command_of same ∙ is) (ap (statement_of sql) same) (rw (bare.0, bare.1) at does))
            | inr fails ↦ ap tells_taken fails.1 ∙ store_never fails.0
          ]
        ]

    pub failed_as : ExecutesIn in_batch sql [] old new (Err e) → tells_taken e ≡ false
    unfolding ExecutesIn
    failed_as (inl not_it) = not_run not_it
    failed_as (inr (c, it, h)) = alone c it h

-- a table isn't refused for a name that is free
module _ (db : Database) (schema : Schema) (text : List ℕ) (table : Table) (has : db.schema ≡ schema)
    (defined : table_defined_by text ≡ Ok table) (free : is_used schema table.name ≡ false)
    (indexes_free : (index : Index) → Has (automatics table 0 0 table.uniques) index → is_used schema index.name
    ≡ false) (counted : lacks_sequence (created schema table) ≡ false) where
  named_never : (t : Table) → table_defined_by text ≡ Ok t
      → (is_used db.schema t.name ≡ true)
      ⊎ ((index : Index) × Has (automatics t 0 0 t.uniques) index × (is_used db.schema index.name ≡ true)) → ⊥
  named_never t d taken =
      let both : Ok table ≡ Ok t = sym defined ∙ d in
      let same : table ≡ t = cc in
      elim taken [
        | inl used ↦ (let now : is_used schema table.name ≡ true = subst (λ (s : Schema). is_used s table.name ≡ true)
            has (subst (λ (x : Table). is_used db.schema x.name ≡ true) (sym same) used) in cc)
        | inr (index, there, used) ↦
            let here : Has (automatics table 0 0 table.uniques) index =
            subst (λ (x : Table). Has (automatics x 0 0 x.uniques) index) (sym same) there in
            let isnt = indexes_free index here in
            let now : is_used schema index.name ≡ true = subst (λ (s : Schema). is_used s index.name ≡ true) has used in
            cc
      ]

  reason_never : (e : Error) (reason : alter.Refusal) → RefusesTable db.schema text reason → e ≡ alter_error reason
      → tells_taken e ≡ false
  reason_never e (why.Invalid f) refuses is = absurd (let both : Ok table ≡ Err f = sym defined ∙ refuses in cc)
  reason_never e why.NameTaken refuses is = absurd (named_never refuses.0 refuses.1 refuses.2)
  reason_never e why.BadName refuses is = ap tells_taken is
  reason_never e why.TooBig refuses is = ap tells_taken is
  reason_never e why.BadKey refuses is = ap tells_taken is
  reason_never e why.BadText refuses is = ap tells_taken is
  reason_never e (why.Violates rule) refuses is = ap tells_taken is

  makes_never : NeverTaken (MakesTable text db)
  makes_never None h = tt
  makes_never (Some e) (inl text_error) = ap tells_taken text_error.1
  makes_never (Some e) (inr refused) = reason_never e refused.0 refused.1 refused.2

  sequence_never : (after : Database) → MakesTable text db (Ok after) → NeverTaken (MakesSequence after)
  sequence_never after made stop h =
      let both : Ok made.table ≡ Ok table = sym made.defined ∙ defined in
      let same : made.table ≡ table = cc in
      let now : after.schema ≡ created schema table =
      made.is ∙ ap (λ s. created s made.table) has ∙ ap (created schema) same in
      let lacks : lacks_sequence after.schema ≡ false = ap lacks_sequence now ∙ counted in
      gives_never after stop (rw lacks at h)

  pub created_never : (limit : Option ℕ) (mode : Mode) (e : Error)
      → Does limit mode [] db text None CreateTable (Err (Some e)) → tells_taken e ≡ false
  created_never limit mode e (inl (stop, inl first, is)) =
      let stopped : IsSpared stop = subst IsSpared (sym (same_err first.2)) (makes_never first.0 first.1) in
      subst IsSpared (sym (same_err is)) stopped
  created_never limit mode e (inl (stop, inr (after, made, next), is)) =
      subst IsSpared (sym (same_err is)) (sequence_never after made stop next)
  created_never limit mode e (inr (after, made, gives)) = absurd (let apart = gives in cc)

-- nor is the row of `meta`
module _ (limit : Option ℕ) (db : Trees) (text : List ℕ) (schema : Schema) (tree : ℕ) where
  abbrev task : Task
  task = record { limit = limit; keys = plain_mode.keys; schema = schema; table = placed tree meta; params = [] }

  sourced_never : NeverTaken (Sourced limit (record { schema = schema; trees = db }) (stamped (placed tree meta) [])
      (Values version_terms 2))
  sourced_never None h = tt
  sourced_never (Some e) (inl mismatch) = ap tells_taken mismatch.0
  sourced_never (Some e) (inr stopped) = ap tells_taken stopped.0

  edited_never : (now : Trees) (edit : Edit) → NeverTaken (Edited schema plain_mode.keys now edit)
  edited_never now edit stop (None, writes, is) = subst IsSpared (sym is) tt
  edited_never now edit stop (Some reason, writes, is) = subst IsSpared (sym is) (edit_never reason)

  concluded_never : (w : Written) → NeverTaken (Concludes task plain_mode None w)
  concluded_never w stop (inl (s, tested, is)) = subst IsSpared (sym (same_err is)) (subst IsSpared (sym tested.1) refl)
  concluded_never w stop (inr (doubt, tested, inl (s, shows, is))) = absurd (let apart = shows in cc)
  concluded_never w stop (inr (doubt, tested, inr (rows, shows, is))) = absurd (let apart = is in cc)

  inserts_never : NeverTaken (Inserts task (Values version_terms 2) db)
  inserts_never stop (inl (s, source, is)) = subst IsSpared (sym (same_err is)) (sourced_never s source)
  inserts_never stop (inr (rows, source, inl (s, counter, is))) = absurd (let apart = counter in cc)
  inserts_never stop (inr (rows, source, inr (counter, counted, inl (s, edited, is)))) =
      subst IsSpared (sym (same_err is)) (edited_never db _ s edited)
  inserts_never stop (inr (rows, source, inr (counter, counted, inr (mid, edited, inl (s, counts, is))))) =
      absurd (let apart = counts in cc)
  inserts_never stop (inr (rows, source, inr (counter, counted, inr (mid, edited, inr (next, counts, is))))) =
      absurd (let apart = is in cc)

  on_meta_never : (e : Error) → OnRows task plain_mode None (Insert 0 (Values version_terms 2)) db (Err (Some e))
      → tells_taken e ≡ false
  on_meta_never e (inl (s, inserts, is)) = subst IsSpared (sym (same_err is)) (inserts_never s inserts)
  on_meta_never e (inr (w, inserts, concludes)) = concluded_never w (Some e) concludes

  pub inserted_never : (at : ℕ) → slice_get schema.tables at ≡ Some (placed tree meta) → (e : Error)
      → Does limit plain_mode [] (record { schema = schema; trees = db }) text None (Insert at (Values version_terms 2))
      (Err (Some e)) → tells_taken e ≡ false
  inserted_never at there e does = on_meta_never e (rw there at does)

-- nor is a change of it
module _ (limit : Option ℕ) (db : Trees) (text : List ℕ) (schema : Schema) (tree at : ℕ) (q : Program)
    (there : slice_get schema.tables at ≡ Some (placed tree meta)) where
  queried_never : NeverTaken (Queried limit (record { schema = schema; trees = db }) q [])
  queried_never None h = tt
  queried_never (Some e) (inl mismatch) = ap tells_taken mismatch.0
  queried_never (Some e) (inr (inl high)) = ap tells_taken high.0
  queried_never (Some e) (inr (inr stopped)) = ap tells_taken stopped.0

  updates_never : NeverTaken (Updates (task limit db text schema tree) q [] db)
  updates_never stop (inl (s, queried, is)) = subst IsSpared (sym (same_err is)) (queried_never s queried)
  updates_never stop (inr (rows, asked, inl (s, edited, is))) =
      subst IsSpared (sym (same_err is)) (edited_never limit db text schema tree db _ s edited)
  updates_never stop (inr (rows, asked, inr (next, edited, is))) = absurd (let apart = is in cc)

  on_rows_never : (e : Error) → OnRows (task limit db text schema tree) plain_mode None (Update at q) db (Err (Some e))
      → tells_taken e ≡ false
  on_rows_never e (inl (s, updates, is)) = subst IsSpared (sym (same_err is)) (updates_never s updates)
  on_rows_never e (inr (w, updates, concludes)) = concluded_never limit db text schema tree w (Some e) concludes

  pub updated_never : (e : Error)
      → Does limit plain_mode [] (record { schema = schema; trees = db }) text None (Update at q) (Err (Some e))
      → tells_taken e ≡ false
  updated_never e does = on_rows_never e (rw there at does)

module _ {S : Type 0} (g : Ghosts S) (new : Held S) where
  -- what stops a statement of the batch
  stopped_never : (sql : List ℕ) (old : Held S) (r : Result (Unit {0}) Error)
      → ((e : Error) → ExecutesIn true sql [] (state g old) (state g new) (Err e) → tells_taken e ≡ false)
      → (e : Error) × (r ≡ Err e) × Stops g (Some 0) sql old new e → IfErr r (λ e. tells_taken e ≡ false)
  stopped_never sql old r spared (e, is, inl step) =
      subst (λ (x : Result (Unit {0}) Error). IfErr x (λ e. tells_taken e ≡ false)) (sym is) (spared e step.runs)
  stopped_never sql old r spared (e, is, inr barred) =
      subst (λ (x : Result (Unit {0}) Error). IfErr x (λ e. tells_taken e ≡ false)) (sym is) (ap tells_taken barred.0)

  -- one that makes a table, where nothing has its name
  table_turn : (sql : List ℕ) (schema : Schema) (table : Table) (rest : List ℕ) (old : Held S)
      (r : Result (Unit {0}) Error) → (state g old).now.schema ≡ schema → MakesIn schema sql table
      → IsUnderstood (understood schema sql) → is_used schema table.name ≡ false
      → ((index : Index) → Has (automatics table 0 0 table.uniques) index → is_used schema index.name ≡ false)
      → lacks_sequence (created schema table) ≡ false
      → ((mid : Held S) → (state g mid).now.schema ≡ created schema table → Goes g rest mid new r
      → IfErr r (λ e. tells_taken e ≡ false))
      → Turns g sql rest old new r → IfErr r (λ e. tells_taken e ≡ false)
  table_turn sql schema table rest old r has is known free indexes_free counted next (inl stops) =
      stopped_never sql old r
      (λ e runs. failed_as sql (state g old) (state g new) schema has CreateTable is.0 is.2 known true e
      (λ does. created_never (state g old).now schema _ table has is.1 free indexes_free counted
      (state g old).step_limit (mode_of (state g old)) e does) runs) stops
  table_turn sql schema table rest old r has is known free indexes_free counted next (inr (mid, ran, others)) =
      next mid (makes_table sql (state g old) (state g mid) schema table ran.0 has is counted ran.1).0 others

-- ---- the names, in the order in which a batch takes them

abbrev indexes_of : Table → List Index
indexes_of table = automatics table 0 0 table.uniques

abbrev names_of : List Name → List (List ℕ)
names_of [] = []
names_of (m ∷ more) = (table_for m).name ∷ (map (λ (i : Index). i.name) (indexes_of (table_for m)) ++ names_of more)

-- no table takes a name of a later one
abbrev AreApart : List Name → Type 0
AreApart [] = Unit {0}
AreApart (m ∷ more) = ((tree : ℕ) → list_any (clashes (table_for m) tree) (names_of more) ≡ false) × AreApart more

ours_apart : AreApart names
unfolding everything
ours_apart = assumption

none_any : {X : Type 0} (p : X → Bool) (xs : List X) → list_any p xs ≡ false → AllByRecursion (λ x. p x ≡ false) xs
none_any p [] none = tt
none_any p (x ∷ xs) none = elim (cases_Bool (p x)) [
  | inl here ↦ absurd (let e = rw here at none in cc)
  | inr later ↦ (later, none_any p xs (rw later at none))
]

each_free : (schema : Schema) (indexes : List Index) (later : List (List ℕ))
    → AreFree schema (map (λ (i : Index). i.name) indexes ++ later) → (index : Index) → Has indexes index
    → is_used schema index.name ≡ false
each_free schema [] later all index there = absurd there
each_free schema (i ∷ indexes) later all index (inl same) =
    subst (λ (x : Index). is_used schema x.name ≡ false) (sym same) all.0
each_free schema (i ∷ indexes) later all index (inr there) = each_free schema indexes later all.1 index there

later_free : (schema : Schema) (names later : List (List ℕ)) → AreFree schema (names ++ later) → AreFree schema later
later_free schema [] later all = all
later_free schema (name ∷ names) later all = later_free schema names later all.1

-- ---- the batch, over a database in which none of them is used

-- a schema before a table is made, with names that are free
record Before (s : Schema) (names : List (List ℕ)) : Type 0 where
  free : AreFree s names
  counted : lacks_sequence s ≡ false

pub plain_known : (r : Result Compiled CompileError) → IsPlain r → IsUnderstood r
plain_known (Ok c) plain = tt
plain_known (Err e) plain = absurd plain

module _ {S : Type 0} (g : Ghosts S) (new : Held S) (r : Result (Unit {0}) Error) where
  abbrev Spared : Type 0
  Spared = IfErr r (λ e. tells_taken e ≡ false)

  -- those that make tables, up to the last text
  tables_turn : (ns : List Name) → AreApart ns → (last : List ℕ)
      → AreCut ns last → (s : Schema) → Before s (names_of ns) → (old : Held S)
      → (state g old).now.schema ≡ s
      → ((mid : Held S) → (state g mid).now.schema ≡ schema_with s ns → Goes g last mid new r → Spared)
      → Goes g (joined ns last) old new r → Spared
  tables_turn [] apart last cut s b old has next ran = next old has ran
  tables_turn (m ∷ more) apart last cut s b old has next ran =
      let free = b.free.0 in
      let is = makes_in m s free in
      let counted = lacks_still s (table_for m) (makes m).uncounted b.counted in
      let rest_free = later_free s (map (λ (i : Index). i.name) (indexes_of (table_for m))) (names_of more) b.free.1 in
      let after : Before (created s (table_for m)) (names_of more) = record {
        free = stay_free s (table_for m) (names_of more) rest_free
            (none_any (clashes (table_for m) (next_tree s)) (names_of more) (apart.0 (next_tree s)));
        counted = counted;
      } in
      table_turn g new (text_for m) s (table_for m) (joined more last) old r has is
      (plain_known (understood s (text_for m)) is.2) free
      (each_free s (indexes_of (table_for m)) (names_of more) b.free.1) counted
      (λ mid made others. tables_turn more apart.1 last cut.1 (created s (table_for m)) after mid made next others)
      (turn g (joined (m ∷ more) last) (text_for m) (joined more last) cut.0 old new r ran)

  -- the row of `meta`
  version_turn : (s : Schema) → HasMeta s → (old : Held S) → (state g old).now.schema ≡ s
      → Turns g insert_version [] old new r → Spared
  version_turn s made old has (inl stops) =
      let facts = fill_facts made.at in
      let same = fills s made in
      let text = statement_of insert_version (understood s insert_version) in
      stopped_never g new insert_version old r
      (λ e runs. failed_as insert_version (state g old) (state g new) s has
      (Insert made.at (Values version_terms 2))
      (ap command_of same ∙ facts.0) (subst IsPlain (sym same) facts.1)
      (subst IsUnderstood (sym same) facts.2) true e
      (λ does. inserted_never (state g old).step_limit (state g old).now.trees text s made.tree made.at made.there e
      (subst (λ (s : Schema). Does (state g old).step_limit plain_mode []
      (record { schema = s; trees = (state g old).now.trees }) text None (Insert made.at (Values version_terms 2))
      (Err (Some e))) has does)) runs) stops
  version_turn s made old has (inr (mid, ran, others)) =
      subst (λ (x : Result (Unit {0}) Error). IfErr x (λ e. tells_taken e ≡ false)) (sym (ended g mid new r others).0)
      tt

still_has_meta : (ns : List Name) (s : Schema) → HasMeta s → HasMeta (schema_with s ns)
still_has_meta [] s has = has
still_has_meta (m ∷ more) s has = still_has_meta more (created s (table_for m)) (still_meta s (table_for m) has)

all_turn : {S : Type 0} (g : Ghosts S) (old new : Held S) (r : Result (Unit {0}) Error) (s : Schema)
    → Before s (names_of names) → (state g old).now.schema ≡ s → Goes g make_all old new r
    → IfErr r (λ e. tells_taken e ≡ false)
all_turn g old new r s b has ran =
    tables_turn g new r names ours_apart insert_version are_cut s b old has
    (λ mid made others. version_turn g new r (schema_with s names)
    (still_has_meta (drop 1 names) (created s meta) (made_meta s b.free.0)) mid made
    (turn g insert_version insert_version [] (cut_last names insert_version are_cut) mid new r others)) ran

-- the indexes of all of them
abbrev all_indexes : List Name → List Index
all_indexes [] = []
all_indexes (m ∷ more) = indexes_of (table_for m) ++ all_indexes more

indexes_free : (s : Schema) (indexes later : List Index) (others : List (List ℕ))
    → AllByRecursion (λ (i : Index). is_used s i.name ≡ false) (indexes ++ later)
    → (AllByRecursion (λ (i : Index). is_used s i.name ≡ false) later → AreFree s others)
    → AreFree s (map (λ (i : Index). i.name) indexes ++ others)
indexes_free s [] later others all next = next all
indexes_free s (i ∷ indexes) later others all next = (all.0, indexes_free s indexes later others all.1 next)

each_name_free : (s : Schema) (ms : List Name) → AllByRecursion (λ (m : Name). is_used s (table_for m).name ≡ false) ms
    → AllByRecursion (λ (i : Index). is_used s i.name ≡ false) (all_indexes ms) → AreFree s (names_of ms)
each_name_free s [] tables indexes = tt
each_name_free s (m ∷ more) tables indexes = (
  tables.0,
  indexes_free s (indexes_of (table_for m)) (all_indexes more) (names_of more) indexes (each_name_free s more tables.1),
)

all_free : (s : Schema) → takes_name s ≡ false → takes_index s ≡ false → AreFree s (names_of names)
unfolding everything
all_free s tables indexes =
    each_name_free s names (none_any (λ (table : Table). is_used s table.name) the_schema.tables tables)
    (none_any (λ (index : Index). is_used s index.name) the_schema.indexes indexes)

-- the batch is refused for a name only where something stands in its way
pub in_the_way : {S : Type 0} (g : Ghosts S) (old new : Held S) (r : Result (Unit {0}) Error)
    → ExecutesAllInside g 0 make_all old new r
    → IfErr r (λ e. tells_taken e ≡ true → IsInTheWay (state g old).now.schema)
in_the_way g old new (Ok u) ran = tt
in_the_way g old new (Err e) ran = λ taken.
    let s = (state g old).now.schema in
    elim (cases_Bool (takes_name s)) [
      | inl name ↦ inl name
      | inr tables ↦ elim (cases_Bool (takes_index s)) [
        | inl index ↦ inr (inl index)
        | inr indexes ↦ elim (cases_Bool (lacks_sequence s)) [
          | inl lacks ↦ inr (inr lacks)
          | inr counted ↦ absurd (let free = all_turn g old new (Err e) s
              (record { free = all_free s tables indexes; counted = counted }) refl (begun g old new (Err e) ran) in cc)
        ]
      ]
    ]

-- and it succeeds only where none of their names is used
pub names_free_if : {S : Type 0} (g : Ghosts S) (old new : Held S) (r : Result (Unit {0}) Error)
    → ExecutesAllInside g 0 make_all old new r → IfOk r (λ _. takes_name (state g old).now.schema ≡ false)
names_free_if g old new (Err e) ran = tt
names_free_if g old new (Ok u) ran =
    none_used (state g old).now.schema names
    (names_free g names insert_version old new
    (in_turn g names insert_version are_cut old new (begun g old new (Ok tt) ran)))
  where
    none_used : (s : Schema) (ms : List Name)
        → AllByRecursion (λ (m : Name). is_used s (table_for m).name ≡ false) ms
        → list_any (λ (m : Name). is_used s (table_for m).name) ms ≡ false
    none_used s [] all = refl
    none_used s (m ∷ ms) all = rw (all.0) (none_used s ms all.1)
