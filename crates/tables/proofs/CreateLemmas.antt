-- The batch that makes the tables, from an empty schema.
use Rattle.tables.proofs.Words.{AllByRecursion, Chosen, CreateTable, Database, Does, Err, Error, ExecutesAllInside}
use Rattle.tables.proofs.Words.{ExecutesIn, Ghosts, HasCleanDisk, Held, Insert, Int, IsDatabase, IsPermutation-refl}
use Rattle.tables.proofs.Words.{IsPlain, IsTrue, KeepsCommit, KeepsRows, List, None, Null, Ok, OnOk, Option, Result}
use Rattle.tables.proofs.Words.{Row, Schema, State, Survives, Table, Tally, Term, Trees, Values, Writes, [], all-append}
use Rattle.tables.proofs.Words.{all_both, ap, command_of, created, edit_of, everything, false, is_used, lacks_sequence}
use Rattle.tables.proofs.Words.{length, lit, map, next_rowid, next_tree, pos, refl, state, statement_of, subst, sym}
use Rattle.tables.proofs.Words.{table_defined_by, true, understood, value_rows, ℕ, ◌∙◌, ◌∷◌, ◌≡◌, ◌≢◌}
use Rattle.tables.proofs.BatchLemmas.{Goes, InTurn, Ran, are_cut, in_turn, ran_as}
use Rattle.tables.proofs.FrameLemmas.{at_name, framed, is_current, placed_table}
use Rattle.tables.proofs.InsertLemmas.{cast_int, cast_null}
use Rattle.tables.proofs.WriteLemmas.{inserts, plain_mode, same_ok, went}
use Rattle.tables.proofs.{ChangeLemmas.inserted, NameLemmas.free_as_alone, NameLemmas.makes}
use Rattle.tables.specs.Layout.{AreRows, HoldsAt, IsDatabaseOf, tree_of, version_cells}
use Rattle.tables.specs.Schema.{no_schema, placed, schema_after, table_for, the_schema, the_version}
use Rattle.tables.specs.auxiliary.Creation.{insert_version, make_all, text_for}
use Rattle.tables.specs.{Names.Name, Names.names, Tables.no_rows, Transaction.CarriesFrom, Transaction.GoesFrom}
use Rattle.tables.specs.declared.version.Version.TheVariants as version
use Rattle.tables.specs.Names as name

-- ---- one table

-- a text as it makes this table in a schema
abbrev pub MakesIn : Schema → List ℕ → Table → Type 0
MakesIn schema sql table =
    (command_of (understood schema sql) ≡ CreateTable)
    × (table_defined_by (statement_of sql (understood schema sql)) ≡ Ok table) × IsPlain (understood schema sql)

pub table_made : (old new : State) (schema : Schema) (text : List ℕ) (table : Table) (count : ℕ)
    → old.now.schema ≡ schema → table_defined_by text ≡ Ok table → lacks_sequence (created schema table) ≡ false
    → Writes old new None CreateTable text [] count
    → (new.now.schema ≡ created schema table) × (new.now.trees (next_tree schema) ≡ [])
    × KeepsRows schema.tables old.now.trees new.now.trees
table_made old new schema text table count has defined plain_schema w =
    let all = went w.changed in
    let first = went all.1 in
    let made = first.1 in
    let both : Ok made.table ≡ Ok table = sym made.defined ∙ defined in
    let same : made.table ≡ table = cc in
    let now_schema : first.0.schema ≡ created schema table =
    made.is ∙ ap (λ s. created s made.table) has ∙ ap (created schema) same in
    let lacks : lacks_sequence first.0.schema ≡ false = ap lacks_sequence now_schema ∙ plain_schema in
    let now : new.now ≡ first.0 =
    ap (λ (p : Tally × Database). p.1) (same_ok all.2) ∙ same_ok (rw lacks at first.2) in (
      ap (λ (d : Database). d.schema) now ∙ now_schema,
      ap (λ (d : Database). d.trees (next_tree schema)) now
          ∙ subst (λ s. first.0.trees (next_tree s) ≡ []) has made.empty,
      subst (λ s. KeepsRows s.tables old.now.trees new.now.trees) has
          (subst (λ (d : Database). KeepsRows old.now.schema.tables old.now.trees d.trees) (sym now) made.others),
    )

pub makes_table : (sql : List ℕ) (old new : State) (schema : Schema) (table : Table) (count : ℕ)
    → old.now.schema ≡ schema → MakesIn schema sql table → lacks_sequence (created schema table) ≡ false
    → ExecutesIn true sql [] old new (Ok count)
    → (new.now.schema ≡ created schema table) × (new.now.trees (next_tree schema) ≡ [])
    × KeepsRows schema.tables old.now.trees new.now.trees
makes_table sql old new schema table count has is plain_schema h =
    table_made old new schema _ table count has is.1 plain_schema
    (ran_as sql old new schema has CreateTable is.0 is.2 count h)

-- where its name is free
pub makes_in : (m : Name) (s : Schema) → is_used s (table_for m).name ≡ false → MakesIn s (text_for m) (table_for m)
makes_in m s free =
    subst (λ r. (command_of r ≡ CreateTable) × (table_defined_by (statement_of (text_for m) r) ≡ Ok (table_for m))
    × IsPlain r)
    (sym (free_as_alone (text_for m) (table_for m) (makes m).depends (makes m).alone s free)) (makes m).alone

-- ---- all of them

abbrev pub schema_with : Schema → List Name → Schema
schema_with s ns = schema_after (map table_for ns) s

-- each name is free when its turn comes, and no table counts its rows
abbrev pub AreNew : Schema → List Name → Type 0
AreNew s [] = Unit {0}
AreNew s (m ∷ more) =
    (is_used s (table_for m).name ≡ false) × (lacks_sequence (created s (table_for m)) ≡ false)
    × AreNew (created s (table_for m)) more

abbrev AreEmpty : Schema → Trees → Type 0
AreEmpty s db = AllByRecursion (λ (t : Table). db t.tree ≡ []) s.tables

one_more : (s : Schema) (table : Table) (old new : Trees) → new (next_tree s) ≡ [] → KeepsRows s.tables old new
    → AreEmpty s old → AreEmpty (created s table) new
one_more s table old new empty keeps all =
    all-append (λ (t : Table). new t.tree ≡ []) s.tables (placed (next_tree s) table ∷ [])
    (all_both (λ (t : Table). new t.tree ≡ old t.tree) (λ (t : Table). old t.tree ≡ []) (λ (t : Table). new t.tree ≡ [])
    (λ t same none. same ∙ none) s.tables keeps all)
    (empty, tt)

module _ {S : Type 0} (g : Ghosts S) where
  record Made (s : Schema) (ns : List Name) (last : List ℕ) (new : Held S) : Type 0 where
    mid : Held S
    ran : Ran g last mid new
    schema : (state g mid).now.schema ≡ schema_with s ns
    empty : AreEmpty (schema_with s ns) (state g mid).now.trees

  all_made : (ns : List Name) (last : List ℕ) (old new : Held S)
      (s : Schema) → (state g old).now.schema ≡ s → AreNew s ns → AreEmpty s (state g old).now.trees
      → InTurn g ns last old new → Made s ns last new
  all_made [] last old new s has free empty ran = record { mid = old; ran = ran; schema = has; empty = empty }
  all_made (m ∷ more) last old new s has free empty (mid, ran, rest) =
      let made = makes_table (text_for m) (state g old) (state g mid) s (table_for m) ran.0 has
      (makes_in m s free.0) free.1
      ran.1 in
      let it = all_made more last mid new (created s (table_for m)) made.0 free.2
      (one_more s (table_for m) (state g old).now.trees (state g mid).now.trees made.1 made.2 empty) rest in
      record { mid = it.mid; ran = it.ran; schema = it.schema; empty = it.empty }

ours_new : AreNew no_schema names
unfolding everything
ours_new = assumption

-- ---- the row of `meta`, over tables with no row

abbrev pub version_terms : List Term
version_terms = lit Null ∷ lit (Int (pos the_version)) ∷ []

version_is : (command_of (understood the_schema insert_version) ≡ Insert 0 (Values version_terms 2))
    × IsPlain (understood the_schema insert_version)
unfolding understood everything
version_is = (refl, (refl, refl))

version_news : (db : Trees) → (edit_of db (placed_table name.Meta) [] Chosen 0 (value_rows [] 2 1 version_terms)).news
    ≡ (Int (next_rowid (db 0)) ∷ version_cells the_version) ∷ []
version_news db = simp (cast_int, cast_null)

pub empty_rows : {X : Type 0} (keyed : _) (cells : X → Row) (rows : List Row) → rows ≡ []
    → AreRows keyed cells [] rows
empty_rows keyed cells rows none =
    subst (AreRows keyed cells []) (sym none) (record { shaped = (tt, tt); same = IsPermutation-refl [] })

versioned : (limit : Option ℕ) (text : List ℕ) (db : Trees) (out : Tally × Database)
    → AreEmpty the_schema db
    → Does limit plain_mode [] (record { schema = the_schema; trees = db }) text None
    (Insert 0 (Values version_terms 2)) (Ok out) → IsDatabaseOf no_rows out.1
versioned limit text db out empty does =
    let made = inserts limit [] the_schema db text 0 _ _ _ _ _ _ _ 0 refl out version_terms 2 does in
    record {
      schema = made.1;
      holds = framed db out.1.trees no_rows name.Meta made.0.tables others
          (inserted version_cells (λ x e. cc) false [] the_version (db 0) (out.1.trees 0) _ (Int (next_rowid (db 0))
          ∷ version_cells the_version) (empty_rows false version_cells (db 0) (none name.Meta)) made.0.keyed made.0.fresh
          made.0.rows (version_news db) refl) tt;
    }
  where
    none : (n : Name) → db (tree_of n) ≡ []
    none n = at_name version.Current (λ tree. db tree ≡ []) empty n (is_current n)

    others : (m : Name) → tree_of m ≢ 0 → HoldsAt the_version m no_rows db
    others name.Meta apart = absurd (apart refl)
    others m apart = empty_rows _ _ _ (none m)

pub made_all : {S : Type 0} (g : Ghosts S) (old new : Held S) → (state g old).now.schema ≡ no_schema
    → Goes g make_all old new (Ok tt) → IsDatabaseOf no_rows (state g new).now × IsDatabase (state g new).now
made_all g old new has ran =
    let it = all_made g names insert_version old new no_schema has ours_new tt
    (in_turn g names insert_version are_cut old new ran) in
    let w = ran_as insert_version (state g it.mid) (state g new) the_schema it.schema (Insert 0 (Values version_terms 2))
    version_is.0 version_is.1 it.ran.0 it.ran.1 in
    let text = statement_of insert_version (understood the_schema insert_version) in
    let does = subst (λ s. Does (state g it.mid).step_limit plain_mode []
    (record { schema = s; trees = (state g it.mid).now.trees }) text None (Insert 0 (Values version_terms 2))
    (Ok (w.tally, (state g new).now))) it.schema w.changed in (
      versioned (state g it.mid).step_limit text (state g it.mid).now.trees (w.tally, (state g new).now) it.empty does,
      w.sound,
    )

pub begun : {S : Type 0} (g : Ghosts S) (old new : Held S) (r : Result (Unit {0}) Error)
    → ExecutesAllInside g 0 make_all old new r → Goes g make_all old new r
unfolding ExecutesAllInside
begun g old new r ran = (length make_all, ran)

pub all_carried : {S : Type 0} (g : Ghosts S) (old new : Held S) (result : Result (Unit {0}) Error)
    → Survives (state g old) (state g new) (λ _. ⊥)
    → (HasCleanDisk (state g new) → ExecutesAllInside g 0 make_all old new result)
    → (HasCleanDisk (state g new) → KeepsCommit (state g old) (state g new))
    → (HasCleanDisk (state g new) → OnOk result ((state g new).in_transaction ≡ (state g old).in_transaction))
    → CarriesFrom (λ _ (d : Database). d.schema ≡ no_schema) (IsTrue (state g old).is_open) (λ _. no_rows) (state g old)
    (state g new) result
all_carried g old new result survives ran kept inside =
    record {
      survives = survives;
      kept = λ clean _. kept clean;
      ok = λ clean within. go result (ran clean) (inside clean) within;
    }
  where
    go : (r : Result (Unit {0}) Error) → ExecutesAllInside g 0 make_all old new r
        → OnOk r ((state g new).in_transaction ≡ (state g old).in_transaction) → IsTrue (state g old).in_transaction
        → OnOk r (GoesFrom (λ _ (d : Database). d.schema ≡ no_schema) (IsTrue (state g old).is_open) (λ _. no_rows)
        (state g old) (state g new))
    go (Err e) all same within = tt
    go (Ok u) all same within =
        record {
          was_open = λ is_open. is_open;
          inside = subst (λ b. IsTrue b) (sym same) within;
          goes = λ t has. (made_all g old new has (begun g old new (Ok tt) all)).0;
          sound = λ t has. (made_all g old new has (begun g old new (Ok tt) all)).1;
        }
