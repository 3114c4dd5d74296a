-- UPDATE and DELETE in one table, in terms of what its rows say.
use Rattle.sqlite_schema.specs.declared.schema.Constraint.TheVariants.{Datatype}
use Rattle.sqlite_rules.proofs.{RuleLemmas.keeps_at, TableLemmas.put_all_adds}
use Rattle.tables.proofs.Words.{Answers, Bool, Column, Database, Delete, Does, Given, Has, IsPermutation}
use Rattle.tables.proofs.Words.{IsPermutation-map, List, None, Ok, Option, Order, Reference, Row, Schema, Some, Table}
use Rattle.tables.proofs.Words.{Tally, Term, Trees, Update, Value, [], and_parts, ap, are_fresh, are_typed, cast_row}
use Rattle.tables.proofs.Words.{col, cond, drop, edit_of, filter, has_got, have_rowids, id_in, ids_of, length}
use Rattle.tables.proofs.Words.{length-map, length_permutation, map, map-map, not, put_all, refl, rowid, slice_get}
use Rattle.tables.proofs.Words.{subst, sym, true, without_all, ℕ, ℤ, ◌∙◌, ◌∷◌, ◌≡◌, ◌≢◌}
use Rattle.tables.proofs.ChangeLemmas.{changed_there, deleted, found_are, numbered_given, raw, updated}
use Rattle.tables.proofs.ReadLemmas.{answered, no_limit, passes, program_of, shows}
use Rattle.tables.proofs.WriteLemmas.{IsIdle, Makes as MakesEdit, OthersHold, deletes, its_table, plain_mode, updates}
use Rattle.tables.specs.Layout.{AreRows, said}

module _ {X : Type 0} (cells : X → Row) (some : (x : X) → cells x ≢ []) (limit : Option ℕ) (params : Row)
    (schema : Schema) (db : Trees) (text : List ℕ) (at : ℕ) (idle : IsIdle schema)
    (name : List ℕ) (columns : List Column) (key : Option ℕ) (primary : List ℕ) (uniques : List (List ℕ))
    (orders : List Order) (references : List Reference) (tree : ℕ) where
  abbrev table : Table
  table = its_table limit params schema db text at name columns key primary uniques orders references tree

  module _ (listed : slice_get schema.tables at ≡ Some table) (out : Tally × Database) (keyed : Bool) (xs : List X)
      (h : AreRows keyed cells xs (db tree)) (tests : List Term) (test : X → Bool)
      (agree : (y : Value × X) → passes tests params (raw cells some keyed y) ≡ test y.1) where
    -- the rows that a statement finds have these rowids
    ids_are : (rest : List Term) (rows : List Row)
        → Answers (record { schema = schema; trees = db }) (program_of tree tests (col 1 0 ∷ rest) [] no_limit) params
        rows
        → IsPermutation (ids_of (filter (passes tests params) (db tree))) (ids_of rows)
    ids_are rest rows answer =
        subst (λ l. IsPermutation l (ids_of rows))
        (map-map (λ r. id_in (rowid r)) (shows (col 1 0 ∷ rest) params) (filter (passes tests params) (db tree)))
        (IsPermutation-map (λ r. id_in (rowid r)) _ _
        (answered schema db params tree tests (col 1 0 ∷ rest) rows answer))

    pub deletes_rows : Does limit plain_mode params (record { schema = schema; trees = db }) text None
        (Delete at (program_of tree tests (col 1 0 ∷ []) [] no_limit)) (Ok out)
        → AreRows keyed cells (filter (λ x. not (test x)) xs) (out.1.trees tree) × OthersHold schema db tree out
    deletes_rows does =
        let it = deletes limit params schema db text at name columns key primary uniques orders references tree
        listed out idle _ does in (
          deleted cells some keyed xs (db tree) h (passes tests params) test agree (ids_of it.0) (ids_are [] it.0 it.1)
              (out.1.trees tree) it.2.0.rows,
          (it.2.0.tables, it.2.1),
        )

    module _ (rest : List Term) where
      module _ (does : Does limit plain_mode params (record { schema = schema; trees = db }) text None
          (Update at (program_of tree tests (col 1 0 ∷ rest) [] no_limit)) (Ok out)) where
        abbrev it : (rows : List Row)
            × Answers (record { schema = schema; trees = db }) (program_of tree tests (col 1 0 ∷ rest) [] no_limit)
            params rows
            × MakesEdit limit params schema db text at name columns key primary uniques orders references tree
            (edit_of db table (ids_of rows) Given 1 rows) out
            × (out.0.rows ≡ Some (length (edit_of db table (ids_of rows) Given 1 rows).news))
        it = updates limit params schema db text at name columns key primary uniques orders references tree listed
            out idle _ does

        abbrev ids : List ℤ
        ids = ids_of it.0

        abbrev upd : Row → Row
        upd r = cast_row table (shows rest params r)

        abbrev news : List Row
        news = map (λ s. cast_row table (drop 1 s)) it.0

        same : (edit_of db table ids Given 1 it.0).news ≡ news
        same = numbered_given (without_all (db tree) ids) news

        are_news : IsPermutation (map upd (filter (passes tests params) (db tree))) news
        are_news =
            subst (λ l. IsPermutation l news) (map-map (λ s. cast_row table (drop 1 s)) (shows (col 1 0 ∷ rest) params)
            (filter (passes tests params) (db tree)))
            (IsPermutation-map (λ s. cast_row table (drop 1 s)) _ _
            (answered schema db params tree tests (col 1 0 ∷ rest) it.0 it.1))

        fresh_news : are_fresh (without_all (db tree) ids) news ≡ true
        fresh_news = subst (λ l. are_fresh (without_all (db tree) ids) l ≡ true) same it.2.0.fresh

        rows_are : out.1.trees tree ≡ put_all (without_all (db tree) ids) news
        rows_are = it.2.0.rows ∙ ap (put_all (without_all (db tree) ids)) same

        typed : (r : Row) → Has news r → are_typed key 0 columns (drop 1 r) ≡ true
        typed r there =
            (and_parts _ _ (keeps_at Datatype schema out.1.trees table r (it.2.0.fits.rules Datatype (λ e. cc))
            (has_got schema.tables at table listed)
            (subst (λ l. Has l r) (sym rows_are) (put_all_adds news (without_all (db tree) ids) r fresh_news there)))).0

        -- each row that is found is of the columns' types afterwards
        pub updates_typed : (x : X) → Has xs x → test x ≡ true
            → (y : Value × X) × (x ≡ y.1) × (are_typed key 0 columns (drop 1 (upd (raw cells some keyed y))) ≡ true)
        updates_typed x known ok =
            let there = changed_there cells some keyed xs (db tree) h (passes tests params) test agree ids
            (ids_are rest it.0 it.1) upd news are_news x known ok in
            (there.0, there.1, typed _ there.2)

        pub updates_rows : (change : X → X)
            → ((y : Value × X) → Has xs y.1 → test y.1 ≡ true
            → are_typed key 0 columns (drop 1 (upd (raw cells some keyed y))) ≡ true
            → said keyed (upd (raw cells some keyed y)) ≡ cells (change y.1))
            → AreRows keyed cells (map (λ x. cond (test x) (change x) x) xs) (out.1.trees tree)
            × OthersHold schema db tree out
        updates_rows change each = (
          updated cells some keyed xs (db tree) h (passes tests params) test agree ids (ids_are rest it.0 it.1) upd
              change news (out.1.trees tree) are_news
              (subst (λ l. have_rowids l ≡ true) same it.2.0.keyed) fresh_news rows_are
              (λ y own ok there. each y own ok (typed _ there)),
          (it.2.0.tables, it.2.1),
        )

        -- how many rows it finds
        pub updates_count : out.0.rows ≡ Some (length (filter test xs))
        updates_count =
            let found = found_are cells some keyed xs (db tree) h (passes tests params) test agree {Y = ℕ} (λ _. 0)
            (λ _. 0) (λ y. refl) (map (λ _. 0) it.0)
            (subst (λ l. IsPermutation l (map (λ _. 0) it.0))
            (map-map (λ _. 0) (shows (col 1 0 ∷ rest) params) (filter (passes tests params) (db tree)))
            (IsPermutation-map (λ _. 0) _ _ (answered schema db params tree tests (col 1 0 ∷ rest) it.0 it.1))) in
            it.3 ∙ ap Some (ap length same ∙ length-map it.0 (λ s. cast_row table (drop 1 s))
            ∙ sym (length-map it.0 (λ _. 0)) ∙ length_permutation _ _ found ∙ length-map (filter test xs) (λ _. 0))
