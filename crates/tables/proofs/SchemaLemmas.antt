-- Trees that list a version of our schema list no other.
use Rattle.std.proofs.Common.{unwrap_or}
use Rattle.std.specs.{List.find, List.slice_get, Str.bytes_eq}
use Rattle.sqlite_trees.specs.Objects.{catalog_tree}
use Rattle.sqlite_schema.specs.declared.schema.View.{View}
use Rattle.tables.proofs.Words.{AllByRecursion, AllZip, AreListed, Blob, Database, Err, Has, Index, Int, IsDatabase}
use Rattle.tables.proofs.Words.{IsDefined, IsIndexRow, IsTableRow, IsViewRow, List, Null, Ok, Option, Real, Result, Row}
use Rattle.tables.proofs.Words.{Schema, Some, Table, Text, Value, [], all_has, ap, arith, column, filter, is_index_row}
use Rattle.tables.proofs.Words.{is_table_row, is_view_row, length, list_all, nat_le, pos, refl, rowid, subst, suc, sym}
use Rattle.tables.proofs.Words.{test_has, true, zero, ℕ, ◌+◌, ◌∙◌, ◌∷◌, ◌≡◌}
use Rattle.tables.specs.Layout.{IsDatabaseIn, IsDatabaseOf, IsStored, IsStoredIn}
use Rattle.tables.specs.Schema.{meta, schema_of, the_schema}
use Rattle.tables.specs.{Tables.Tables, Versions.number_of, declared.version.Version.Version}
use Rattle.tables.specs.declared.version.Version.TheVariants as version

-- lists that stand for the same rows, where a row stands for one thing alone
zipped_once : {A B : Type 0} (R : A → B → Type 0) → ((a : A) (x y : B) → R a x → R a y → x ≡ y)
    → (rows : List A) (xs ys : List B) → AllZip R rows xs → AllZip R rows ys → xs ≡ ys
zipped_once R once [] [] [] p q = refl
zipped_once R once [] [] (y ∷ ys) p q = absurd q
zipped_once R once [] (x ∷ xs) ys p q = absurd p
zipped_once R once (a ∷ rows) [] ys p q = absurd p
zipped_once R once (a ∷ rows) (x ∷ xs) [] p q = absurd q
zipped_once R once (a ∷ rows) (x ∷ xs) (y ∷ ys) p q =
    let head = once a x y p.0 q.0 in
    let tail = zipped_once R once rows xs ys p.1 q.1 in
    rw (head, tail) refl

tree_once : (row : Row) (m n : ℕ) → rowid row ≡ Int (pos (m + 1)) → rowid row ≡ Int (pos (n + 1)) → m ≡ n
tree_once row m n p q =
    let same : Int (pos (m + 1)) ≡ Int (pos (n + 1)) = sym p ∙ q in
    let more : m + 1 ≡ n + 1 = cc in
    omega (arith, more)

text_once : (v : Value) (a b : List ℕ) → v ≡ Text a → v ≡ Text b → a ≡ b
text_once v a b p q = let same : Text a ≡ Text b = sym p ∙ q in cc

made_once : {X E : Type 0} (r : Result X E) (x y : X) → r ≡ Ok x → r ≡ Ok y → x ≡ y
made_once (Ok v) x y p q = let first : v ≡ x = cc in let second : v ≡ y = cc in sym first ∙ second
made_once (Err e) x y p q = absurd (let apart = p in cc)

some_once : {X : Type 0} (r : Option X) (x y : X) → r ≡ Some x → r ≡ Some y → x ≡ y
some_once r x y p q = let same : Some x ≡ Some y = sym p ∙ q in cc

table_once : (row : Row) (t u : Table) → IsTableRow row t → IsTableRow row u → t ≡ u
table_once row t u p q =
    let tree = tree_once row t.tree u.tree p.described.id q.described.id in
    let sql = text_once (column row 4) p.sql q.sql p.sql_is q.sql_is in
    let made = made_once _ p.defined.0 q.defined.0 (rw sql at p.defined.1) q.defined.1 in
    p.defined.2 ∙ rw (made, tree) refl ∙ sym q.defined.2

-- a name is one table's
abbrev table_called : Schema → List ℕ → Table
table_called s name = unwrap_or (find (λ t. bytes_eq t.name name) s.tables) meta

at_first : {X : Type 0} (xs : List X) (at : ℕ) (x : X) → nat_le (length xs) 1 ≡ true → slice_get xs at ≡ Some x → at ≡ 0
at_first [] at x few got = absurd (let apart = got in cc)
at_first (y ∷ []) zero x few got = refl
at_first (y ∷ []) (suc at) x few got = absurd (let apart = got in cc)
at_first (y ∷ z ∷ xs) at x few got = grind (arith)

no_views : (rows : List Row) (views : List View) → AllZip IsViewRow rows [] → AllZip IsViewRow rows views
    → views ≡ []
no_views [] [] p q = refl
no_views [] (v ∷ views) p q = absurd q
no_views (row ∷ rows) views p q = absurd p

module _ (ours : Schema) (named : AllByRecursion (λ (t : Table). table_called ours t.name ≡ t) ours.tables)
    (few : list_all (λ (t : Table). nat_le (length t.uniques) 1) ours.tables ≡ true) (viewless : ours.views ≡ []) where
  called : (t : Table) → Has ours.tables t → table_called ours t.name ≡ t
  called t there = all_has _ ours.tables t named there

  -- none has a second UNIQUE
  unique_once : (t : Table) → Has ours.tables t → (at : ℕ) (key : List ℕ) → slice_get t.uniques at ≡ Some key → at ≡ 0
  unique_once t there at key got =
      at_first t.uniques at key (test_has (λ (t : Table). nat_le (length t.uniques) 1) ours.tables t few there) got

  defined_once : (t : Table) → Has ours.tables t → (i j : Index) → i.tree ≡ j.tree → (v : Value)
      → IsDefined t i v → IsDefined t j v → i ≡ j
  defined_once t has i j tree Null (m, key, got, is, low) (n, other, gotten, is', low') =
      let first = unique_once t has m key got in
      let second = unique_once t has n other gotten in
      let places : m ≡ n = first ∙ sym second in
      let keys : key ≡ other = some_once _ key other (rw places at got) gotten in
      is ∙ rw (places, keys, tree) refl ∙ sym is'
  defined_once t has i j tree (Int n) p q = absurd p
  defined_once t has i j tree (Real x) p q = absurd p
  defined_once t has i j tree (Text sql) p q =
      let made = made_once _ p.0 q.0 p.1 q.1 in
      p.2 ∙ rw (made, tree) refl ∙ sym q.2
  defined_once t has i j tree (Blob b) p q = absurd p

  index_once : (row : Row) (i j : Index) → IsIndexRow ours.tables row i → IsIndexRow ours.tables row j
      → i ≡ j
  index_once row i j p q =
      let tree = tree_once row i.tree j.tree p.described.id q.described.id in
      let name = text_once (column row 3) p.table.name q.table.name p.described.owner_is q.described.owner_is in
      let table : p.table ≡ q.table = sym (called p.table p.listed) ∙ ap (table_called ours) name ∙ called q.table q.listed in
      defined_once q.table q.listed i j tree (column row 4) (subst (λ t. IsDefined t i (column row 4)) table p.defined)
      q.defined

  schema_once : (objects : List Row) (s : Schema) → AreListed objects ours → AreListed objects s → s ≡ ours
  schema_once objects s ours_listed found =
      let tables : s.tables ≡ ours.tables =
      zipped_once IsTableRow table_once (filter is_table_row objects) s.tables ours.tables found.tables ours_listed.tables in
      let indexes : s.indexes ≡ ours.indexes =
      zipped_once (IsIndexRow ours.tables) index_once (filter is_index_row objects) s.indexes ours.indexes
      (subst (λ ts. AllZip (IsIndexRow ts) (filter is_index_row objects) s.indexes) tables found.indexes) ours_listed.indexes in
      let views : s.views ≡ [] =
      no_views (filter is_view_row objects) s.views (subst (AllZip IsViewRow (filter is_view_row objects)) viewless ours_listed.views)
      found.views in
      let one : s ≡ record { tables = s.tables; indexes = s.indexes; views = s.views } = refl in
      let whole : ours ≡ record { tables = ours.tables; indexes = ours.indexes; views = [] } =
      ap (λ vs. record { tables = ours.tables; indexes = ours.indexes; views = vs }) viewless in
      one ∙ rw (tables, indexes, views) (sym whole)

-- each version's
ours : (v : Version) → let s = schema_of (number_of v) in
    AllByRecursion (λ (t : Table). table_called s t.name ≡ t) s.tables
    × (list_all (λ (t : Table). nat_le (length t.uniques) 1) s.tables ≡ true) × (s.views ≡ [])
ours version.Current = assumption
ours v = assumption

-- a database in whose trees the tables are stored is one of them
pub earlier_of_stored : (v : Version) (t : Tables) (d : Database) → IsDatabase d → IsStoredIn (number_of v) t d.trees
    → IsDatabaseIn (number_of v) t d
earlier_of_stored v t d sound stored = record {
  schema = schema_once (schema_of (number_of v)) (ours v).0 (ours v).1 (ours v).2 (d.trees catalog_tree) d.schema
      stored.listed.lists.listed sound.lists.listed;
  holds = stored.holds;
  later = stored.later;
}

pub database_of_stored : (t : Tables) (d : Database) → IsDatabase d → IsStored t d.trees → IsDatabaseOf t d
database_of_stored t d sound stored =
    let now = ours version.Current in
    record {
      schema = schema_once the_schema now.0 now.1 now.2 (d.trees catalog_tree) d.schema stored.listed.lists.listed
          sound.lists.listed;
      holds = stored.holds;
    }
