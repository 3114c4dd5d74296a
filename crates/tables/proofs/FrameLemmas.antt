-- One table changes, and the others stay.
use Rattle.std.proofs.Common.{unwrap_or}
use Rattle.tables.proofs.Words.{AllByRecursion, IsTrue, List, Some, Table, Trees, [], all_has, ap, cases_eq, find}
use Rattle.tables.proofs.Words.{has_got, inl, inr, nat_le, refl, slice_get, subst, sym, ℕ, ◌<◌, ◌==◌, ◌^◌, ◌∙◌, ◌≡◌}
use Rattle.tables.proofs.Words.{◌≢◌, ◌⊎◌}
use Rattle.tables.specs.Layout.{AreRows, Holds, HoldsAt, RowOf, cells_of, is_keyed, place_of, rows_of, tree_of}
use Rattle.tables.specs.Schema.{first_version, placed, schema_of, table_for, the_schema, the_version}
use Rattle.tables.specs.{Names.Name, Names.names, Tables.Tables, Versions.number_of, declared.version.Version.Version}
use Rattle.tables.specs.Names as name
use Rattle.tables.specs.declared.version.Version.TheVariants as version

-- ---- each table by its name

abbrev pub placed_table : Name → Table
placed_table n = placed (tree_of n) (table_for n)

pub listed_at : (v : Version) (n : Name) → IsTrue (nat_le (first_version n) (number_of v))
    → slice_get (schema_of (number_of v)).tables (place_of n) ≡ Some (placed_table n)
listed_at version.First name.GroupReader since = absurd (let apart = since in cc)
listed_at version.First name.Identity since = absurd (let apart = since in cc)
listed_at version.First name.Meta since = refl
listed_at version.First n since = refl
listed_at version.Second name.Identity since = absurd (let apart = since in cc)
listed_at version.Second n since = refl
listed_at version.Current name.Meta since = refl
listed_at version.Current n since = refl

pub is_current : (n : Name) → IsTrue (nat_le (first_version n) the_version)
is_current name.Meta = refl
is_current n = refl

pub cells_some : (n : Name) (x : RowOf n) → cells_of n x ≢ []
cells_some name.Meta x e = cc
cells_some n x e = cc

-- what holds of each table of a version of the schema holds of the tree of each name
pub at_name : (v : Version) (P : ℕ → Type 0)
    → AllByRecursion (λ (table : Table). P table.tree) (schema_of (number_of v)).tables → (n : Name)
    → IsTrue (nat_le (first_version n) (number_of v)) → P (tree_of n)
at_name v P all n since =
    all_has (λ (table : Table). P table.tree) (schema_of (number_of v)).tables (placed_table n) all
    (has_got (schema_of (number_of v)).tables (place_of n) (placed_table n) (listed_at v n since))

-- a tree is one table's
abbrev name_at : ℕ → Name
name_at tree = unwrap_or (find (λ n. tree_of n == tree) names) name.Meta

named : (n : Name) → name_at (tree_of n) ≡ n
named name.Meta = refl
named n = refl

either : (m n : Name) → (n ≡ m) ⊎ (tree_of m ≢ tree_of n)
either m n = elim (cases_eq (tree_of m) (tree_of n)) [
  | inl same ↦ inl (sym (named n) ∙ ap name_at (sym same) ∙ named m)
  | inr apart ↦ inr apart
]

-- ---- one changes

abbrev pub OthersStay : ℕ → Trees → Trees → Type 0
OthersStay tree db next = AllByRecursion (λ (t : Table). t.tree ≢ tree → next t.tree ≡ db t.tree) the_schema.tables

-- the others have their rows in the one database, and stay as they are to the next
pub framed : (db next : Trees) (u : Tables) (n : Name) → OthersStay (tree_of n) db next
    → ((m : Name) → tree_of m ≢ tree_of n → HoldsAt the_version m u db)
    → AreRows (is_keyed n) (cells_of n) (rows_of the_version n u) (next (tree_of n))
    → AllByRecursion (λ row. row.count < 2 ^ 63) u.tallies → Holds u next
framed db next u n stay others rows counts = record {
  rows = λ m since. elim (either m n) [
    | inl same ↦ subst (λ k. HoldsAt the_version k u next) same rows
    | inr apart ↦
        subst (AreRows (is_keyed m) (cells_of m) (rows_of the_version m u))
        (sym (at_name version.Current (λ tree. tree ≢ tree_of n → next tree ≡ db tree) stay m since apart))
        (others m apart)
  ];
  counts = counts;
}

-- other rows of one table
abbrev pub with_rows : (n : Name) → List (RowOf n) → Tables → Tables
with_rows name.Meta xs t = t
with_rows name.Stamp xs t = record t { stamps = xs }
with_rows name.Calibration xs t = record t { calibrations = xs }
with_rows name.Hold xs t = record t { holds = xs }
with_rows name.Deposit xs t = record t { deposits = xs }
with_rows name.Reader xs t = record t { readers = xs }
with_rows name.Tally xs t = record t { tallies = xs }
with_rows name.GroupReader xs t = record t { group_readers = xs }
with_rows name.Identity xs t = record t { identities = xs }

stays : (n m : Name) (xs : List (RowOf n)) (t : Tables) → tree_of m ≢ tree_of n
    → rows_of the_version m (with_rows n xs t) ≡ rows_of the_version m t
stays name.Meta m xs t apart = refl
stays name.Stamp name.Stamp xs t apart = absurd (apart refl)
stays name.Calibration name.Calibration xs t apart = absurd (apart refl)
stays name.Hold name.Hold xs t apart = absurd (apart refl)
stays name.Deposit name.Deposit xs t apart = absurd (apart refl)
stays name.Reader name.Reader xs t apart = absurd (apart refl)
stays name.Tally name.Tally xs t apart = absurd (apart refl)
stays name.GroupReader name.GroupReader xs t apart = absurd (apart refl)
stays name.Identity name.Identity xs t apart = absurd (apart refl)
stays n m xs t apart = refl

-- the tables hold them, where they are what the table is said to have
pub changed : (n : Name) (db next : Trees) (t : Tables) → Holds t db → (xs : List (RowOf n))
    → rows_of the_version n (with_rows n xs t) ≡ xs → OthersStay (tree_of n) db next
    → AreRows (is_keyed n) (cells_of n) xs (next (tree_of n))
    → AllByRecursion (λ row. row.count < 2 ^ 63) (with_rows n xs t).tallies → Holds (with_rows n xs t) next
changed n db next t h xs are stay rows counts =
    framed db next (with_rows n xs t) n stay
    (λ m apart. subst (λ ys. AreRows (is_keyed m) (cells_of m) ys (db (tree_of m))) (sym (stays n m xs t apart))
    (h.rows m (is_current m)))
    (subst (λ ys. AreRows (is_keyed n) (cells_of n) ys (next (tree_of n))) (sym are) rows) counts
