-- Making tables: each by its text, one after the other, in whatever schema there is. A version of the schema that has
-- further tables is one more such list.
use Rattle.std.specs.Prelude.{ℕ, List, [], ◌∷◌, ◌++◌, None, Some, slice_get}
use Rattle.tables.specs.{Names.Name, Names.names, Layout.place_of, declared.migration.TheConstants.SET_VERSION}
use Rattle.tables.specs.declared.creation.TheConstants.{MAKE_EACH, INSERT_VERSION}

-- the text that makes a table
abbrev pub text_for : Name → List ℕ
text_for n = elim (slice_get MAKE_EACH.now (place_of n)) [
  | None ↦ []
  | Some text ↦ text.now
]

-- the one row of `meta`
abbrev pub insert_version : List ℕ
insert_version = INSERT_VERSION.now

-- the texts one after the other, and then another
abbrev pub joined : List Name → List ℕ → List ℕ
joined [] last = last
joined (n ∷ more) last = text_for n ++ joined more last

-- all tables, and that row
abbrev pub make_all : List ℕ
make_all = joined names insert_version

-- that row in a database of an earlier version, once the tables of the later ones are made
abbrev pub set_version : List ℕ
set_version = SET_VERSION.now
