-- The schema: each table as the text that makes it (Making.antt) defines it.
use Rattle.std.specs.Prelude.{true, false, ℕ, List, [], ◌∷◌, map, filter, nat_le, codes, Option, Some, None}
use Rattle.sqlite_value.specs.declared.keys.Collation.TheVariants.{Binary}
use Rattle.sqlite_value.specs.{declared.value.Value.TheVariants.Null, declared.keys.Order.Order, Keys.plain}
use Rattle.sqlite_schema.specs.declared.schema.Kind.TheVariants.{Integer, Text, Blob}
use Rattle.sqlite_schema.specs.{declared.schema.Kind.Kind, declared.schema.Action.TheVariants.NoAction}
use Rattle.sqlite_schema.specs.{declared.schema.Column.Column, declared.schema.Reference.Reference}
use Rattle.sqlite_schema.specs.{declared.schema.Table.Table, declared.schema.Schema.Schema}
use Rattle.sqlite_catalog.specs.Change.{created}
use Rattle.tables.specs.Names.{Name, names}
use Rattle.tables.specs.Names as name

abbrev pub key : List ℕ → Column
key name = record {
  name = name;
  kind = Integer;
  is_strict = true;
  not_null = false;
  default = Null;
  collation = Binary;
}

abbrev pub required : List ℕ → Kind → Column
required name kind =
    record { name = name; kind = kind; is_strict = true; not_null = true; default = Null; collation = Binary }

abbrev pub optional : List ℕ → Kind → Column
optional name kind =
    record { name = name; kind = kind; is_strict = true; not_null = false; default = Null; collation = Binary }

abbrev pub reference_to : List ℕ → ℕ → List ℕ → Reference
reference_to parent place column = record {
  columns = place ∷ [];
  parent = parent;
  parent_columns = column ∷ [];
  on_delete = NoAction;
  on_update = NoAction;
  is_deferred = false;
}

-- a table as its text defines it, before it has a tree
abbrev pub table_of : List ℕ → List Column → Option ℕ → List ℕ → List (List ℕ) → List Order → List Reference → Table
table_of name columns key primary uniques orders references = record {
  name = name;
  tree = 0;
  columns = columns;
  key = key;
  primary = primary;
  uniques = uniques;
  orders = orders;
  checks = [];
  references = references;
  computed = [];
  stamps = record { places = []; terms = []; formats = [] };
  is_counted = false;
}

abbrev pub placed : ℕ → Table → Table
placed tree table = record table { tree = tree }

abbrev pub meta : Table
meta = table_of (codes "meta") (required (codes "version") Integer ∷ []) None [] [] [] []

abbrev pub stamp : Table
stamp = table_of (codes "stamp")
    (key (codes "serial") ∷ required (codes "account") Text ∷ required (codes "day") Integer
    ∷ required (codes "gen") Integer
    ∷ required (codes "policy") Blob ∷ required (codes "algorithm") Blob ∷ required (codes "digest") Blob
    ∷ required (codes "request") Blob
    ∷ required (codes "tst") Blob ∷ optional (codes "token") Blob ∷ [])
    (Some 0) (0 ∷ []) [] [] []

abbrev pub calibration : Table
calibration = table_of (codes "calibration")
    (key (codes "n") ∷ required (codes "reading") Integer ∷ required (codes "offset_us") Integer
    ∷ required (codes "uncertainty") Integer ∷ [])
    (Some 0) (0 ∷ []) [] [] []

abbrev pub hold : Table
hold = table_of (codes "hold") (key (codes "n") ∷ required (codes "from_us") Integer ∷ required (codes "to_us") Integer
    ∷ []) (Some 0) (0 ∷ []) [] [] []

abbrev pub deposit : Table
deposit = table_of (codes "deposit")
    (key (codes "serial") ∷ required (codes "owner") Text ∷ required (codes "reference") Text
    ∷ required (codes "bytes") Blob ∷ [])
    (Some 0) (0 ∷ []) ((2 ∷ 3 ∷ []) ∷ []) (plain ∷ []) (reference_to (codes "stamp") 0 (codes "serial") ∷ [])

-- a right is to read a deposit, of somebody by name, and stands there once
abbrev pub right_table : List ℕ → List ℕ → Table
right_table name whom = table_of name (required (codes "serial") Integer ∷ required whom Text ∷ [])
    None (1 ∷ 2 ∷ []) ((1 ∷ 2 ∷ []) ∷ []) (plain ∷ []) (reference_to (codes "deposit") 1 (codes "serial") ∷ [])

abbrev pub reader : Table
reader = right_table (codes "reader") (codes "account")

abbrev pub tally : Table
tally = table_of (codes "tally") (required (codes "account") Text ∷ required (codes "day") Integer
    ∷ required (codes "count") Integer ∷ [])
    None (1 ∷ 2 ∷ []) ((1 ∷ 2 ∷ []) ∷ []) (plain ∷ []) []

abbrev pub group_reader : Table
group_reader = right_table (codes "group_reader") (codes "name")

abbrev pub identity : Table
identity = table_of (codes "identity")
    (key (codes "n") ∷ required (codes "after_serial") Integer ∷ required (codes "certificate") Blob
    ∷ required (codes "chain") Blob ∷ [])
    (Some 0) (0 ∷ []) [] [] []

-- ---- each table by its name

abbrev pub table_for : Name → Table
table_for name.Meta = meta
table_for name.Stamp = stamp
table_for name.Calibration = calibration
table_for name.Hold = hold
table_for name.Deposit = deposit
table_for name.Reader = reader
table_for name.Tally = tally
table_for name.GroupReader = group_reader
table_for name.Identity = identity

-- the version of the schema that has it first
abbrev pub first_version : Name → ℕ
first_version name.GroupReader = 2
first_version name.Identity = 3
first_version _ = 1

-- the schema, as it is after each of these tables is made

abbrev pub no_schema : Schema
no_schema = record { tables = []; indexes = []; views = [] }

abbrev pub schema_after : List Table → Schema → Schema
schema_after [] before = before
schema_after (table ∷ more) before = schema_after more (created before table)

abbrev pub schema_of : ℕ → Schema
schema_of version = schema_after (map table_for (filter (λ n. nat_le (first_version n) version) names)) no_schema

-- the version of now, as the one row of `meta` says it
abbrev pub the_version : ℕ
the_version = 3

abbrev pub the_schema : Schema
the_schema = schema_of the_version
