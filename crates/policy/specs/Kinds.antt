-- The kinds of keys of a policy file, and their values.
use Rattle.std.specs.Prelude.{ℕ, ◌+◌, ℤ, pos, negsuc, ◌==◌, ◌||◌, ◌&&◌, nat_le, not, Bool, true, false, if◌then◌else◌}
use Rattle.std.specs.Prelude.{List, [], ◌∷◌, ◌++◌, length, codes, Option, Some, None, Result, Ok, Err}
use Rattle.std.specs.{List.list_all, List.list_any, Result.result_ok, Str.bytes_eq}
use Rattle.der.specs.{ObjectIdentifier.oid_content, OidText.oid_of_text}
use Rattle.hex.specs.Hex.{decode_sized}
use Rattle.toml.specs.Data.{Data, Items, no_items, item, Members, no_members, member, get_member, as_str, as_integer}
use Rattle.toml.specs.Data.{as_bool, as_array, as_table}
use Rattle.policy.specs.declared.{fault.PolicyFault.PolicyFault, field.Field.Field, field.Field.TheVariants.Key}
use Rattle.policy.specs.declared.fault.PolicyFault.TheVariants.{Missing, BadValue, Duplicate, UnknownName, TooMany}

-- the second step, where the first found no fault
infixl 10 ◌>>=◌
abbrev pub ◌>>=◌ : {A B : Type 0} → Result A PolicyFault → (A → Result B PolicyFault) → Result B PolicyFault
(Ok x) >>= f = f x
(Err fault) >>= f = Err fault

-- a value that passed a test
abbrev pub test : {A : Type 0} → Bool → PolicyFault → A → Result A PolicyFault
test passed fault x = if passed then Ok x else Err fault

abbrev pub check : Bool → PolicyFault → Result (Unit {0}) PolicyFault
check passed fault = test passed fault tt

-- a value of the kind that is asked
abbrev pub given : {A : Type 0} → Field → Option A → Result A PolicyFault
given field None = Err (BadValue field)
given field (Some x) = Ok x

-- a key that has to stand
abbrev pub wanted : {A : Type 0} → Field → (Data → Result A PolicyFault) → Option Data → Result A PolicyFault
wanted field read None = Err (Missing field)
wanted field read (Some d) = read d

-- a key that may be absent, and what that means
abbrev pub optional : {A : Type 0} → A → (Data → Result A PolicyFault) → Option Data → Result A PolicyFault
optional absent read None = Ok absent
optional absent read (Some d) = read d

-- a text is among others
abbrev pub is_among : List (List ℕ) → List ℕ → Bool
is_among names name = list_any (λ other. bytes_eq other name) names

-- no text stands twice
abbrev pub are_distinct : List (List ℕ) → Bool
are_distinct [] = true
are_distinct (name ∷ names) = not (is_among names name) && are_distinct names

-- each key of the table is one of these
abbrev pub has_only : List (List ℕ) → Members → Bool
has_only known no_members = true
has_only known (member key d ms) = is_among known key && has_only known ms

abbrev pub only : List (List ℕ) → Members → Result (Unit {0}) PolicyFault
only known ms = check (has_only known ms) (UnknownName Key)

-- a boolean
abbrev pub truth_in : Field → Data → Result Bool PolicyFault
truth_in field d = given field (as_bool d)

-- a number that isn't negative
abbrev pub natural_of : ℤ → Option ℕ
natural_of (pos n) = Some n
natural_of (negsuc n) = None

-- an integer from low to high
unfoldable pub number_in : Field → ℕ → ℕ → Data → Result ℕ PolicyFault
number_in field low high d = do
  z ← given field (as_integer d)
  n ← given field (natural_of z)
  test (nat_le low n && nat_le n high) (BadValue field) n

-- a lower-case ASCII letter, a digit or a hyphen
abbrev pub is_name_character : ℕ → Bool
is_name_character c = (nat_le 0x61 c && nat_le c 0x7a) || (nat_le 0x30 c && nat_le c 0x39) || (c == 0x2d)

-- 1 to 32 of these
unfoldable pub is_name : List ℕ → Bool
is_name text = (nat_le 1 (length text) && nat_le (length text) 32) && list_all is_name_character text

unfoldable pub name_in : Field → Data → Result (List ℕ) PolicyFault
name_in field d = do
  text ← given field (as_str d)
  test (is_name text) (BadValue field) text

-- a name where there is one
unfoldable pub some_name_in : Field → Data → Result (Option (List ℕ)) PolicyFault
some_name_in field d = do
  name ← name_in field d
  Ok (Some name)

-- an object identifier's text
unfoldable pub oid_in : Field → Data → Result (List ℕ) PolicyFault
oid_in field d = do
  text ← given field (as_str d)
  given field (oid_of_text text)

-- 64 hexadecimal digits of either case, the 32 octets of a SHA-256
unfoldable pub hash_in : Field → Data → Result (List ℕ) PolicyFault
hash_in field d = do
  text ← given field (as_str d)
  given field (result_ok (decode_sized text 32))

-- a name, object identifier or hash that no earlier entry has
abbrev pub fresh : Field → List (List ℕ) → List ℕ → Result (List ℕ) PolicyFault
fresh field earlier x = test (not (is_among earlier x)) (Duplicate field) x

-- the key `name` of an entry
unfoldable pub new_name_in : Field → List (List ℕ) → Members → Result (List ℕ) PolicyFault
new_name_in field earlier ms = wanted field (name_in field) (get_member (codes "name") ms) >>= fresh field earlier

-- the key `oid` of an entry: object identifiers are compared by their contents octets
unfoldable pub new_oid_in : Field → List (List ℕ) → Members → Result (List ℕ) PolicyFault
new_oid_in field earlier ms = do
  oid ← wanted field (oid_in field) (get_member (codes "oid") ms)
  new ← fresh field earlier (oid_content oid)
  Ok oid

-- a key hash is this one
abbrev pub is_hash : List ℕ → Option (List ℕ) → Bool
is_hash hash None = false
is_hash hash (Some own) = bytes_eq own hash

-- a key hash that no earlier entry has
unfoldable pub new_hash_in : Field → List (Option (List ℕ)) → Data → Result (Option (List ℕ)) PolicyFault
new_hash_in field earlier d = do
  hash ← hash_in field d
  test (not (list_any (is_hash hash) earlier)) (Duplicate field) (Some hash)

-- entries one after the other, each of which may look at those before it
abbrev pub entries_after : {A : Type 0} → (List A → Data → Result A PolicyFault) → List A → Items
    → Result (List A) PolicyFault
entries_after read earlier no_items = Ok earlier
entries_after read earlier (item d ds) = read earlier d >>= λ entry. entries_after read (earlier ++ entry ∷ []) ds

-- names of a list: at least as many as asked, none twice, and each exists
unfoldable pub listed : Field → ℕ → List (List ℕ) → List (List ℕ) → Result (Unit {0}) PolicyFault
listed field least existing names = do
  enough ← check (nat_le least (length names)) (BadValue field)
  different ← check (are_distinct names) (Duplicate field)
  check (list_all (is_among existing) names) (UnknownName field)

-- the values of an array
unfoldable pub values_in : Field → Data → Result Items PolicyFault
values_in field d = given field (as_array d)

-- a list of names
unfoldable pub names_in : Field → ℕ → List (List ℕ) → Data → Result (List (List ℕ)) PolicyFault
names_in field least existing d = do
  ds ← values_in field d
  names ← entries_after (λ earlier. name_in field) [] ds
  right ← listed field least existing names
  Ok names

abbrev pub is_table : Data → Bool
is_table d = elim (as_table d) [ Some ms ↦ true | None ↦ false ]

-- each value is a table
abbrev pub are_tables : Items → Bool
are_tables no_items = true
are_tables (item d ds) = is_table d && are_tables ds

abbrev pub count_of : Items → ℕ
count_of no_items = 0
count_of (item d ds) = 1 + count_of ds

-- an array of at most so many tables
unfoldable pub tables_in : Field → ℕ → Data → Result Items PolicyFault
tables_in field most d = do
  ds ← values_in field d
  tables ← check (are_tables ds) (BadValue field)
  test (nat_le (count_of ds) most) (TooMany field) ds

-- an entry of such an array
unfoldable pub entry_in : {A : Type 0} → Field → (List A → Members → Result A PolicyFault) → List A → Data
    → Result A PolicyFault
entry_in field read earlier d = given field (as_table d) >>= read earlier

-- an array of tables that may be absent, which means empty
unfoldable pub array_in : {A : Type 0} → Field → ℕ → (List A → Members → Result A PolicyFault) → Option Data
    → Result (List A) PolicyFault
array_in field most read d = do
  ds ← optional no_items (tables_in field most) d
  entries_after (entry_in field read) [] ds
