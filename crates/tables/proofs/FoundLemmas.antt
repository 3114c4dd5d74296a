-- What a look-up tells of the tables, in the words of what is read of the first row of an answer.
use Rattle.std.specs.Option.{is_some}
use Rattle.tables.proofs.Words.{Bool, Contains, Ghosts, Has, List, None, Option, Result, Row, Some, [], ap}
use Rattle.tables.proofs.Words.{contains_had, false, has_contained, inl, inr, list_any, map, refl, subst, sym, true, ℕ}
use Rattle.tables.proofs.LookupLemmas.{Finds, FindsAll, FindsGreatest, FindsLeast}
use Rattle.tables.proofs.{Words.◌++◌, Words.◌||◌, Words.◌∙◌, Words.◌∷◌, Words.◌≡◌, BaseReads.retold}
use Rattle.tables.specs.Found.{AreFoundAs, IsFoundAs, IsGreatestAs, IsLeastAs}
use Rattle.tables.specs.Queries.{LooksUp, TellsAllAs, TellsAs, TellsRow}
use Rattle.tables.specs.QueryAnswers.{AreReadAs, IsReadAs, TellsFirst, TellsRows}
use Rattle.tables.specs.{Base.BaseValue, Tables.Tables, declared.fault.TableFault.TableFault}

module _ {X Y : Type 0} (image : X → Row) (IsRead : Row → Y → Type 0) (Shows : X → Y → Type 0)
    (read : (x : X) (row : Row) (y : Y) → row ≡ image x → IsRead row y → Shows x y) (xs : List X) where
  found_as : (test : X → Bool) (row : Option Row) (found : Option Y)
      → IsFoundAs (λ x r. r ≡ image x) test xs row → IsReadAs IsRead row found → IsFoundAs Shows test xs found
  found_as test None found h e = rw e h
  found_as test (Some row) found h (y, e, is) = rw e (h.0, h.1, h.2, read h.0 row y h.3 is)

  greatest_as : (key : X → ℕ) (row : Option Row) (found : Option Y)
      → IsGreatestAs (λ x r. r ≡ image x) key xs row → IsReadAs IsRead row found → IsGreatestAs Shows key xs found
  greatest_as key None found h e = rw e h
  greatest_as key (Some row) found h (y, e, is) = rw e (h.0, h.1, h.2, read h.0 row y h.3 is)

  least_as : (key : X → ℕ) (test : X → Bool) (row : Option Row) (found : Option Y)
      → IsLeastAs (λ x r. r ≡ image x) key test xs row → IsReadAs IsRead row found → IsLeastAs Shows key test xs found
  least_as key test None found h e = rw e h
  least_as key test (Some row) found h (y, e, is) = rw e (h.0, h.1, h.2, h.3, read h.0 row y h.4 is)

-- whether one is found is whether any passes
found_any : {X Y : Type 0} (Shows : X → Y → Type 0) (test : X → Bool) (xs : List X) (row : Option Y)
    → IsFoundAs Shows test xs row → is_some row ≡ list_any test xs
found_any Shows test xs None found = sym (none test xs found) where
  none : {X : Type 0} (p : X → Bool) (xs : List X) → ((x : X) → Contains xs x → p x ≡ false) → list_any p xs ≡ false
  none p [] f = refl
  none p (x ∷ xs) f = rw (f x (contains_had (x ∷ xs) x (inl refl)))
      (none p xs (λ y m. f y (contains_had (x ∷ xs) y (inr (has_contained xs y m)))))
found_any Shows test xs (Some y) (x, m, passes, shows) = sym (some test xs x (has_contained xs x m) passes) where
  some : {X : Type 0} (p : X → Bool) (xs : List X) (x : X) → Has xs x → p x ≡ true → list_any p xs ≡ true
  some p [] x h e = absurd h
  some p (y ∷ xs) x (inl same) e = rw (ap p (sym same) ∙ e) refl
  some p (y ∷ xs) x (inr h) e = rw (some p xs x h e) (or_true (p y)) where
    or_true : (b : Bool) → (b || true) ≡ true
    or_true true = refl
    or_true false = refl

-- of a text, with its parameters as they were given
module _ {S X : Type 0} (g : Ghosts S) {sql : List ℕ} {params : Row} {rows : Tables → List X} {image : X → Row}
    (given : Row) (same : given ≡ params) (old new : BaseValue S) where
  module _ {Y : Type 0} (IsRead : Row → Y → Type 0) (Shows : X → Y → Type 0)
      (read : (x : X) (row : Row) (y : Y) → row ≡ image x → IsRead row y → Shows x y)
      (r : Result (Option Y) TableFault) (l : LooksUp g (TellsAs IsRead sql given) old new r) where
    pub found_looks : {test : X → Bool} → Finds sql params rows image test
        → LooksUp g (λ t found. IsFoundAs Shows test (rows t) found) old new r
    found_looks {test} finds = retold g _ _ old new r
        (λ t found (row, (db, h, told), is). found_as image IsRead Shows read (rows t) test row found
        (finds.found t db row h (subst (λ p. TellsFirst sql p db row) same (told finds.text))) is) l

    pub least_looks : {test : X → Bool} {key : X → ℕ} → FindsLeast sql params rows image test key
        → LooksUp g (λ t found. IsLeastAs Shows key test (rows t) found) old new r
    least_looks {test} {key} finds = retold g _ _ old new r
        (λ t found (row, (db, h, told), is). least_as image IsRead Shows read (rows t) key test row found
        (finds.found t db row h (subst (λ p. TellsFirst sql p db row) same (told finds.text))) is) l

    pub greatest_looks : {key : X → ℕ} → FindsGreatest sql params rows image key
        → LooksUp g (λ t found. IsGreatestAs Shows key (rows t) found) old new r
    greatest_looks {key} finds = retold g _ _ old new r
        (λ t found (row, (db, h, told), is). greatest_as image IsRead Shows read (rows t) key row found
        (finds.found t db row h (subst (λ p. TellsFirst sql p db row) same (told finds.text))) is) l

  pub any_looks : {test : X → Bool} (r : Result Bool TableFault)
      → LooksUp g (λ t any. (row : Option Row) × TellsRow sql given t row × (any ≡ is_some row)) old new r
      → Finds sql params rows image test → LooksUp g (λ t any. any ≡ list_any test (rows t)) old new r
  any_looks {test} r l finds = retold g _ _ old new r
      (λ t any (row, (db, h, told), is). is ∙ found_any _ test (rows t) row
      (finds.found t db row h (subst (λ p. TellsFirst sql p db row) same (told finds.text)))) l

-- the same parameters
pub looks_given : {S Y : Type 0} (g : Ghosts S) {sql : List ℕ} {IsRead : Row → Y → Type 0} {given params : Row}
    {old new : BaseValue S} {r : Result (Option Y) TableFault} → given ≡ params
    → LooksUp g (TellsAs IsRead sql given) old new r → LooksUp g (TellsAs IsRead sql params) old new r
looks_given g {sql} {IsRead} {given} {params} {old} {new} {r} same l =
    subst (λ p. LooksUp g (TellsAs IsRead sql p) old new r) same l

-- what is read of rows is what they say
pub all_read : {Y Z : Type 0} (view : Y → Z) (read : Row → Z) (rows : List Row) (found : List Y)
    → AreReadAs (λ row y. view y ≡ read row) rows found → map view found ≡ map read rows
all_read view read [] found e = rw e refl
all_read view read (row ∷ rows) found (y, others, e, is, more) = rw (e, is, all_read view read rows others more) refl

-- and one more row
pub read_more : {Y : Type 0} (Shows : Row → Y → Type 0) (rows : List Row) (found : List Y) (row : Row) (y : Y)
    → AreReadAs Shows rows found → Shows row y → AreReadAs Shows (rows ++ row ∷ []) (found ++ y ∷ [])
read_more Shows [] found row y e is = (y, [], ap (λ l. l ++ y ∷ []) e, is, refl)
read_more Shows (r ∷ rows) found row y (first, others, e, shows, more) is =
    (first, others ++ y ∷ [], ap (λ l. l ++ y ∷ []) e, shows, read_more Shows rows others row y more is)

pub all_looks : {S X Y Z : Type 0} (g : Ghosts S) {sql : List ℕ} {params : Row} {rows : Tables → List X}
    {image : X → Row} {shown : X → Z} {number : Z → ℕ} {read : Row → Z} {test : X → Bool} (given : Row)
    (same : given ≡ params) (old new : BaseValue S) {V : Type 0} (items : V → List Y) (view : Y → Z)
    (r : Result V TableFault)
    (l : LooksUp g (λ t found. TellsAllAs (λ row y. view y ≡ read row) sql given t (items found)) old new r)
    → FindsAll sql params rows image shown number read test
    → LooksUp g (λ t found. AreFoundAs shown number test (rows t) (map view (items found))) old new r
all_looks g {sql = sql} {rows = rows} {shown = shown} {number = number} {read = read} {test = test} given same old new
    items view r l finds =
    retold g _ _ old new r
    (λ t found (told, (db, h, tells), are). subst (AreFoundAs shown number test (rows t))
    (sym (all_read view read told (items found) are))
    (finds.found t db told h (subst (λ p. TellsRows sql p db told) same (tells finds.text)))) l
