-- What stays free while our tables are made, one after the other.
use Rattle.tables.proofs.Words.{AllByRecursion, Bool, Index, List, None, Option, Schema, Some, Table, [], ap, arith}
use Rattle.tables.proofs.Words.{automatics, cases_Bool, codes, created, everything, false, index_named, inl, inr}
use Rattle.tables.proofs.Words.{is_some, is_used, lacks_sequence, list_any, next_tree, not, option_and_then}
use Rattle.tables.proofs.Words.{position_from, refl, same_name, sequence, slice_get, subst, suc, sym, table_named, true}
use Rattle.tables.proofs.Words.{view_named, zero, ℕ, ◌&&◌, ◌++◌, ◌+◌, ◌||◌, ◌∙◌, ◌∷◌, ◌≡◌}
use Rattle.tables.specs.Schema.{meta, placed}

none_placed : {X : Type 0} (p : X → Bool) (at : ℕ) (ys : List X) → list_any p ys ≡ false
    → is_some (position_from p at ys) ≡ false
none_placed p at [] none = refl
none_placed p at (y ∷ ys) none = elim (cases_Bool (p y)) [
  | inl here ↦ absurd (let e = rw here at none in cc)
  | inr later ↦ rw later (none_placed p (at + 1) ys (rw later at none))
]

still_absent : {X : Type 0} (p : X → Bool) (at : ℕ) (xs ys : List X) → is_some (position_from p at xs) ≡ false
    → list_any p ys ≡ false → is_some (position_from p at (xs ++ ys)) ≡ false
still_absent p at [] ys none more = none_placed p at ys more
still_absent p at (x ∷ xs) ys none more = elim (cases_Bool (p x)) [
  | inl here ↦ absurd (let e = rw here at none in cc)
  | inr later ↦ rw later (still_absent p (at + 1) xs ys (rw later at none) more)
]

still_placed_at : {X : Type 0} (p : X → Bool) (at k : ℕ) (xs ys : List X) → position_from p at xs ≡ Some k
    → position_from p at (xs ++ ys) ≡ Some k
still_placed_at p at k [] ys found = absurd (let e = found in cc)
still_placed_at p at k (x ∷ xs) ys found = elim (cases_Bool (p x)) [
  | inl here ↦ rw here (rw here at found)
  | inr later ↦ rw later (still_placed_at p (at + 1) k xs ys (rw later at found))
]

-- the table or one of its indexes takes the name
abbrev pub clashes : Table → ℕ → List ℕ → Bool
clashes table tree name =
    same_name table.name name
    || list_any (λ (i : Index). same_name i.name name)
    (automatics (record table { tree = tree }) 0 (tree + 1) table.uniques)

either_false : (a b : Bool) → a || b ≡ false → (a ≡ false) × (b ≡ false)
either_false false false none = (refl, refl)
either_false true b none = absurd (let e = none in cc)
either_false false true none = absurd (let e = none in cc)

pub three_false : (a b c : Bool) → a || b || c ≡ false → (a ≡ false) × (b ≡ false) × (c ≡ false)
three_false false false false none = (refl, refl, refl)
three_false true b c none = absurd (let e = none in cc)
three_false false true c none = absurd (let e = none in cc)
three_false false false true none = absurd (let e = none in cc)

all_false : {a b c : Bool} → a ≡ false → b ≡ false → c ≡ false → a || b || c ≡ false
all_false a b c = rw (a, b, c) refl

created_free : (s : Schema) (table : Table) (name : List ℕ) → is_used s name ≡ false
    → clashes table (next_tree s) name ≡ false → is_used (created s table) name ≡ false
created_free s table name free apart =
    let none = three_false (is_some (table_named s name)) (is_some (index_named s name)) (is_some (view_named s name))
    free in
    let new = either_false (same_name table.name name)
    (list_any (λ (i : Index). same_name i.name name)
    (automatics (record table { tree = next_tree s }) 0 (next_tree s + 1) table.uniques)) apart in
    all_false (still_absent (λ (t : Table). same_name t.name name) 0 s.tables (record table { tree = next_tree s } ∷ [])
    none.0 (rw (new.0) refl))
    (still_absent (λ (i : Index). same_name i.name name) 0 s.indexes
    (automatics (record table { tree = next_tree s }) 0 (next_tree s + 1) table.uniques) none.1 new.1) none.2

abbrev pub AreFree : Schema → List (List ℕ) → Type 0
AreFree s names = AllByRecursion (λ name. is_used s name ≡ false) names

pub stay_free : (s : Schema) (table : Table) (names : List (List ℕ)) → AreFree s names
    → AllByRecursion (λ name. clashes table (next_tree s) name ≡ false) names → AreFree (created s table) names
stay_free s table [] free apart = tt
stay_free s table (name ∷ names) free apart =
    (created_free s table name free.0 apart.0, stay_free s table names free.1 apart.1)

any_append : {X : Type 0} (p : X → Bool) (xs ys : List X) → list_any p xs ≡ false → list_any p ys ≡ false
    → list_any p (xs ++ ys) ≡ false
any_append p [] ys none more = more
any_append p (x ∷ xs) ys none more = elim (cases_Bool (p x)) [
  | inl here ↦ absurd (let e = rw here at none in cc)
  | inr later ↦ rw later (any_append p xs ys (rw later at none) more)
]

still_there : {X : Type 0} (xs ys : List X) (k : ℕ) → is_some (slice_get xs k) ≡ true
    → is_some (slice_get (xs ++ ys) k) ≡ true
still_there [] ys k there = absurd (let e = there in cc)
still_there (x ∷ xs) ys zero there = refl
still_there (x ∷ xs) ys (suc k) there = still_there xs ys k there

counts_still : (s : Schema) (table : Table) (found : Option ℕ) → table_named s (codes "sqlite_sequence") ≡ found
    → is_some (option_and_then (slice_get s.tables) found) ≡ true → is_some (sequence (created s table)) ≡ true
counts_still s table None is there = absurd (let e = there in cc)
counts_still s table (Some k) is there =
    let new : List Table = record table { tree = next_tree s } ∷ [] in
    let found = still_placed_at (λ (t : Table). same_name t.name (codes "sqlite_sequence")) 0 k s.tables new is in
    subst (λ f. is_some (option_and_then (slice_get (s.tables ++ new)) f) ≡ true) (sym found)
    (still_there s.tables new k there)

-- a table that doesn't count its rows asks for no table to count in
pub lacks_still : (s : Schema) (table : Table) → table.is_counted ≡ false → lacks_sequence s ≡ false
    → lacks_sequence (created s table) ≡ false
lacks_still s table uncounted lacks = elim (cases_Bool (list_any (λ (t : Table). t.is_counted) s.tables)) [
  | inl counts ↦
      elim (cases_Bool (is_some (sequence s))) [
        | inl there ↦ rw (counts_still s table (table_named s (codes "sqlite_sequence")) refl there)
            (none (list_any (λ (t : Table). t.is_counted) (s.tables ++ record table { tree = next_tree s } ∷ [])))
        | inr missing ↦ absurd (let e = rw (counts, missing) at lacks in cc)
      ]
  | inr never ↦ rw (any_append (λ (t : Table). t.is_counted) s.tables (record table { tree = next_tree s } ∷ []) never
      (rw uncounted refl)) refl
]
  where
    none : (b : Bool) → b && not true ≡ false
    none true = refl
    none false = refl

-- ---- the table of the version, once it is made

placed_last : {X : Type 0} (p : X → Bool) (at : ℕ) (xs : List X) (x : X) → is_some (position_from p at xs) ≡ false
    → p x ≡ true
    → (j : ℕ) × (position_from p at (xs ++ x ∷ []) ≡ Some (at + j)) × (slice_get (xs ++ x ∷ []) j ≡ Some x)
placed_last p at [] x none here = (0, rw here (ap Some (omega (arith))), refl)
placed_last p at (y ∷ xs) x none here = elim (cases_Bool (p y)) [
  | inl there ↦ absurd (let e = rw there at none in cc)
  | inr later ↦
      let rest = placed_last p (at + 1) xs x (rw later at none) here in
      (suc rest.0, rw later (rest.1 ∙ ap Some (omega (arith))), rest.2)
]

still_got : {X : Type 0} (xs ys : List X) (k : ℕ) (x : X) → slice_get xs k ≡ Some x → slice_get (xs ++ ys) k ≡ Some x
still_got [] ys k x there = absurd (let e = there in cc)
still_got (y ∷ xs) ys zero x there = there
still_got (y ∷ xs) ys (suc k) x there = still_got xs ys k x there

pub record HasMeta (s : Schema) : Type 0 where
  pub at : ℕ
  pub tree : ℕ
  pub named : table_named s meta.name ≡ Some at
  pub there : slice_get s.tables at ≡ Some (placed tree meta)

itself : same_name meta.name meta.name ≡ true
unfolding everything
itself = refl

pub made_meta : (s : Schema) → is_used s meta.name ≡ false → HasMeta (created s meta)
made_meta s free =
    let none = three_false (is_some (table_named s meta.name)) (is_some (index_named s meta.name))
    (is_some (view_named s meta.name)) free in
    let last = placed_last (λ (t : Table). same_name t.name meta.name) 0 s.tables (placed (next_tree s) meta) none.0
    itself in
    record { at = last.0; tree = next_tree s; named = last.1 ∙ ap Some (omega (arith)); there = last.2 }

pub made_meta_tree : (s : Schema) (free : is_used s meta.name ≡ false) → (made_meta s free).tree ≡ next_tree s
unfolding made_meta
made_meta_tree s free = refl

pub still_meta : (s : Schema) (table : Table) → HasMeta s → HasMeta (created s table)
still_meta s table has = record {
  at = has.at;
  tree = has.tree;
  named = still_placed_at (λ (t : Table). same_name t.name meta.name) 0 has.at s.tables (placed (next_tree s) table
      ∷ []) has.named;
  there = still_got s.tables (placed (next_tree s) table ∷ []) has.at (placed has.tree meta) has.there;
}

pub still_meta_tree : (s : Schema) (table : Table) (has : HasMeta s) → (still_meta s table has).tree ≡ has.tree
unfolding still_meta
still_meta_tree s table has = refl
