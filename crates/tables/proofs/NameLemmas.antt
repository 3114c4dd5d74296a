-- The names that a database uses, before tables are made and after.
use Rattle.sqlite.specs.Given.{IsPlain}
use Rattle.tables.proofs.Words.{AllByRecursion, Bool, Checked, Command, CompileError, Compiled, CreateTable, Database}
use Rattle.tables.proofs.Words.{Err, ExecutesIn, Exists, Ghosts, Held, List, MakesSequence, MakesTable, None, Nothing}
use Rattle.tables.proofs.Words.{Ok, Option, Result, Returning, Schema, Some, State, Table, Tally, Unsupported, []}
use Rattle.tables.proofs.Words.{all_weaker, and_then, ap, cases_Bool, command_of, compiled, created, everything, false}
use Rattle.tables.proofs.Words.{if_select, if◌then◌else◌, index_named, inl, inr, is_attached, is_some, is_used}
use Rattle.tables.proofs.Words.{lacks_sequence, listing_schema, misses_table, option_or, position_from, refl}
use Rattle.tables.proofs.Words.{sequence_text, state, statement_of, subst, sym, table_defined_by, table_named, true}
use Rattle.tables.proofs.Words.{understood, view_named, ℕ, ◌++◌, ◌+◌, ◌||◌, ◌∙◌, ◌∷◌, ◌≡◌, ◌⊎◌}
use Rattle.tables.proofs.BatchLemmas.{InTurn, ran_as}
use Rattle.tables.proofs.{FreeLemmas.three_false, WriteLemmas.same_ok, WriteLemmas.went}
use Rattle.tables.specs.Schema.{no_schema, table_for}
use Rattle.tables.specs.{Names.Name, Versions.IsUnderstood, auxiliary.Creation.text_for}
use Rattle.tables.specs.Names as name

-- what is made of a text that makes a table, by whether a trigger is in the way, and whether an index, or a table or a
-- view, has its name; what an empty schema makes of it comes last
abbrev made_of : Bool → Option ℕ → Option ℕ → Checked Compiled → Checked Compiled
made_of attached other same free =
    let command : Checked Command =
    if attached then Err Unsupported
    else and_then (if is_some other then Err Exists else (if is_some same then Err Exists else Ok true))
    (λ is_new. if is_new then Ok CreateTable else Ok Nothing) in
    let meaning : Checked (Command × Option Returning) = and_then command (λ c. Ok (c, None)) in
    let planned : Checked (List (List ℕ) × (Command × Option Returning)) = and_then meaning (λ found. Ok ([], found)) in
    and_then planned (λ plan. and_then free
    (λ c. Ok (record c { command = plan.1.0; returning = plan.1.1; formats = plan.0 })))

abbrev heard : List ℕ → Checked Compiled → Checked Compiled
heard sql r = if misses_table r then if_select (compiled listing_schema sql) else r

abbrev pub Depends : List ℕ → List ℕ → Type 0
Depends sql name =
    (s : Schema) → understood s sql
    ≡ heard sql (made_of (is_attached s name) (index_named s name)
    (option_or (table_named s name) (view_named s name)) (understood no_schema sql))

made_free : (sql : List ℕ) (r : Checked Compiled) → command_of r ≡ CreateTable → IsPlain r
    → heard sql (made_of false None None r) ≡ r
made_free sql (Err e) is plain = absurd plain
made_free sql (Ok c) is plain =
    let free : record c { formats = [] } ≡ c =
    subst (λ f. ◌≡◌ {A = Compiled} (record c { formats = f }) c) plain.1 refl in
    let bare : record c { returning = None; formats = [] } ≡ c =
    subst (λ r. ◌≡◌ {A = Compiled} (record c { returning = r; formats = [] }) c) plain.0 free in
    ap Ok (subst (λ k. ◌≡◌ {A = Compiled} (record c { command = k; returning = None; formats = [] }) c) is bare)

-- in any schema such a text isn't understood, or it is what it is in an empty one
cases : (sql : List ℕ) (r : Checked Compiled) → command_of r ≡ CreateTable → IsPlain r
    → (attached : Bool) (other same : Option ℕ)
    → (¬ IsUnderstood (heard sql (made_of attached other same r))) ⊎ (heard sql (made_of attached other same r) ≡ r)
cases sql r is plain true other same = inl (λ known. known)
cases sql r is plain false (Some at) same = inl (λ known. known)
cases sql r is plain false None (Some at) = inl (λ known. known)
cases sql r is plain false None None = inr (made_free sql r is plain)

abbrev StaysUsed : Schema → Schema → Type 0
StaysUsed s after = (name : List ℕ) → is_used s name ≡ true → is_used after name ≡ true

still_placed : {X : Type 0} (p : X → Bool) (at : ℕ) (xs ys : List X) → is_some (position_from p at xs) ≡ true
    → is_some (position_from p at (xs ++ ys)) ≡ true
still_placed p at [] ys placed = absurd (let e = placed in cc)
still_placed p at (x ∷ xs) ys placed = elim (cases_Bool (p x)) [
  | inl here ↦ rw here refl
  | inr later ↦ rw later (still_placed p (at + 1) xs ys (rw later at placed))
]

either_still : (a b c d e f : Bool) → (a ≡ true → d ≡ true) → (b ≡ true → e ≡ true) → (c ≡ true → f ≡ true)
    → a || b || c ≡ true → d || e || f ≡ true
either_still true b c d e f ad be cf h = rw (ad refl) refl
either_still false true c true e f ad be cf h = refl
either_still false true c false e f ad be cf h = rw (be refl) refl
either_still false false true true e f ad be cf h = refl
either_still false false true false true f ad be cf h = refl
either_still false false true false false f ad be cf h = cf refl
either_still false false false d e f ad be cf h = absurd (let e = h in cc)

created_stays : (s : Schema) (table : Table) → StaysUsed s (created s table)
created_stays s table name =
    either_still _ _ _ _ _ _ (still_placed _ 0 s.tables _) (still_placed _ 0 s.indexes _) (λ e. e)

module _ (text : List ℕ) (db : Database) (table : Table) (defined : table_defined_by text ≡ Ok table) where
  free_before : (after : Database) → MakesTable text db (Ok after) → is_used db.schema table.name ≡ false
  free_before after made =
      let both : Ok made.table ≡ Ok table = sym made.defined ∙ defined in
      let same : made.table ≡ table = cc in
      subst (λ (t : Table). is_used db.schema t.name ≡ false) same made.free

made_stays : (text : List ℕ) (db after : Database) → MakesTable text db (Ok after) → StaysUsed db.schema after.schema
made_stays text db after made name used =
    subst (λ s. is_used s name ≡ true) (sym made.is) (created_stays db.schema made.table name used)

sequence_stays : (db after : Database) → MakesSequence db (Ok after) → StaysUsed db.schema after.schema
sequence_stays db after made = elim (cases_Bool (lacks_sequence db.schema)) [
  | inl lacks ↦ made_stays sequence_text db after (rw lacks at made)
  | inr has ↦ subst (λ (d : Database). StaysUsed db.schema d.schema) (sym (same_ok (rw has at made)))
      (λ name used. used)
]

none_of : {X : Type 0} (o : Option X) → is_some o ≡ false → o ≡ None
none_of None missing = refl
none_of (Some x) missing = absurd (let apart = missing in cc)

unattached : (s : Schema) (name : List ℕ) → view_named s name ≡ None → is_attached s name ≡ false
unfolding is_attached
unattached s name none = rw none refl

abbrev pub Alone : List ℕ → Table → Type 0
Alone sql table = (command_of (understood no_schema sql) ≡ CreateTable)
    × (table_defined_by (statement_of sql (understood no_schema sql)) ≡ Ok table) × IsPlain (understood no_schema sql)

-- where the name is free, the text is what it is in an empty schema
pub free_as_alone : (sql : List ℕ) (table : Table) → Depends sql table.name → Alone sql table
    → (s : Schema) → is_used s table.name ≡ false → understood s sql ≡ understood no_schema sql
free_as_alone sql table depends alone_is s free =
    let none = three_false (is_some (table_named s table.name)) (is_some (index_named s table.name))
    (is_some (view_named s table.name)) free in
    let no_table = none_of (table_named s table.name) none.0 in
    let no_index = none_of (index_named s table.name) none.1 in
    let no_view = none_of (view_named s table.name) none.2 in
    let alone = understood no_schema sql in
    let same : option_or (table_named s table.name) (view_named s table.name) ≡ None =
    ap (λ t. option_or t (view_named s table.name)) no_table ∙ no_view in
    let apart : made_of (is_attached s table.name) (index_named s table.name)
    (option_or (table_named s table.name) (view_named s table.name)) alone ≡ made_of false None None alone =
    ap (λ a. made_of a (index_named s table.name) (option_or (table_named s table.name) (view_named s table.name))
    alone) (unattached s table.name no_view)
    ∙ ap (λ i. made_of false i (option_or (table_named s table.name) (view_named s table.name)) alone) no_index
    ∙ ap (λ o. made_of false None o alone) same in
    depends s ∙ ap (heard sql) apart ∙ made_free sql alone alone_is.0 alone_is.2

understood_if : {r : Result Compiled CompileError} {c : Compiled} → r ≡ Ok c → IsUnderstood r
understood_if is = subst IsUnderstood (sym is) tt

-- a statement of the batch that made a table: its name was free, and each name that was used still is
module _ (sql : List ℕ) (table : Table) (depends : Depends sql table.name)
    (alone : (command_of (understood no_schema sql) ≡ CreateTable)
    × (table_defined_by (statement_of sql (understood no_schema sql)) ≡ Ok table)
    × IsPlain (understood no_schema sql))
    (old new : State) (count : ℕ) (ran : ExecutesIn true sql [] old new (Ok count)) where
  known : IsUnderstood (understood old.now.schema sql)
  unfolding ExecutesIn
  known = understood_if ran.1.is

  as_alone : understood old.now.schema sql ≡ understood no_schema sql
  as_alone = elim (cases sql (understood no_schema sql) alone.0 alone.2 (is_attached old.now.schema table.name)
      (index_named old.now.schema table.name)
      (option_or (table_named old.now.schema table.name) (view_named old.now.schema table.name))) [
        | inl isnt ↦ absurd (isnt (subst IsUnderstood (depends old.now.schema) known))
        | inr is ↦ depends old.now.schema ∙ is
      ]

  pub named : (is_used old.now.schema table.name ≡ false) × StaysUsed old.now.schema new.now.schema
  named =
      let w = ran_as sql old new old.now.schema refl CreateTable (ap command_of as_alone ∙ alone.0)
      (subst IsPlain (sym as_alone) alone.2) count ran in
      let all = went w.changed in
      let first = went all.1 in
      let now : new.now ≡ all.0 = ap (λ (p : Tally × Database). p.1) (same_ok all.2) in
      let text : statement_of sql (understood old.now.schema sql) ≡ statement_of sql (understood no_schema sql) =
      ap (statement_of sql) as_alone in (
        free_before _ old.now table (ap table_defined_by text ∙ alone.1) first.0 first.1,
        λ name used. subst (λ (d : Database). is_used d.schema name ≡ true) (sym now)
            (sequence_stays first.0 all.0 first.2 name (made_stays _ old.now first.0 first.1 name used)),
      )

-- a text that makes a table in any schema that doesn't use its name
pub record IsMaking (m : Name) : Type 0 where
  pub depends : Depends (text_for m) (table_for m).name
  pub alone : Alone (text_for m) (table_for m)
  -- the table doesn't count its rows
  pub uncounted : (table_for m).is_counted ≡ false

pub makes : (n : Name) → IsMaking n
unfolding understood everything
makes name.Meta = record { depends = λ s. refl; alone = (refl, refl, (refl, refl)); uncounted = refl }
makes n = record { depends = λ s. refl; alone = (refl, refl, (refl, refl)); uncounted = refl }

-- a name that isn't used later isn't before
unused : (s after : Schema) (name : List ℕ) → StaysUsed s after → is_used after name ≡ false → is_used s name ≡ false
unused s after name stays free = elim (cases_Bool (is_used s name)) [
  | inl used ↦ absurd (let later = stays name used in
      cc)
  | inr none ↦ none
]

-- where texts were run in turn, each name was free
pub names_free : {S : Type 0} (g : Ghosts S) (ns : List Name) (last : List ℕ) (old new : Held S)
    → InTurn g ns last old new
    → AllByRecursion (λ (m : Name). is_used (state g old).now.schema (table_for m).name ≡ false) ns
names_free g [] last old new ran = tt
names_free g (m ∷ more) last old new (mid, ran, rest) =
    let it = named (text_for m) (table_for m) (makes m).depends (makes m).alone (state g old) (state g mid) ran.0
    ran.1 in (
      it.0,
      all_weaker (λ (m : Name). is_used (state g mid).now.schema (table_for m).name ≡ false)
          (λ (m : Name). is_used (state g old).now.schema (table_for m).name ≡ false)
          (λ (m : Name). unused _ _ (table_for m).name it.1) more (names_free g more last mid new rest),
    )
