-- What INSERT makes of a table in any schema, and UPDATE and DELETE in one whose references have no action.
use Rattle.std.specs.List.{flat_map}
use Rattle.sqlite_schema.specs.{declared.schema.Action.TheVariants.NoAction, declared.schema.Keys.TheVariants.Enforced}
use Rattle.sqlite_rules.specs.Action.{deed_for, pairs, work_by, work_for, works}
use Rattle.sqlite_rules.specs.declared.action.Deed.{Deed}
use Rattle.tables.proofs.Words.{AllByRecursion, Answers, Applies, AtPlace, Bool, Chosen, Column, Command, Database}
use Rattle.tables.proofs.Words.{Delete, Does, Edit, Edited, Err, Given, Insert, List, Mode, None, Ok, OnRows, OnTable}
use Rattle.tables.proofs.Words.{Option, Order, ParentKey, Program, Reference, Result, Row, Schema, Some, Table, Tally}
use Rattle.tables.proofs.Words.{Task, Term, Trees, Update, Values, WritesRows, Written, [], ap, append-nil, cases_Bool}
use Rattle.tables.proofs.Words.{edit_of, false, filter_map, ids_of, inl, inr, length, one_step, parent_key, refl}
use Rattle.tables.proofs.Words.{slice_get, subst, sym, taken_by, true, value_rows, ℕ, ◌/◌, ◌==◌, ◌∙◌, ◌∷◌, ◌≡◌, ◌≢◌}
use Rattle.tables.proofs.Words.{◌⊎◌}
use Rattle.tables.specs.Schema.{placed, table_of}

-- no reference does anything where its parent goes or changes
abbrev pub IsIdle : Schema → Type 0
IsIdle schema = AllByRecursion
    (λ (t : Table). AllByRecursion (λ (ref : Reference). (ref.on_delete ≡ NoAction) × (ref.on_update ≡ NoAction))
    t.references) schema.tables

no_deed : (b : Bool) (ref : Reference) → (ref.on_delete ≡ NoAction) × (ref.on_update ≡ NoAction)
    → deed_for Enforced b ref ≡ None
no_deed true ref h = rw h.0
no_deed false ref h = rw h.1

no_work : (schema : Schema) (tree : ℕ) (olds news : List Row) (child : Table) (refs : List Reference)
    → AllByRecursion (λ (ref : Reference). (ref.on_delete ≡ NoAction) × (ref.on_update ≡ NoAction)) refs
    → filter_map (work_for schema Enforced 0 tree olds news child) refs ≡ []
no_work schema tree olds news child [] h = refl
no_work schema tree olds news child (ref ∷ refs) h =
    rw (no_deed _ ref h.0, no_work schema tree olds news child refs h.1)

idle_works : (schema : Schema) (tree : ℕ) (olds news : List Row) → IsIdle schema
    → works schema Enforced 0 tree olds news ≡ []
idle_works schema tree olds news idle = go schema.tables idle
  where
    go : (ts : List Table)
        → AllByRecursion (λ (t : Table). AllByRecursion (λ (ref : Reference). (ref.on_delete ≡ NoAction)
        × (ref.on_update ≡ NoAction)) t.references) ts
        → flat_map (λ child. filter_map (work_for schema Enforced 0 tree olds news child) child.references) ts ≡ []
    go [] h = refl
    go (t ∷ ts) h = rw (no_work schema tree olds news t t.references h.0, go ts h.1)

-- a row that goes in takes no key from another's children
unmoved : (tree : ℕ) (news : List Row) (child : Table) (ref : Reference) (deed : Option Deed) (key : Option ParentKey)
    → work_by 0 tree (pairs [] news) child ref deed key ≡ None
unmoved tree news child ref None key = refl
unmoved tree news child ref (Some deed) None = refl
unmoved tree news child ref (Some deed) (Some key) = elim (cases_Bool (key.0 == tree)) [
  | inl its ↦ rw its refl
  | inr others ↦ rw others refl
]

none_taken_works : (schema : Schema) (tree : ℕ) (news : List Row) → works schema Enforced 0 tree [] news ≡ []
none_taken_works schema tree news = go schema.tables
  where
    of_child : (child : Table) (refs : List Reference)
        → filter_map (work_for schema Enforced 0 tree [] news child) refs ≡ []
    of_child child [] = refl
    of_child child (ref ∷ refs) =
        rw (unmoved tree news child ref (deed_for Enforced (length news == 0) ref) (parent_key schema.tables ref))
        (of_child child refs)

    go : (ts : List Table)
        → flat_map (λ child. filter_map (work_for schema Enforced 0 tree [] news child) child.references) ts ≡ []
    go [] = refl
    go (t ∷ ts) = rw (of_child t t.references, go ts) refl

-- a part that gave a value did not stop on the way
pub went : {B E R : Type 0} {b : B} {Stops : E → Type 0} → ((stop : E) × Stops stop × (Ok b ≡ Err stop)) ⊎ R → R
went (inl stopped) = absurd (let e = stopped.2 in cc)
went (inr on) = on

-- the other tables stay, and so does the schema
abbrev pub OthersHold : Schema → Trees → ℕ → Tally × Database → Type 0
OthersHold schema db tree out =
    AllByRecursion (λ (t : Table). t.tree ≢ tree → out.1.trees t.tree ≡ db t.tree) schema.tables
    × (out.1.schema ≡ schema)

pub same_ok : {B E : Type 0} {a b : B} → ◌≡◌ {A = Result B E} (Ok a) (Ok b) → a ≡ b
same_ok e = cc

abbrev pub plain_mode : Mode
plain_mode = record { keys = Enforced; in_doubt = false; may_wait = false }

module _ (limit : Option ℕ) (params : Row) (schema : Schema) (db : Trees) (text : List ℕ) (at : ℕ)
    (name : List ℕ) (columns : List Column) (key : Option ℕ) (primary : List ℕ) (uniques : List (List ℕ))
    (orders : List Order) (references : List Reference) (tree : ℕ) where
  abbrev pub its_table : Table
  its_table = placed tree (table_of name columns key primary uniques orders references)

  abbrev pub before : Database
  before = record { schema = schema; trees = db }

  -- the change is this edit and no other
  abbrev pub Makes : Edit → Tally × Database → Type 0
  Makes edit out = Applies schema Enforced db edit out.1.trees × (out.1.schema ≡ schema)

  abbrev pub task : Task
  task = record { limit = limit; keys = Enforced; schema = schema; table = its_table; params = params }

  concluded : (command : Command) (out : Tally × Database) → OnRows task plain_mode None command db (Ok out)
      → (w : Written) × WritesRows task db command (Ok w) × (out.1 ≡ record { schema = schema; trees = w.trees })
      × (out.0.rows ≡ Some (length w.rows))
  concluded command out h =
      let done = went h in
      let tested = went done.2 in
      let shown = went tested.2 in
      let is = same_ok shown.2 in
      (done.0, done.1, ap (λ (p : Tally × Database). p.1) is, ap (λ (p : Tally × Database). p.0.rows) is)

  module _ (listed : slice_get schema.tables at ≡ Some its_table) (out : Tally × Database) where
    on_table : (command : Command)
        → OnTable limit plain_mode params before at (λ t. OnRows t plain_mode None command db) (Ok out)
        → OnRows task plain_mode None command db (Ok out)
    on_table command h =
        subst (λ o. AtPlace (λ table. OnRows
        (record { limit = limit; keys = Enforced; schema = schema; table = table; params = params }) plain_mode None
        command db) o (Ok out)) listed h

    pub inserts : (terms : List Term) (width : ℕ)
        → Does limit plain_mode params before text None (Insert at (Values terms width)) (Ok out)
        → Makes (edit_of db its_table [] Chosen 0 (value_rows params width (length terms / width) terms)) out
    inserts terms width h =
        let done = concluded (Insert at (Values terms width)) out (on_table (Insert at (Values terms width)) h) in
        let given = went done.1 in
        let counter = went given.2 in
        let written = went counter.2 in
        let counted = went written.2 in
        let rows : given.0 ≡ value_rows params width (length terms / width) terms =
        given.1.1 ∙ ap (λ ps. value_rows ps width (length terms / width) terms) (append-nil params) in
        let trees : done.0.trees ≡ written.0 = ap (λ (w : Written). w.trees) (same_ok counted.2) ∙ same_ok counted.1 in
        let applied = one_step schema Enforced db written.0 (edit_of db its_table [] Chosen 0 given.0)
        (none_taken_works schema tree (edit_of db its_table [] Chosen 0 given.0).news) written.1 in
        let here = subst (λ all. Applies schema Enforced db (edit_of db its_table [] Chosen 0 all) written.0) rows
        applied in (
          subst (Applies schema Enforced db _) (sym (ap (λ (d : Database). d.trees) done.2 ∙ trees)) here,
          ap (λ (d : Database). d.schema) done.2,
        )

    module _ (idle : IsIdle schema) where
      made : (edit : Edit) (next : Trees) → Edited schema Enforced db edit (Ok next)
          → Applies schema Enforced db edit next
      made edit next = one_step schema Enforced db next edit
          (idle_works schema edit.table.tree (taken_by db edit) edit.news idle)

      pub updates : (q : Program) → Does limit plain_mode params before text None (Update at q) (Ok out)
          → (rows : List Row) × Answers before q params rows × Makes (edit_of db its_table (ids_of rows) Given 1 rows) out
          × (out.0.rows ≡ Some (length (edit_of db its_table (ids_of rows) Given 1 rows).news))
      updates q h =
          let done = concluded (Update at q) out (on_table (Update at q) h) in
          let asked = went done.1 in
          let written = went asked.2 in
          let end = same_ok written.2 in
          let applied = made _ written.0 written.1 in
          let trees : done.0.trees ≡ written.0 = ap (λ (w : Written). w.trees) end in (
            asked.0,
            asked.1,
            (
              subst (Applies schema Enforced db _) (sym (ap (λ (d : Database). d.trees) done.2 ∙ trees)) applied,
              ap (λ (d : Database). d.schema) done.2,
            ),
            done.3 ∙ ap (λ (w : Written). Some (length w.rows)) end,
          )

      pub deletes : (q : Program) → Does limit plain_mode params before text None (Delete at q) (Ok out)
          → (rows : List Row) × Answers before q params rows × Makes (edit_of db its_table (ids_of rows) Given 0 []) out
      deletes q h =
          let done = concluded (Delete at q) out (on_table (Delete at q) h) in
          let asked = went done.1 in
          let written = went asked.2 in
          let applied = made _ written.0 written.1 in
          let trees : done.0.trees ≡ written.0 = ap (λ (w : Written). w.trees) (same_ok written.2) in (
            asked.0,
            asked.1,
            (
              subst (Applies schema Enforced db _) (sym (ap (λ (d : Database). d.trees) done.2 ∙ trees))
                  applied,
              ap (λ (d : Database). d.schema) done.2,
            ),
          )
