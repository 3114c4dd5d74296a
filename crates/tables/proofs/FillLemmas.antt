-- The row of `meta` in any schema where the table has just been made.
use Rattle.std.specs.Prelude.{slice_get}
use Rattle.sqlite_resolve.specs.Body.{table_at}
use Rattle.sqlite.specs.Given.{IsPlain}
use Rattle.sqlite_ast.specs.{declared.Rows.Rows, declared.Statement.Statement}
use Rattle.tables.proofs.Words.{Checked, Command, Compiled, Err, Insert, List, NoSuchTable, None, Ok, Option, Parsed}
use Rattle.tables.proofs.Words.{Returning, Schema, Table, Values, [], and_then, ap, codes, command_of, compiled}
use Rattle.tables.proofs.Words.{everything, first, formats_of, if_select, if◌then◌else◌, listing_schema, misses_table}
use Rattle.tables.proofs.Words.{new_rows, on_table, option_and_then, option_map, or_else, refl, small, understood}
use Rattle.tables.proofs.Words.{unwrap_or, ℕ, ◌+◌, ◌∙◌, ◌∷◌, ◌≡◌}
use Rattle.tables.proofs.{CreateLemmas.version_terms, FreeLemmas.HasMeta}
use Rattle.tables.specs.Schema.{meta, placed, the_schema}
use Rattle.tables.specs.{Versions.IsUnderstood, auxiliary.Creation.insert_version}
use Rattle.sqlite_ast.specs.declared.Rows.TheVariants as rows
use Rattle.sqlite_ast.specs.declared.Statement.TheVariants as written

abbrev rows_in : Statement → Rows → Rows
rows_in (written.Insert how name columns rows clauses shown) other = rows
rows_in _ other = other

abbrev statement_in : Checked Parsed → Statement → Statement
statement_in (Ok p) other = p.statement
statement_in (Err e) other = other

abbrev filled : Schema → ℕ → Rows → Checked Command
filled s base rows =
    on_table s (codes "meta") (λ at table. and_then (new_rows s table base (codes "version" ∷ []) rows)
    (λ from. Ok (Insert at from)))

abbrev spread : List (List ℕ) → (ℕ → Checked Command) → Checked Compiled
spread formats command =
    let meaning : Checked (Command × Option Returning) =
    and_then (command (small [] + small formats)) (λ c. Ok (c, None)) in
    let planned : Checked (List (List ℕ) × (Command × Option Returning)) =
    and_then meaning (λ found. Ok (formats, found)) in
    and_then planned (λ plan. and_then (understood the_schema insert_version)
    (λ c. Ok (record c { command = plan.1.0; returning = plan.1.1; formats = plan.0 })))

abbrev heard : Checked Compiled → Checked Compiled
heard r = if misses_table r then if_select (compiled listing_schema insert_version) else r

depends_version : (s : Schema) (other : Rows) (none : Statement)
    → understood s insert_version
    ≡ heard (spread (formats_of s (codes "meta"))
    (λ base. filled s base (rows_in (statement_in (first insert_version) none) other)))
unfolding understood everything
depends_version s other none = refl

row_of_meta : (s : Schema) (tree : ℕ) (other : Rows) (none : Statement)
    → new_rows s (placed tree meta) 0 (codes "version" ∷ []) (rows_in (statement_in (first insert_version) none) other)
    ≡ Ok (Values version_terms 2)
unfolding everything
row_of_meta s tree other none = refl

abbrev meta_rows : Rows
meta_rows = rows_in (statement_in (first insert_version) written.Empty) rows.Defaults

filled_as : (s : Schema) (has : HasMeta s) → filled s 0 meta_rows ≡ Ok (Insert has.at (Values version_terms 2))
filled_as s has =
    ap (λ found. and_then (or_else found NoSuchTable)
    (λ at. and_then (table_at s at) (λ table. and_then (new_rows s table 0 (codes "version" ∷ []) meta_rows)
    (λ from. Ok (Insert at from))))) has.named
    ∙ ap (λ found. and_then (or_else found NoSuchTable)
    (λ table. and_then (new_rows s table 0 (codes "version" ∷ []) meta_rows) (λ from. Ok (Insert has.at from))))
    has.there
    ∙ ap (λ rows. and_then rows (λ from. Ok (Insert has.at from))) (row_of_meta s has.tree rows.Defaults written.Empty)

no_formats : (s : Schema) (has : HasMeta s) → formats_of s meta.name ≡ []
no_formats s has =
    ap (λ at. unwrap_or (option_map (λ (t : Table). t.stamps.formats) (option_and_then (slice_get s.tables) at)) [])
    has.named
    ∙ ap (λ table. unwrap_or (option_map (λ (t : Table). t.stamps.formats) table) []) has.there

pub fills : (s : Schema) (has : HasMeta s)
    → understood s insert_version ≡ heard (spread [] (λ _. Ok (Insert has.at (Values version_terms 2))))
fills s has =
    depends_version s rows.Defaults written.Empty
    ∙ ap (λ formats. heard (spread formats (λ base. filled s base meta_rows))) (no_formats s has)
    ∙ ap (λ (c : Checked Command). heard (spread [] (λ _. c))) (filled_as s has)

pub fill_facts : (at : ℕ) → let r = heard (spread [] (λ _. Ok (Insert at (Values version_terms 2)))) in
    (command_of r ≡ Insert at (Values version_terms 2)) × IsPlain r × IsUnderstood r
unfolding understood everything
fill_facts at = (refl, (refl, refl), tt)
