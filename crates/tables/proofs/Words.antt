-- The words of the crates below, so that a file of proofs has a line or two for them.
pub use Rattle.std.specs.Prelude.{IsSome, IsSorted, int_le, int_lt, is_some, option_and_then, option_map, unwrap_or}
pub use Rattle.std.proofs.Common.{Bool, Contains, Equal, Err, Greater, IfErr, IfOk, IsErr, IsErrAnd, IsPermutation}
pub use Rattle.std.proofs.Common.{IsTrue, Less, List, None, Ok, OnErr, OnOk, Option, Ordering, Result, SFits, Some, []}
pub use Rattle.std.proofs.Common.{ap, append-nil, ap₂, arith, codes, cond, drop, false, filter, find, flat_map, get_or}
pub use Rattle.std.proofs.Common.{if◌then◌else◌, inl, inr, int_cmp, is_eq, is_ge, is_gt, is_le, is_lt, length, lt-ltb}
pub use Rattle.std.proofs.Common.{map, nat_le, nat_lt, negsuc, not, pos, refl, rules, slice_get, subst, subst₂, suc}
pub use Rattle.std.proofs.Common.{sym, take, to_z-of_z, true, w64, zero, ℕ, ℤ, ◌&&◌, ◌++◌, ◌+◌, ◌-◌, ◌/◌, ◌<◌, ◌==◌}
pub use Rattle.std.proofs.Common.{◌^◌, ◌||◌, ◌↔◌, ◌∙◌, ◌∷◌, ◌≡◌, ◌≢◌, ◌≤◌, ◌⊎◌}
pub use Rattle.std.proofs.lemmas.Bool.{and_parts, cases_Bool, cases_eq, cases_lt, eqb-true}
pub use Rattle.std.proofs.lemmas.Bool.Decides.{nat_tests}
pub use Rattle.std.proofs.lemmas.List.{get_or-map, length-map, map-append, take_all, take_more}
pub use Rattle.std.proofs.lemmas.List.Sorted.{Contains-permutation, IsNonDecreasingBy-from_default}
pub use Rattle.std.proofs.lemmas.List.Sorted.{IsPermutation-append_left, IsPermutation-append_right, IsPermutation-cons}
pub use Rattle.std.proofs.lemmas.List.Sorted.{IsPermutation-map, IsPermutation-middle, IsPermutation-refl}
pub use Rattle.std.proofs.lemmas.List.Sorted.{IsPermutation-sym, IsPermutation-trans, length_permutation, sorted_far}
pub use Rattle.std.proofs.lemmas.Result.{err_from_is_err_and}
pub use Rattle.std.specs.List.{AllByRecursion, AllZip, filter_map, list_all, list_any, position_from}
pub use Rattle.std.specs.Option.{option_or}
pub use Rattle.std.specs.Ordering.{match_ordering, ordering_then}
pub use Rattle.sqlite_value.proofs.OrderLemmas.{value_cmp-Int, value_cmp-Text, value_cmp_total}
pub use Rattle.sqlite_value.specs.Order.{Row, column}
unfoldable pub use Rattle.sqlite_value.specs.Order.{value_cmp}
pub use Rattle.sqlite_value.specs.declared.keys.Collation.TheVariants.{Binary}
pub use Rattle.sqlite_value.specs.declared.keys.Key.{Key}
pub use Rattle.sqlite_value.specs.declared.keys.Order.{Order}
pub use Rattle.sqlite_value.specs.declared.value.Value.{Value}
pub use Rattle.sqlite_value.specs.declared.value.Value.TheVariants.{Blob, Int, Null, Real, Text}
pub use Rattle.sqlite_trees.proofs.ListLemmas.{IsPermutation-filter, all-append, all_both, all_weaker, filter-map}
pub use Rattle.sqlite_trees.proofs.ListLemmas.{filter_same, map-map, pull_back}
pub use Rattle.sqlite_trees.specs.Tree.{IsTable, Trees, has_rowid, put_row, rowid, without_rowid}
pub use Rattle.sqlite_trees.specs.View.{IsShaped, is_int}
pub use Rattle.sqlite_trees.specs.declared.error.StoreError.{StoreError}
pub use Rattle.sqlite_trees.specs.declared.error.StoreError.TheVariants.{Broken, Corrupt, Full, Io, OutOfMemory}
pub use Rattle.sqlite_trees.specs.declared.error.StoreError.TheVariants.{Unstorable}
pub use Rattle.sqlite_trees.specs.declared.store.Store.{Ghosts}
pub use Rattle.sqlite_sql.specs.Ops.{from_truth, is_true}
unfoldable pub use Rattle.sqlite_sql.specs.Ops.{binary, unary}
pub use Rattle.sqlite_sql.specs.Query.{IsAnswer, Output, Query, end, inner, output, output_cmp, page}
pub use Rattle.sqlite_sql.specs.Term.{Term, col, eval_all, holds, lit, op2}
pub use Rattle.sqlite_sql.specs.declared.ops.BinaryOp.TheVariants.{Arith, Compare, Is}
pub use Rattle.sqlite_sql.specs.declared.ops.CompareOp.TheVariants.{Eq, Ge, Gt, Le}
pub use Rattle.sqlite_schema.specs.Names.{index_named, same_name, table_named, view_named}
pub use Rattle.sqlite_schema.specs.Rules.{ParentKey, are_typed, is_of, parent_key}
pub use Rattle.sqlite_schema.specs.declared.command.Command.{Command}
pub use Rattle.sqlite_schema.specs.declared.command.Command.TheVariants.{CreateTable, Delete, Insert, Nothing, Select}
pub use Rattle.sqlite_schema.specs.declared.command.Command.TheVariants.{Update}
pub use Rattle.sqlite_schema.specs.declared.command.Returning.{Returning}
pub use Rattle.sqlite_schema.specs.declared.command.Source.TheVariants.{Values}
pub use Rattle.sqlite_schema.specs.declared.program.Program.{Program}
pub use Rattle.sqlite_schema.specs.declared.schema.Column.{Column}
pub use Rattle.sqlite_schema.specs.declared.schema.Index.{Index}
pub use Rattle.sqlite_schema.specs.declared.schema.Kind.TheVariants.{Integer}
pub use Rattle.sqlite_schema.specs.declared.schema.Reference.{Reference}
pub use Rattle.sqlite_schema.specs.declared.schema.Schema.{Schema}
pub use Rattle.sqlite_schema.specs.declared.schema.Table.{Table}
pub use Rattle.sqlite_catalog.specs.Change.{KeepsRows, automatics, created, is_used, next_tree}
pub use Rattle.sqlite_catalog.specs.Listing.{AreListed, IsDefined, IsIndexRow, IsSound, IsTableRow, IsViewRow}
pub use Rattle.sqlite_catalog.specs.Listing.{is_index_row, is_table_row, is_view_row}
pub use Rattle.sqlite_rules.proofs.ListLemmas.{all_from, all_has, contains_had, has_contained, has_filtered, has_got}
pub use Rattle.sqlite_rules.proofs.ListLemmas.{has_kept, some_from, some_has, test_has}
pub use Rattle.sqlite_rules.specs.Calls.{ids_of}
pub use Rattle.sqlite_rules.specs.Cast.{cast, cast_row}
pub use Rattle.sqlite_rules.specs.Edit.{Applies, Edit, are_fresh, edit_of, have_rowids, id_in, is_taken, next_rowid}
pub use Rattle.sqlite_rules.specs.Edit.{numbered, put_all, taken_by, without_all}
pub use Rattle.sqlite_rules.specs.Lists.{Has}
pub use Rattle.sqlite_rules.specs.declared.error.Rowids.TheVariants.{Chosen, Given}
unfoldable pub use Rattle.sqlite_tied.specs.Compute.{everything}
pub use Rattle.sqlite_resolve.specs.Compile.{first, formats_of, new_rows, on_table, returning, small, table_defined_by}
pub use Rattle.sqlite_resolve.specs.Compile.{with_command}
unfoldable pub use Rattle.sqlite_resolve.specs.Compile.{compiled, is_attached, meaning, planned}
pub use Rattle.sqlite_resolve.specs.Lowering.{Checked, and_then, or_else}
pub use Rattle.sqlite_resolve.specs.declared.compiled.Compiled.{Compiled}
pub use Rattle.sqlite_resolve.specs.declared.error.CompileError.{CompileError}
pub use Rattle.sqlite_resolve.specs.declared.error.CompileError.TheVariants.{Exists, NoSuchTable, Unsupported}
pub use Rattle.sqlite.proofs.Callers.{IsPlain, command_of, one_permutation, one_step, reads_as, runs_as, statement_of}
pub use Rattle.sqlite.proofs.StateLemmas.{survives_then}
pub use Rattle.sqlite.specs.Batch.{RunInTurn, Stops, first_len}
unfoldable pub use Rattle.sqlite.specs.Batch.{ExecutesAllInside}
pub use Rattle.sqlite.specs.Clock.{timed}
pub use Rattle.sqlite.specs.Does.{AtPlace, Concludes, Does, MakesSequence, MakesTable, OnRows, OnTable, Tally}
pub use Rattle.sqlite.specs.Does.{WritesRows, lacks_sequence, sequence_text}
pub use Rattle.sqlite.specs.Effect.{Answers, Database, IsDatabase, Reads, RefusesToRead, alter_error, edit_error}
pub use Rattle.sqlite.specs.Effect.{value_rows}
pub use Rattle.sqlite.specs.Held.{Held, state}
pub use Rattle.sqlite.specs.Listing.{IsSourceOf, if_select, misses_table, reads_listing}
unfoldable pub use Rattle.sqlite.specs.Listing.{listing_schema, understood}
pub use Rattle.sqlite.specs.Rows.{Edited, Gives, Inserts, Part, Queried, Sourced, Task, Updates, Written, sequence}
pub use Rattle.sqlite.specs.Rows.{stamped}
pub use Rattle.sqlite.specs.State.{ExecutesInside, Fails, FailsToShow, HasCleanDisk, IsRolledBack, IsStatement}
pub use Rattle.sqlite.specs.State.{IsTooLate, IsUnchanged, KeepsCommit, KeepsCounts, Runs, RunsAlone, Shows, ShowsRows}
pub use Rattle.sqlite.specs.State.{State, Survives, Writes, mode_of, shows_rows, store_error, text_of}
unfoldable pub use Rattle.sqlite.specs.State.{ExecutesIn, FailsToQuery, IsNotRun, Shown}
pub use Rattle.sqlite.specs.Steps.{FailsToCommit, Outlines}
pub use Rattle.sqlite.specs.Values.{bound, bound_value}
pub use Rattle.sqlite.specs.declared.error.Error.{Error}
pub use Rattle.sqlite.specs.declared.error.Error.TheVariants.{SqlInputError, SqliteFailure}
pub use Rattle.sqlite.specs.declared.run.Mode.{Mode}
pub use Rattle.sqlite_syntax.specs.declared.statement.Parsed.{Parsed}
pub use Rattle.book.specs.Entries.{entries_view, entry_view, reader_view}
pub use Rattle.book.specs.History.{ReservationValue, day_of, stamp_of}
pub use Rattle.book.specs.Readers.{Account, Group, Reader}
pub use Rattle.book.specs.Values.{calibration_view, hold_view, reservation_view}
