-- The words of the crates below, so that a file of proofs has a line or two for them.
pub use Rattle.std.proofs.Common.{Bool, Contains, Err, HoldsAt, IfOk, IfSome, IsErr, IsPermutation, List, None, Ok}
pub use Rattle.std.proofs.Common.{Option, Result, Some, String, [], ap, ap₂, arith, codes, cond, count_by, drop, false}
pub use Rattle.std.proofs.Common.{filter, filter_map, find, get_or, inl, inr, leb, length, ltb, map, max, min, nat_le}
pub use Rattle.std.proofs.Common.{nat_lt, negsuc, not, option_and_then, option_map, option_to_list, pos, refl}
pub use Rattle.std.proofs.Common.{replicate, reverse, rules, set, slice_get, string_bytes, subst, subst₂, suc, sym}
pub use Rattle.std.proofs.Common.{take, to_z-of_z, true, unwrap_or, zero, ℕ, ℤ, ◌&&◌, ◌++◌, ◌+◌, ◌-◌, ◌/◌, ◌<◌, ◌==◌}
pub use Rattle.std.proofs.Common.{◌^◌, ◌||◌, ◌↔◌, ◌∙◌, ◌∷◌, ◌≡◌, ◌≢◌, ◌≤◌, ◌⊎◌}
pub use Rattle.std.proofs.Math.Nat.{le-max_left, le-max_right, le-min, max-eq_left, min-le_left, min-le_right}
pub use Rattle.std.proofs.lemmas.Bool.{and_parts, cases_Bool, eq-eqb, eqb-true, le-leb, leb-false, leb-true, lt-ltb}
pub use Rattle.std.proofs.lemmas.Bool.{ltb-false, ltb-true, ne_eqb, or_parts}
pub use Rattle.std.proofs.lemmas.Bool.Decides.{eqb_tells, leb_tells, nat_tests}
pub use Rattle.std.proofs.lemmas.List.{drop_more, get_or-map, get_or-replicate, get_or-set_other, get_or-set_same}
pub use Rattle.std.proofs.lemmas.List.{length-map, length-replicate, length-reverse, length-set, map-append, map-id}
pub use Rattle.std.proofs.lemmas.List.{reverse-append}
pub use Rattle.std.proofs.lemmas.List.Elements.{Contains-get_or, at_from_Contains, filter_map-append}
pub use Rattle.std.proofs.lemmas.List.Sorted.{Contains-permutation, IsPartitionPoint-from_clause, IsPartitionedBy-leb}
pub use Rattle.std.proofs.lemmas.List.Sorted.{IsPartitionedBy-ltb, IsPermutation-append_comm, IsPermutation-append_left}
pub use Rattle.std.proofs.lemmas.List.Sorted.{IsPermutation-cons, IsPermutation-map, IsPermutation-refl}
pub use Rattle.std.proofs.lemmas.List.Sorted.{IsPermutation-sym, IsPermutation-trans}
pub use Rattle.std.proofs.lemmas.List.Sums.{sum_by-cons}
pub use Rattle.std.proofs.lemmas.Result.{IfOk-weaker}
pub use Rattle.std.proofs.lemmas.Slice.Eq.{bytes_eq-Decides}
pub use Rattle.std.specs.List.{AllByRecursion, cons_option, list_any, range_with_len}
pub use Rattle.std.specs.List.Sorted.{IsNonDecreasingBy, IsPartitionPoint}
pub use Rattle.std.specs.Option.{is_some}
pub use Rattle.std.specs.Str.{bytes_eq}
pub use Rattle.std.specs.declared.alloc.Global.{Global}
pub use Rattle.sqlite_disk.specs.declared.Files.{Files}
pub use Rattle.sqlite_trees.specs.Tree.{Trees}
pub use Rattle.sqlite_trees.specs.declared.store.Store.{Ghosts}
pub use Rattle.sqlite.specs.Effect.{Database, IsDatabase}
pub use Rattle.sqlite.specs.Files.{FailsToOpenFiles, HoldsDatabase, IsCleanLeft, IsNothing, LeavesFiles, file_state}
pub use Rattle.sqlite.specs.Files.{image_of, over_files}
pub use Rattle.sqlite.specs.State.{State, store_error}
pub use Rattle.sqlite.specs.declared.error.Error.{Error}
pub use Rattle.sqlite_wal.specs.Recovery.{Image}
pub use Rattle.book.proofs.Numbers.{stamped_beyond, unowned_beyond, unseen_beyond}
pub use Rattle.book.proofs.Rights.{reader_after_grant, reader_after_revocation}
pub use Rattle.book.proofs.Shown.{sound_all}
pub use Rattle.book.specs.Entries.{Appends, FitInTurn, LeavesOrAddsAll, entries_view, reader_view, with_all}
pub use Rattle.book.specs.Fault.{count_after}
pub use Rattle.book.specs.History.{Calibrated, CalibrationValue, Deposited, Entry, Granted, Held, History, HoldValue}
pub use Rattle.book.specs.History.{Installed, InstalledValue, ReservationValue, Reserved, Revoked, Sealed, calibrations}
pub use Rattle.book.specs.History.{count_of_day, day_of, deposit_at, deposit_under, deposits, first_of, greatest_of}
pub use Rattle.book.specs.History.{greatest_serial, holds, installations, is_held, is_of_day, last_gen_time}
pub use Rattle.book.specs.History.{latest_calibration, reservation_at, reservations, stamp_at, stamp_of, stamps}
pub use Rattle.book.specs.History.{stamps_between, token_of}
pub use Rattle.book.specs.Identities.{identities, installed_rows}
pub use Rattle.book.specs.Ranges.{IsNextStamp, IsWithin}
pub use Rattle.book.specs.Readers.{Account, Group, Reader, Viewer, is_same, readers_as}
pub use Rattle.book.specs.Rights.{ListedValue, deposit_with_stamp, is_of, is_own, is_reader, is_visible, listed}
pub use Rattle.book.specs.Rights.{listed_as, listed_at, may_read, seen_by, shown_to}
pub use Rattle.book.specs.Sound.{FitsReserved, FitsSealed, IsSound, greatest_number}
pub use Rattle.book.specs.Stands.{OnlyLooks, Stands}
pub use Rattle.book.specs.Values.{hold_view, last_of, listed_view, viewer_of}
pub use Rattle.book.specs.declared.fault.StoreFault.{StoreFault}
pub use Rattle.book.specs.declared.rows.Deposit.{Deposit}
pub use Rattle.book.specs.declared.rows.Stamp.{Stamp}
pub use Rattle.tables.specs.Base.{BaseValue, IsHonest, IsOpen, IsStored, Keeps, Recovers, StandsFor}
pub use Rattle.tables.specs.Changes.{IsCounted, applied_all, calibration_row, greatest_by, hold_row, next_by}
pub use Rattle.tables.specs.Faults.{fault_of, opening_fault_of}
pub use Rattle.tables.specs.Found.{IsFoundAs, IsGreatestAs, IsLeastAs}
pub use Rattle.tables.specs.Layout.{Holds, IsDatabaseOf, cells_of, rows_of}
pub use Rattle.tables.specs.Names.{Name}
pub use Rattle.tables.specs.Queries.{LooksUp, OnlyReads, ShowsCalibration, ShowsCount, ShowsDeposit, ShowsDepositSerial}
pub use Rattle.tables.specs.Queries.{ShowsHold, ShowsIdentity, ShowsLast, ShowsNumber, ShowsOrigin, ShowsReaderSerial}
pub use Rattle.tables.specs.Queries.{ShowsReference, ShowsStamp, deposit_view, holds_at, identity_view, is_owned}
pub use Rattle.tables.specs.Queries.{is_owned_after, is_owned_by, is_readable_after, is_within, label_of, label_view}
pub use Rattle.tables.specs.Queries.{stamp_view}
pub use Rattle.tables.specs.Schema.{the_version}
pub use Rattle.tables.specs.Tables.{CalibrationRow, DepositRow, HoldRow, InstalledRow, ReaderRow, StampRow, Tables}
pub use Rattle.tables.specs.Tables.{TallyRow, is_calibration, is_deposit, is_deposit_of, is_hold, is_identity}
pub use Rattle.tables.specs.Tables.{is_reader_row, is_stamp, is_tally_of, name_of, no_rows, raised_row, rights_of}
pub use Rattle.tables.specs.Tables.{sealed_row, with_one_more}
pub use Rattle.tables.specs.declared.fault.TableFault.{TableFault}
pub use Rattle.tables.specs.declared.rows.Label.{Label}
pub use Rattle.tables.specs.declared.rows.NumberedCalibration.{NumberedCalibration}
pub use Rattle.tables.specs.declared.rows.Origin.{Origin}
