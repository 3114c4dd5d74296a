-- The statements that add a row, over the schema.
use Rattle.tables.proofs.Words.{Account, AllByRecursion, Blob, Bool, Chosen, Column, Group, Insert, Int, Integer, List}
use Rattle.tables.proofs.Words.{None, Null, Option, Order, Reader, Reference, ReservationValue, Row, Some, Term, Text}
use Rattle.tables.proofs.Words.{Trees, Value, Values, [], arith, cast, col, cond, day_of, edit_of, everything, false}
use Rattle.tables.proofs.Words.{length, lit, next_rowid, pos, refl, slice_get, stamp_of, true, unary, understood}
use Rattle.tables.proofs.Words.{value_rows, ℕ, ℤ, ◌/◌, ◌<◌, ◌^◌, ◌∷◌, ◌≡◌}
use Rattle.tables.proofs.CarryLemmas.{Makes, Says, Steps, carried}
use Rattle.tables.proofs.ChangeLemmas.{inserted, raw, raw_says}
use Rattle.tables.proofs.FrameLemmas.{cells_some, changed, is_current, with_rows}
use Rattle.tables.proofs.WriteLemmas.{IsIdle, inserts}
use Rattle.tables.specs.Layout.{RowOf, cells_of, is_keyed, place_of, rows_of, tree_of}
use Rattle.tables.specs.Schema.{placed, table_of, the_schema, the_version}
use Rattle.tables.specs.Tables.{CalibrationRow, DepositRow, HoldRow, InstalledRow, Tables, by_kind, name_of}
use Rattle.tables.specs.Tables.{with_calibration, with_deposit, with_hold, with_identity}
use Rattle.tables.specs.auxiliary.Steps.{with_first_tally, with_right_alone, with_stamp_alone}
use Rattle.tables.specs.declared.calibrations.TheConstants.{INSERT_CALIBRATION}
use Rattle.tables.specs.declared.rights.TheConstants.{INSERT_GROUP_READER, INSERT_READER}
use Rattle.tables.specs.{Names.Name, declared.deposits.TheConstants.INSERT_DEPOSIT}
use Rattle.tables.specs.{declared.holds.TheConstants.INSERT_HOLD, declared.identities.TheConstants.INSERT_IDENTITY}
use Rattle.tables.specs.{declared.stamps.TheConstants.INSERT_STAMP, declared.tallies.TheConstants.FIRST_TALLY}
use Rattle.tables.specs.Names as name

either : (b : Bool) (x : Value) → cond b x x ≡ x
either true x = refl
either false x = refl

pub cast_null : cast Integer Null ≡ Null
unfolding unary
cast_null = either _ Null

pub cast_int : (n : ℤ) → cast Integer (Int n) ≡ Int n
unfolding unary
cast_int n = either _ (Int n)

pub idle : IsIdle the_schema
idle = assumption

-- the statement adds this row, whatever the table holds
module _ (n : Name) {sql : List ℕ} (params : Row) (terms : List Term) (width : ℕ) (x : RowOf n)
    (says : Says sql (Insert (place_of n) (Values terms width)))
    (own : (xs : List (RowOf n)) (t : Tables) → rows_of the_version n (with_rows n xs t) ≡ xs)
    (counts : (t : Tables) → AllByRecursion (λ row. row.count < 2 ^ 63) t.tallies
    → AllByRecursion (λ row. row.count < 2 ^ 63) (with_rows n (x ∷ rows_of the_version n t) t).tallies) where
  -- the row, under the rowid that comes next where its number isn't its key
  abbrev added : Trees → Row
  added db = raw (cells_of n) (cells_some n) (is_keyed n) (Int (next_rowid (db (tree_of n))), x)

  module _ (called : List ℕ) (columns : List Column) (key : Option ℕ) (primary : List ℕ) (uniques : List (List ℕ))
      (orders : List Order) (references : List Reference)
      (listed : slice_get the_schema.tables (place_of n)
      ≡ Some (placed (tree_of n) (table_of called columns key primary uniques orders references)))
      (news : (db : Trees)
      → (edit_of db (placed (tree_of n) (table_of called columns key primary uniques orders references)) [] Chosen 0
      (value_rows params width (length terms / width) terms)).news
      ≡ added db ∷ []) where
    makes : Makes (Insert (place_of n) (Values terms width)) params
        (λ t. with_rows n (x ∷ rows_of the_version n t) t)
    makes limit text t db out h does =
        let made = inserts limit params the_schema db text (place_of n) called columns key primary uniques orders
        references (tree_of n) listed out terms width does in
        let xs = rows_of the_version n t in
        record {
          schema = made.1;
          holds = changed n db out.1.trees t h (x ∷ xs) (own (x ∷ xs) t) made.0.tables
              (inserted (cells_of n) (cells_some n) (is_keyed n) xs x (db (tree_of n)) (out.1.trees (tree_of n)) _
              (added db) (h.rows n (is_current n)) made.0.keyed made.0.fresh made.0.rows (news db)
              (raw_says (cells_of n) (cells_some n) (is_keyed n) _)) (counts t h.counts);
        }

    pub adds : Steps sql params (λ t. with_rows n (x ∷ rows_of the_version n t) t)
    adds = carried says params (λ old new text count w. w) _ makes

-- ---- calibrations, deposits and identities, which have three columns besides their number

abbrev four_terms : List Term
four_terms = col 0 0 ∷ lit Null ∷ col 0 1 ∷ col 0 2 ∷ col 0 3 ∷ []

says_calibration : Says INSERT_CALIBRATION.now (Insert (place_of name.Calibration) (Values four_terms 5))
unfolding understood everything
says_calibration = record { is = refl; plain = (refl, refl) }

pub adds_calibration : (r : CalibrationRow)
    → Steps INSERT_CALIBRATION.now (Int (pos r.n) ∷ Int r.reading ∷ Int r.offset ∷ Int (pos r.uncertainty) ∷ [])
    (with_calibration r)
adds_calibration r = adds name.Calibration _ four_terms 5 r says_calibration (λ xs t. refl) (λ t counts. counts)
    _ _ _ _ _ _ _ refl (λ db. simp (cast_int, cast_null))

says_deposit : Says INSERT_DEPOSIT.now (Insert (place_of name.Deposit) (Values four_terms 5))
unfolding understood everything
says_deposit = record { is = refl; plain = (refl, refl) }

pub adds_deposit : (r : DepositRow)
    → Steps INSERT_DEPOSIT.now (Int (pos r.serial) ∷ Text r.owner ∷ Text r.reference ∷ Blob r.bytes ∷ [])
    (with_deposit r)
adds_deposit r = adds name.Deposit _ four_terms 5 r says_deposit (λ xs t. refl) (λ t counts. counts)
    _ _ _ _ _ _ _ refl (λ db. simp (cast_int, cast_null))

says_identity : Says INSERT_IDENTITY.now (Insert (place_of name.Identity) (Values four_terms 5))
unfolding understood everything
says_identity = record { is = refl; plain = (refl, refl) }

pub adds_identity : (r : InstalledRow)
    → Steps INSERT_IDENTITY.now (Int (pos r.number) ∷ Int (pos r.after_serial) ∷ Blob r.certificate ∷ Blob r.chain ∷ [])
    (with_identity r)
adds_identity r = adds name.Identity _ four_terms 5 r says_identity (λ xs t. refl) (λ t counts. counts)
    _ _ _ _ _ _ _ refl (λ db. simp (cast_int, cast_null))

-- ---- holds

abbrev hold_terms : List Term
hold_terms = col 0 0 ∷ lit Null ∷ col 0 1 ∷ col 0 2 ∷ []

says_hold : Says INSERT_HOLD.now (Insert (place_of name.Hold) (Values hold_terms 4))
unfolding understood everything
says_hold = record { is = refl; plain = (refl, refl) }

pub adds_hold : (r : HoldRow) → Steps INSERT_HOLD.now (Int (pos r.n) ∷ Int r.from ∷ Int r.to ∷ []) (with_hold r)
adds_hold r = adds name.Hold _ hold_terms 4 r says_hold (λ xs t. refl) (λ t counts. counts)
    _ _ _ _ _ _ _ refl (λ db. simp (cast_int, cast_null))

-- ---- stamps without a token

abbrev stamp_terms : List Term
stamp_terms = col 0 0 ∷ lit Null ∷ col 0 1 ∷ col 0 2 ∷ col 0 3 ∷ col 0 4 ∷ col 0 5 ∷ col 0 6 ∷ col 0 7 ∷ col 0 8
    ∷ lit Null ∷ []

says_stamp : Says INSERT_STAMP.now (Insert (place_of name.Stamp) (Values stamp_terms 11))
unfolding understood everything
says_stamp = record { is = refl; plain = (refl, refl) }

pub adds_stamp : (r : ReservationValue)
    → Steps INSERT_STAMP.now (Int (pos r.serial) ∷ Text r.account ∷ Int (pos (day_of r.gen_time)) ∷ Int (pos r.gen_time)
    ∷ Blob r.policy ∷ Blob r.algorithm ∷ Blob r.digest ∷ Blob r.request ∷ Blob r.tst ∷ [])
    (with_stamp_alone (stamp_of None r))
adds_stamp r = adds name.Stamp _ stamp_terms 11 (stamp_of None r) says_stamp (λ xs t. refl) (λ t counts. counts)
    _ _ _ _ _ _ _ refl (λ db. simp (cast_int, cast_null))

-- ---- the first tally of an account and a day

abbrev tally_terms : List Term
tally_terms = lit Null ∷ col 0 0 ∷ col 0 1 ∷ lit (Int (pos 1)) ∷ []

says_tally : Says FIRST_TALLY.now (Insert (place_of name.Tally) (Values tally_terms 4))
unfolding understood everything
says_tally = record { is = refl; plain = (refl, refl) }

pub adds_tally : (account : List ℕ) (day : ℕ)
    → Steps FIRST_TALLY.now (Text account ∷ Int (pos day) ∷ []) (with_first_tally account day)
adds_tally account day =
    adds name.Tally _ tally_terms 4 (record { account = account; day = day; count = 1 }) says_tally (λ xs t. refl)
    (λ t counts. (omega arith, counts)) _ _ _ _ _ _ _ refl (λ db. simp (cast_int, cast_null))

-- ---- the right of a name

-- the table of the rights of such readers
abbrev pub rights_in : Reader → Name
rights_in reader = by_kind reader name.Reader name.GroupReader

abbrev right_terms : List Term
right_terms = lit Null ∷ col 0 0 ∷ col 0 1 ∷ []

abbrev insert_right : Reader → List ℕ
insert_right reader = by_kind reader INSERT_READER.now INSERT_GROUP_READER.now

says_right : (reader : Reader)
    → Says (insert_right reader) (Insert (place_of (rights_in reader)) (Values right_terms 3))
unfolding understood everything
says_right (Account whom) = record { is = refl; plain = (refl, refl) }
says_right (Group whom) = record { is = refl; plain = (refl, refl) }

pub adds_right : (reader : Reader) (serial : ℕ)
    → Steps (insert_right reader) (Int (pos serial) ∷ Text (name_of reader) ∷ []) (with_right_alone serial reader)
adds_right (Account whom) serial =
    adds name.Reader _ right_terms 3 (record { serial = serial; name = whom }) (says_right (Account whom))
    (λ xs t. refl) (λ t counts. counts) _ _ _ _ _ _ _ refl (λ db. simp (cast_int, cast_null))
adds_right (Group whom) serial =
    adds name.GroupReader _ right_terms 3 (record { serial = serial; name = whom }) (says_right (Group whom))
    (λ xs t. refl) (λ t counts. counts) _ _ _ _ _ _ _ refl (λ db. simp (cast_int, cast_null))
