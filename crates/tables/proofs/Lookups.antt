-- What each look-up asks, and what it finds.
use Rattle.tables.proofs.Words.{Account, Binary, Compare, Ge, Group, Gt, Int, Is, Le, List, Reader, Term, Text, Value}
use Rattle.tables.proofs.Words.{[], ap₂, codes, col, everything, false, op2, pos, refl, true, understood, ℕ, ℤ, ◌&&◌}
use Rattle.tables.proofs.LookupLemmas.{Asks, Finds, FindsAll, FindsGreatest, FindsLeast, all, and_true, equals, falling}
use Rattle.tables.proofs.LookupLemmas.{finds, greatest, least, one, rising}
use Rattle.tables.proofs.TestLemmas.{test_above, test_after, test_at_most, test_from, test_is, test_number, test_text}
use Rattle.tables.proofs.{Words.◌∙◌, Words.◌∷◌, Words.◌≡◌, ChangeLemmas.raw, InsertLemmas.rights_in}
use Rattle.tables.proofs.{ReadLemmas.no_limit, ReadLemmas.passes, TestLemmas.test_up_to}
use Rattle.tables.specs.Queries.{holds_at, is_owned, is_owned_by, is_readable_after, is_within, label_of}
use Rattle.tables.specs.Tables.{ReaderRow, by_kind, is_calibration, is_deposit, is_deposit_of, is_hold, is_identity}
use Rattle.tables.specs.Tables.{is_reader_row, is_stamp, is_tally_of, name_of, rights_of}
use Rattle.tables.specs.auxiliary.Shown.{calibration_shown, count_shown, deposit_shown, hold_number_shown, hold_shown}
use Rattle.tables.specs.auxiliary.Shown.{identity_number_shown, identity_shown, label_in, label_shown, last_shown}
use Rattle.tables.specs.auxiliary.Shown.{number_shown, origin_shown, readable_shown, stamp_shown}
use Rattle.tables.specs.declared.calibrations.TheConstants.{CALIBRATION, LATEST_CALIBRATION}
use Rattle.tables.specs.declared.deposits.TheConstants.{DEPOSIT, DEPOSIT_UNDER, IS_OWNER, LABELS}
use Rattle.tables.specs.declared.holds.TheConstants.{GREATEST_HOLD, HOLD, HOLD_AT}
use Rattle.tables.specs.declared.identities.TheConstants.{GREATEST_IDENTITY, IDENTITY}
use Rattle.tables.specs.declared.rights.TheConstants.{IS_GROUP_READER, IS_READER, NEXT_GROUP_READABLE, NEXT_READABLE}
use Rattle.tables.specs.declared.stamps.TheConstants.{LAST_STAMP, NEXT_STAMP, ORIGIN, STAMP}
use Rattle.tables.specs.{Layout.reader_cells, declared.tallies.TheConstants.TALLY}
use Rattle.tables.specs.Names as name

-- ---- stamps

abbrev stamp_project : List Term
stamp_project = col 1 0 ∷ col 1 2 ∷ col 1 3 ∷ col 1 4 ∷ col 1 5 ∷ col 1 6 ∷ col 1 7 ∷ col 1 8 ∷ col 1 9 ∷ col 1 10 ∷ []

abbrev stamp_names : List (List ℕ)
stamp_names = codes "serial" ∷ codes "account" ∷ codes "day" ∷ codes "gen" ∷ codes "policy" ∷ codes "algorithm"
    ∷ codes "digest" ∷ codes "request" ∷ codes "tst" ∷ codes "token" ∷ []

asks_stamp : Asks STAMP.now name.Stamp (equals 0 0 ∷ []) stamp_project stamp_names [] no_limit
unfolding understood everything
asks_stamp = record { is = refl; text = record { plain = (refl, refl); unlisted = refl } }

pub finds_stamp : (serial : ℕ) → Finds STAMP.now (Int (pos serial) ∷ []) (λ t. t.stamps) stamp_shown (is_stamp serial)
finds_stamp serial =
    finds name.Stamp (Int (pos serial) ∷ []) (equals 0 0 ∷ []) _ (is_stamp serial) stamp_shown
    (λ y. and_true _ ∙ test_number y.1.serial serial) (λ y. refl) asks_stamp

asks_origin : Asks ORIGIN.now name.Stamp (equals 0 0 ∷ []) (col 1 2 ∷ col 1 4 ∷ []) (codes "account" ∷ codes "gen" ∷ [])
    [] no_limit
unfolding understood everything
asks_origin = record { is = refl; text = record { plain = (refl, refl); unlisted = refl } }

pub finds_origin : (serial : ℕ)
    → Finds ORIGIN.now (Int (pos serial) ∷ []) (λ t. t.stamps) origin_shown (is_stamp serial)
finds_origin serial =
    finds name.Stamp (Int (pos serial) ∷ []) (equals 0 0 ∷ []) _ (is_stamp serial) origin_shown
    (λ y. and_true _ ∙ test_number y.1.serial serial) (λ y. refl) asks_origin

abbrev next_stamp_tests : List Term
next_stamp_tests = op2 (Compare Ge Binary) (col 1 0) (col 0 0) ∷ op2 (Compare Le Binary) (col 1 0) (col 0 1) ∷ []

asks_next_stamp :
    Asks NEXT_STAMP.now name.Stamp next_stamp_tests stamp_project stamp_names ((col 1 0, rising) ∷ []) one
unfolding understood everything
asks_next_stamp = record { is = refl; text = record { plain = (refl, refl); unlisted = refl } }

pub finds_next_stamp : (from to : ℕ) → FindsLeast NEXT_STAMP.now (Int (pos from) ∷ Int (pos to) ∷ []) (λ t. t.stamps)
    stamp_shown (is_within from to) (λ x. x.serial)
finds_next_stamp from to =
    least name.Stamp (Int (pos from) ∷ Int (pos to) ∷ []) next_stamp_tests _ (is_within from to) stamp_shown
    (λ y. ap₂ ◌&&◌ (test_from y.1.serial from) (and_true _ ∙ test_up_to y.1.serial to)) (λ y. refl) (col 1 0)
    (λ x. x.serial) (λ y. refl) asks_next_stamp

asks_last_stamp : Asks LAST_STAMP.now name.Stamp [] (col 1 0 ∷ col 1 4 ∷ []) (codes "serial" ∷ codes "gen" ∷ [])
    ((col 1 0, falling) ∷ []) one
unfolding understood everything
asks_last_stamp = record { is = refl; text = record { plain = (refl, refl); unlisted = refl } }

pub finds_last_stamp : FindsGreatest LAST_STAMP.now [] (λ t. t.stamps) last_shown (λ x. x.serial)
finds_last_stamp =
    greatest name.Stamp [] [] _ (λ x. true) last_shown (λ y. refl) (λ y. refl) (col 1 0) (λ x. x.serial) (λ y. refl)
    (λ x. refl) asks_last_stamp

-- ---- deposits

abbrev deposit_project : List Term
deposit_project = col 1 0 ∷ col 1 2 ∷ col 1 3 ∷ col 1 4 ∷ []

abbrev deposit_names : List (List ℕ)
deposit_names = codes "serial" ∷ codes "owner" ∷ codes "reference" ∷ codes "bytes" ∷ []

asks_deposit : Asks DEPOSIT.now name.Deposit (equals 0 0 ∷ []) deposit_project deposit_names [] no_limit
unfolding understood everything
asks_deposit = record { is = refl; text = record { plain = (refl, refl); unlisted = refl } }

pub finds_deposit : (serial : ℕ)
    → Finds DEPOSIT.now (Int (pos serial) ∷ []) (λ t. t.deposits) deposit_shown (is_deposit serial)
finds_deposit serial =
    finds name.Deposit (Int (pos serial) ∷ []) (equals 0 0 ∷ []) _ (is_deposit serial) deposit_shown
    (λ y. and_true _ ∙ test_number y.1.serial serial) (λ y. refl) asks_deposit

asks_deposit_under :
    Asks DEPOSIT_UNDER.now name.Deposit (equals 2 0 ∷ equals 3 1 ∷ []) deposit_project deposit_names [] no_limit
unfolding understood everything
asks_deposit_under = record { is = refl; text = record { plain = (refl, refl); unlisted = refl } }

pub finds_deposit_under : (owner reference : List ℕ) → Finds DEPOSIT_UNDER.now (Text owner ∷ Text reference ∷ [])
    (λ t. t.deposits) deposit_shown (is_deposit_of owner reference)
finds_deposit_under owner reference =
    finds name.Deposit (Text owner ∷ Text reference ∷ []) (equals 2 0 ∷ equals 3 1 ∷ []) _
    (is_deposit_of owner reference)
    deposit_shown (λ y. ap₂ ◌&&◌ (test_text y.1.owner owner) (and_true _ ∙ test_text y.1.reference reference))
    (λ y. refl) asks_deposit_under

abbrev owned_tests : List Term
owned_tests = op2 (Is Binary) (col 1 0) (col 0 0) ∷ equals 2 1 ∷ []

asks_is_owner : Asks IS_OWNER.now name.Deposit owned_tests (col 1 0 ∷ []) (codes "serial" ∷ []) [] no_limit
unfolding understood everything
asks_is_owner = record { is = refl; text = record { plain = (refl, refl); unlisted = refl } }

pub finds_is_owner : (serial : ℕ) (owner : List ℕ) → Finds IS_OWNER.now (Int (pos serial) ∷ Text owner ∷ [])
    (λ t. t.deposits) number_shown (is_owned serial owner)
finds_is_owner serial owner =
    finds name.Deposit (Int (pos serial) ∷ Text owner ∷ []) owned_tests _ (is_owned serial owner) number_shown
    (λ y. ap₂ ◌&&◌ (test_is y.1.serial serial) (and_true _ ∙ test_text y.1.owner owner)) (λ y. refl) asks_is_owner

asks_labels : Asks LABELS.now name.Deposit (equals 2 0 ∷ []) (col 1 0 ∷ col 1 3 ∷ [])
    (codes "serial" ∷ codes "reference" ∷ []) ((col 1 0, rising) ∷ []) no_limit
unfolding understood everything
asks_labels = record { is = refl; text = record { plain = (refl, refl); unlisted = refl } }

pub finds_labels : (owner : List ℕ) → FindsAll LABELS.now (Text owner ∷ []) (λ t. t.deposits) label_shown label_of
    (λ label. label.serial) label_in (is_owned_by owner)
finds_labels owner =
    all name.Deposit (Text owner ∷ []) (equals 2 0 ∷ []) _ (is_owned_by owner) label_shown
    (λ y. and_true _ ∙ test_text y.1.owner owner) (λ y. refl) (col 1 0) (λ x. x.serial) (λ y. refl) label_of
    (λ label. label.serial) label_in (λ x. refl) (λ x. refl) asks_labels

-- ---- tallies

asks_tally : Asks TALLY.now name.Tally (equals 1 0 ∷ equals 2 1 ∷ []) (col 1 3 ∷ []) (codes "count" ∷ []) [] no_limit
unfolding understood everything
asks_tally = record { is = refl; text = record { plain = (refl, refl); unlisted = refl } }

pub finds_tally : (account : List ℕ) (day : ℕ)
    → Finds TALLY.now (Text account ∷ Int (pos day) ∷ []) (λ t. t.tallies) count_shown (is_tally_of account day)
finds_tally account day =
    finds name.Tally (Text account ∷ Int (pos day) ∷ []) (equals 1 0 ∷ equals 2 1 ∷ []) _ (is_tally_of account day)
    count_shown (λ y. ap₂ ◌&&◌ (test_text y.1.account account) (and_true _ ∙ test_number y.1.day day)) (λ y. refl)
    asks_tally

-- ---- calibrations

abbrev calibration_project : List Term
calibration_project = col 1 0 ∷ col 1 2 ∷ col 1 3 ∷ col 1 4 ∷ []

abbrev calibration_names : List (List ℕ)
calibration_names = codes "n" ∷ codes "reading" ∷ codes "offset_us" ∷ codes "uncertainty" ∷ []

asks_latest_calibration :
    Asks LATEST_CALIBRATION.now name.Calibration [] calibration_project calibration_names ((col 1 0, falling) ∷ []) one
unfolding understood everything
asks_latest_calibration = record { is = refl; text = record { plain = (refl, refl); unlisted = refl } }

pub finds_latest_calibration :
    FindsGreatest LATEST_CALIBRATION.now [] (λ t. t.calibrations) calibration_shown (λ x. x.n)
finds_latest_calibration =
    greatest name.Calibration [] [] _ (λ x. true) calibration_shown (λ y. refl) (λ y. refl) (col 1 0) (λ x. x.n)
    (λ y. refl) (λ x. refl) asks_latest_calibration

asks_calibration :
    Asks CALIBRATION.now name.Calibration (equals 0 0 ∷ []) calibration_project calibration_names [] no_limit
unfolding understood everything
asks_calibration = record { is = refl; text = record { plain = (refl, refl); unlisted = refl } }

pub finds_calibration : (number : ℕ)
    → Finds CALIBRATION.now (Int (pos number) ∷ []) (λ t. t.calibrations) calibration_shown (is_calibration number)
finds_calibration number =
    finds name.Calibration (Int (pos number) ∷ []) (equals 0 0 ∷ []) _ (is_calibration number) calibration_shown
    (λ y. and_true _ ∙ test_number y.1.n number) (λ y. refl) asks_calibration

-- ---- holds

asks_greatest_hold : Asks GREATEST_HOLD.now name.Hold [] (col 1 0 ∷ []) (codes "n" ∷ []) ((col 1 0, falling) ∷ []) one
unfolding understood everything
asks_greatest_hold = record { is = refl; text = record { plain = (refl, refl); unlisted = refl } }

pub finds_greatest_hold : FindsGreatest GREATEST_HOLD.now [] (λ t. t.holds) hold_number_shown (λ x. x.n)
finds_greatest_hold =
    greatest name.Hold [] [] _ (λ x. true) hold_number_shown (λ y. refl) (λ y. refl) (col 1 0) (λ x. x.n) (λ y. refl)
    (λ x. refl) asks_greatest_hold

asks_hold : Asks HOLD.now name.Hold (equals 0 0 ∷ []) (col 1 2 ∷ col 1 3 ∷ []) (codes "from_us" ∷ codes "to_us" ∷ []) []
    no_limit
unfolding understood everything
asks_hold = record { is = refl; text = record { plain = (refl, refl); unlisted = refl } }

pub finds_hold : (number : ℕ) → Finds HOLD.now (Int (pos number) ∷ []) (λ t. t.holds) hold_shown (is_hold number)
finds_hold number =
    finds name.Hold (Int (pos number) ∷ []) (equals 0 0 ∷ []) _ (is_hold number) hold_shown
    (λ y. and_true _ ∙ test_number y.1.n number) (λ y. refl) asks_hold

abbrev hold_at_tests : List Term
hold_at_tests = op2 (Compare Le Binary) (col 1 2) (col 0 0) ∷ op2 (Compare Gt Binary) (col 1 3) (col 0 0) ∷ []

asks_hold_at : Asks HOLD_AT.now name.Hold hold_at_tests (col 1 0 ∷ []) (codes "n" ∷ []) [] no_limit
unfolding understood everything
asks_hold_at = record { is = refl; text = record { plain = (refl, refl); unlisted = refl } }

pub finds_hold_at : (now : ℤ) → Finds HOLD_AT.now (Int now ∷ []) (λ t. t.holds) hold_number_shown (holds_at now)
finds_hold_at now =
    finds name.Hold (Int now ∷ []) hold_at_tests _ (holds_at now) hold_number_shown
    (λ y. ap₂ ◌&&◌ (test_at_most y.1.from now) (and_true _ ∙ test_above y.1.to now)) (λ y. refl) asks_hold_at

-- ---- identities

asks_identity :
    Asks IDENTITY.now name.Identity (equals 0 0 ∷ []) (col 1 0 ∷ col 1 2 ∷ col 1 3 ∷ col 1 4 ∷ [])
    (codes "n" ∷ codes "after_serial" ∷ codes "certificate" ∷ codes "chain" ∷ []) [] no_limit
unfolding understood everything
asks_identity = record { is = refl; text = record { plain = (refl, refl); unlisted = refl } }

pub finds_identity : (number : ℕ)
    → Finds IDENTITY.now (Int (pos number) ∷ []) (λ t. t.identities) identity_shown (is_identity number)
finds_identity number =
    finds name.Identity (Int (pos number) ∷ []) (equals 0 0 ∷ []) _ (is_identity number) identity_shown
    (λ y. and_true _ ∙ test_number y.1.number number) (λ y. refl) asks_identity

asks_greatest_identity :
    Asks GREATEST_IDENTITY.now name.Identity [] (col 1 0 ∷ []) (codes "n" ∷ []) ((col 1 0, falling) ∷ []) one
unfolding understood everything
asks_greatest_identity = record { is = refl; text = record { plain = (refl, refl); unlisted = refl } }

pub finds_greatest_identity :
    FindsGreatest GREATEST_IDENTITY.now [] (λ t. t.identities) identity_number_shown (λ x. x.number)
finds_greatest_identity =
    greatest name.Identity [] [] _ (λ x. true) identity_number_shown (λ y. refl) (λ y. refl) (col 1 0) (λ x. x.number)
    (λ y. refl) (λ x. refl) asks_greatest_identity

-- ---- rights, of accounts and of groups

-- by the number and the name
abbrev pub right_tests : List Term
right_tests = equals 1 0 ∷ equals 2 1 ∷ []

abbrev is_reader_sql : Reader → List ℕ
is_reader_sql reader = by_kind reader IS_READER.now IS_GROUP_READER.now

asks_is_reader : (reader : Reader)
    → Asks (is_reader_sql reader) (rights_in reader) right_tests (col 1 1 ∷ []) (codes "serial" ∷ []) [] no_limit
unfolding understood everything
asks_is_reader (Account whom) = record { is = refl; text = record { plain = (refl, refl); unlisted = refl } }
asks_is_reader (Group whom) = record { is = refl; text = record { plain = (refl, refl); unlisted = refl } }

pub right_test : (serial : ℕ) (whom : List ℕ) (y : Value × ReaderRow)
    → passes right_tests (Int (pos serial) ∷ Text whom ∷ []) (raw reader_cells (λ x e. cc) false y)
    ≡ is_reader_row serial whom y.1
right_test serial whom y = ap₂ ◌&&◌ (test_number y.1.serial serial) (and_true _ ∙ test_text y.1.name whom)

pub finds_is_reader : (reader : Reader) (serial : ℕ)
    → Finds (is_reader_sql reader) (Int (pos serial) ∷ Text (name_of reader) ∷ []) (rights_of reader) readable_shown
    (is_reader_row serial (name_of reader))
finds_is_reader (Account whom) serial =
    finds name.Reader (Int (pos serial) ∷ Text whom ∷ []) right_tests _ (is_reader_row serial whom) readable_shown
    (right_test serial whom) (λ y. refl) (asks_is_reader (Account whom))
finds_is_reader (Group whom) serial =
    finds name.GroupReader (Int (pos serial) ∷ Text whom ∷ []) right_tests _ (is_reader_row serial whom) readable_shown
    (right_test serial whom) (λ y. refl) (asks_is_reader (Group whom))

abbrev next_tests : List Term
next_tests = equals 2 0 ∷ op2 (Compare Gt Binary) (col 1 1) (col 0 1) ∷ []

abbrev next_readable_sql : Reader → List ℕ
next_readable_sql reader = by_kind reader NEXT_READABLE.now NEXT_GROUP_READABLE.now

asks_next_readable : (reader : Reader)
    → Asks (next_readable_sql reader) (rights_in reader) next_tests (col 1 1 ∷ []) (codes "serial" ∷ [])
    ((col 1 1, rising) ∷ []) one
unfolding understood everything
asks_next_readable (Account whom) = record { is = refl; text = record { plain = (refl, refl); unlisted = refl } }
asks_next_readable (Group whom) = record { is = refl; text = record { plain = (refl, refl); unlisted = refl } }

next_test : (whom : List ℕ) (after : ℕ) (y : Value × ReaderRow)
    → passes next_tests (Text whom ∷ Int (pos after) ∷ []) (raw reader_cells (λ x e. cc) false y)
    ≡ is_readable_after whom after y.1
next_test whom after y = ap₂ ◌&&◌ (test_text y.1.name whom) (and_true _ ∙ test_after y.1.serial after)

pub finds_next_readable : (reader : Reader) (after : ℕ)
    → FindsLeast (next_readable_sql reader) (Text (name_of reader) ∷ Int (pos after) ∷ []) (rights_of reader)
    readable_shown (is_readable_after (name_of reader) after) (λ x. x.serial)
finds_next_readable (Account whom) after =
    least name.Reader (Text whom ∷ Int (pos after) ∷ []) next_tests _ (is_readable_after whom after) readable_shown
    (next_test whom after) (λ y. refl) (col 1 1) (λ x. x.serial) (λ y. refl) (asks_next_readable (Account whom))
finds_next_readable (Group whom) after =
    least name.GroupReader (Text whom ∷ Int (pos after) ∷ []) next_tests _ (is_readable_after whom after) readable_shown
    (next_test whom after) (λ y. refl) (col 1 1) (λ x. x.serial) (λ y. refl) (asks_next_readable (Group whom))
