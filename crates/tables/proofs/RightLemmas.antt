-- The rights of accounts and of groups, taken back and given.
use Rattle.tables.proofs.Words.{Account, Command, Delete, Group, Int, List, Reader, Text, [], col, everything, false}
use Rattle.tables.proofs.Words.{pos, refl, understood, ℕ, ◌∷◌, ◌≡◌}
use Rattle.tables.proofs.CarryLemmas.{Makes, Says, Steps, carried}
use Rattle.tables.proofs.{FrameLemmas.changed, InsertLemmas.idle, InsertLemmas.rights_in, Lookups.right_test}
use Rattle.tables.proofs.{Lookups.right_tests, ReadLemmas.no_limit, ReadLemmas.program_of, UpdateLemmas.deletes_rows}
use Rattle.tables.specs.Layout.{place_of, reader_cells, tree_of}
use Rattle.tables.specs.Tables.{Tables, by_kind, is_reader_row, name_of, with_right, without_right}
use Rattle.tables.specs.declared.rights.TheConstants.{DELETE_GROUP_READER, DELETE_READER}
use Rattle.tables.specs.{Names.Name, Schema.the_schema, auxiliary.Steps.with_right_alone}
use Rattle.tables.specs.Names as name

abbrev right_delete : Name → Command
right_delete n = Delete (place_of n) (program_of (tree_of n) right_tests (col 1 0 ∷ []) [] no_limit)

abbrev delete_right : Reader → List ℕ
delete_right reader = by_kind reader DELETE_READER.now DELETE_GROUP_READER.now

right_unmakes : (reader : Reader) (serial : ℕ)
    → Makes (right_delete (rights_in reader)) (Int (pos serial) ∷ Text (name_of reader) ∷ [])
    (without_right serial reader)
right_unmakes (Account whom) serial limit text t db out h does =
    let it = deletes_rows reader_cells (λ x e. cc) limit _ the_schema db text (place_of name.Reader) idle _ _ _ _ _ _ _
    (tree_of name.Reader) refl out false t.readers (h.rows name.Reader refl) right_tests (is_reader_row serial whom)
    (right_test serial whom) does in
    record { schema = it.1.1; holds = changed name.Reader db out.1.trees t h _ refl it.1.0 it.0 h.counts }
right_unmakes (Group whom) serial limit text t db out h does =
    let it = deletes_rows reader_cells (λ x e. cc) limit _ the_schema db text (place_of name.GroupReader) idle _ _ _ _ _
    _ _ (tree_of name.GroupReader) refl out false t.group_readers (h.rows name.GroupReader refl) right_tests
    (is_reader_row serial whom) (right_test serial whom) does in
    record { schema = it.1.1; holds = changed name.GroupReader db out.1.trees t h _ refl it.1.0 it.0 h.counts }

says_delete : (reader : Reader) → Says (delete_right reader) (right_delete (rights_in reader))
unfolding understood everything
says_delete (Account whom) = record { is = refl; plain = (refl, refl) }
says_delete (Group whom) = record { is = refl; plain = (refl, refl) }

pub takes_right : (reader : Reader) (serial : ℕ)
    → Steps (delete_right reader) (Int (pos serial) ∷ Text (name_of reader) ∷ []) (without_right serial reader)
takes_right reader serial =
    carried (says_delete reader) _ (λ old new text count w. w) (without_right serial reader)
    (right_unmakes reader serial)

-- given, where it isn't there
pub right_given : (reader : Reader) (serial : ℕ) (t : Tables)
    → with_right_alone serial reader (without_right serial reader t) ≡ with_right serial reader t
right_given (Account whom) serial t = refl
right_given (Group whom) serial t = refl
