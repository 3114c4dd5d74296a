-- What the owner of a deposit is told of its readers: a line for each account and each group of the policy file that
-- has the right to read it.
use Rattle.std.specs.Prelude.{ℕ, Bool, not, ◌&&◌, List, [], ◌++◌, codes, map, if◌then◌else◌}
use Rattle.std.specs.{List.flat_map, Str.bytes_eq}
use Rattle.policy.specs.Record.{PolicyValue}
use Rattle.book.specs.{History.History, Readers.Reader, Readers.Account, Readers.Group, Rights.is_reader}
use Rattle.service.specs.Status.{named}

-- the last entry about the deposit and the reader is a grant; of the owner, who needs none, it isn't told
abbrev pub has_right : List ℕ → ℕ → History → Reader → Bool
has_right owner number b (Account name) = not (bytes_eq name owner) && is_reader number (Account name) b
has_right owner number b (Group name) = is_reader number (Group name) b

abbrev pub reader_named : Reader → List ℕ
reader_named (Account name) = named (codes "account") name
reader_named (Group name) = named (codes "group") name

abbrev pub reader_line : List ℕ → ℕ → History → Reader → List ℕ
reader_line owner number b reader = if has_right owner number b reader then reader_named reader else []

-- all that may have a right, in the file's order
abbrev pub accounts_in : PolicyValue → List Reader
accounts_in file = map (λ a. Account a.name) file.accounts

abbrev pub groups_in : PolicyValue → List Reader
groups_in file = map (λ g. Group g.name) file.groups

abbrev pub readers_text : PolicyValue → List ℕ → ℕ → History → List ℕ
readers_text file owner number b =
    flat_map (reader_line owner number b) (accounts_in file) ++ flat_map (reader_line owner number b) (groups_in file)
