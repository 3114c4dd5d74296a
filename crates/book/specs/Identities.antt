-- Which identity is in force, and which was when a serial number was reserved.
use Rattle.std.specs.Prelude.{ℕ, ◌+◌, ◌==◌, nat_lt, List, [], ◌∷◌, length, reverse, find, Option, None, if◌then◌else◌}
use Rattle.book.specs.Rows.{InstalledRow}
use Rattle.book.specs.History.{Reserved, Installed, InstalledValue, History, installations, first_of, greatest_serial}

-- the identity in force, none before the first is installed
abbrev pub latest_identity : History → Option InstalledValue
latest_identity b = first_of (installations b)

-- the identity in force when a serial number was reserved: the last that was installed before
abbrev pub identity_at_reservation : ℕ → History → Option InstalledValue
identity_at_reservation serial [] = None
identity_at_reservation serial (Reserved r ∷ b) =
    if r.serial == serial then latest_identity b else identity_at_reservation serial b
identity_at_reservation serial (_ ∷ b) = identity_at_reservation serial b

-- an identity that follows a history
abbrev pub installed_row : InstalledValue → History → InstalledRow
installed_row i b = record {
  number = length (installations b) + 1;
  after_serial = greatest_serial b;
  certificate = i.certificate;
  chain = i.chain;
}

-- all of them, the newest first
abbrev pub installed_rows : History → List InstalledRow
installed_rows [] = []
installed_rows (Installed i ∷ b) = installed_row i b ∷ installed_rows b
installed_rows (_ ∷ b) = installed_rows b

-- and by number
abbrev pub identities : History → List InstalledRow
identities b = reverse (installed_rows b)

-- of identities by number, the last one after a serial number that is below this one
abbrev pub identity_before : ℕ → List InstalledRow → Option InstalledRow
identity_before serial rows = find (λ row. nat_lt row.after_serial serial) (reverse rows)

-- the identity of a row
abbrev pub installed_as : InstalledRow → InstalledValue
installed_as row = record { certificate = row.certificate; chain = row.chain }
