-- The definitions of identities, computed on a worked history.
use Rattle.std.proofs.Common.{◌≡◌, ℕ, [], ◌∷◌, refl, Some, None}
use Rattle.book.specs.History.{Reserved, Installed, InstalledValue, ReservationValue, History}
use Rattle.book.specs.Identities.{latest_identity, identity_at_reservation, identities, identity_before}

abbrev reserved : ℕ → ReservationValue
reserved serial = record {
  serial = serial;
  account = 97 ∷ [];
  gen_time = 5;
  policy = 136 ∷ [];
  algorithm = 136 ∷ [];
  digest = 1 ∷ [];
  request = 2 ∷ [];
  tst = 3 ∷ [];
}

abbrev first : InstalledValue
first = record { certificate = 7 ∷ []; chain = [] }

abbrev second : InstalledValue
second = record { certificate = 6 ∷ []; chain = 7 ∷ [] }

-- a number before any identity, one under the first, one under the second, which was installed twice
abbrev worked : History
worked =
    Reserved (reserved 4) ∷ Installed second ∷ Installed second ∷ Reserved (reserved 2) ∷ Installed first
    ∷ Reserved (reserved 1) ∷ []

identities_worked : identities worked
    ≡ record { number = 1; after_serial = 1; certificate = 7 ∷ []; chain = [] }
    ∷ record { number = 2; after_serial = 2; certificate = 6 ∷ []; chain = 7 ∷ [] }
    ∷ record { number = 3; after_serial = 2; certificate = 6 ∷ []; chain = 7 ∷ [] } ∷ []
identities_worked = refl

latest_worked : latest_identity worked ≡ Some second
latest_worked = refl

none_worked : identity_at_reservation 1 worked ≡ None
none_worked = refl

first_worked : identity_at_reservation 2 worked ≡ Some first
first_worked = refl

second_worked : identity_at_reservation 4 worked ≡ Some second
second_worked = refl

unreserved_worked : identity_at_reservation 3 worked ≡ None
unreserved_worked = refl

-- the second of the two rows that stand after 2
before_worked : identity_before 4 (identities worked)
    ≡ Some (record { number = 3; after_serial = 2; certificate = 6 ∷ []; chain = 7 ∷ [] })
before_worked = refl
