-- Whether a deposit's octets are those that were stamped.
use Rattle.std.specs.Prelude.{◌≡◌, Option, IfSome}
use Rattle.book.specs.Rows.{DepositRow, StampRow}
use Rattle.sha2.specs.Sha256.{sha256}

-- a deposit, where there is one, has the SHA-256 (FIPS 180-4) that its stamp has as its digest
abbrev pub IsIntact : Option (DepositRow × StampRow) → Type 0
IsIntact found = IfSome found (λ kept. sha256 kept.0.bytes ≡ kept.1.digest)
