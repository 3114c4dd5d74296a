-- What each entry makes of who reads a deposit.
use Rattle.std.proofs.Common.{◌≡◌, ℕ, ◌==◌, ◌&&◌, Bool, true, false, ◌∷◌, cond, refl, Option, Some}
use Rattle.book.specs.{Readers.Reader, Readers.is_same, Rights.gives, Rights.is_reader}
use Rattle.book.specs.History.{Granted, Revoked, History, RightValue}

-- what is found first decides
gives_first : (test : Bool) (right : RightValue) (found : Option RightValue)
    → gives (cond test (Some right) found) ≡ cond test right.is_given (gives found)
gives_first true right found = refl
gives_first false right found = refl

-- a grant makes its reader one, and leaves who else is
pub reader_after_grant : (number : ℕ) (reader : Reader) (n : ℕ) (r : Reader) (b : History)
    → is_reader number reader (Granted n r ∷ b)
    ≡ cond ((n == number) && is_same r reader) true (is_reader number reader b)
reader_after_grant number reader n r b = gives_first ((n == number) && is_same r reader)
    (record { number = n; reader = r; is_given = true }) _

-- a revocation makes its reader none, and leaves who else is
pub reader_after_revocation : (number : ℕ) (reader : Reader) (n : ℕ) (r : Reader) (b : History)
    → is_reader number reader (Revoked n r ∷ b)
    ≡ cond ((n == number) && is_same r reader) false (is_reader number reader b)
reader_after_revocation number reader n r b = gives_first ((n == number) && is_same r reader)
    (record { number = n; reader = r; is_given = false }) _
