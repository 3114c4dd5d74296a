-- What the digits of a fraction are worth.
use Rattle.std.specs.Prelude.{ℕ, ◌+◌, ◌-◌, ◌*◌, ◌/◌, List, [], ◌∷◌}

-- the sum of the digits, of which the first is worth so many units and each next one a tenth of the one before
abbrev pub worth : ℕ → List ℕ → ℕ
worth unit [] = 0
worth unit (octet ∷ octets) = (octet - 0x30) * unit + worth (unit / 10) octets

-- the microseconds of a fraction of a second
abbrev pub micros_of : List ℕ → ℕ
micros_of octets = worth 100_000 octets
